-- Throws keep the invariant, and so does what may end in one.
use Rattle.std.specs.Prelude.{ℕ, suc, ◌<◌, ◌≤◌, Bool, ltb}
use Rattle.std.proofs.Math.Path.{◌≡◌, refl}
use Rattle.std.proofs.Common.{sym, ap, ◌∙◌, arith, ltb→lt}
use Rattle.std.proofs.Math.Bool.{true, false}
use Rattle.std.specs.Bool.{beq}
use mathlib.Core.List.{List, []}
use Rattle.std.proofs.Math.Option.{some}
use Rattle.std.proofs.Math.ListN.{length}
use Rattle.std.proofs.Math.Dec.{T, eqb_refl}
use Rattle.reader.specs.BuiltIns.{throwable, first_class, object, null_pointer, array_index}
use Rattle.classfiles.specs.Descriptors.{Ref, cls, arr, Desc, dref}
use Rattle.reader.specs.Program.{Program, below}
use Rattle.rules.specs.Instruction.{Instr}
use Rattle.rules.specs.Types.{Ty, top, int, null, ini, uninit, is_array, is_dint, ref_fits, desc_fits}
use Rattle.plain.specs.Heap.{Val, ref, type_at, ready_at, element_at, allocate, value_fits}
use Rattle.plain.specs.Heap.{size_at as count_at}
use Rattle.plain.specs.Machine.{Result, create, throw, fault, receiver, with_element}
use Rattle.plain.specs.Step.{element}
use Rattle.facts.specs.Classes.{Link}
use Rattle.soundness.specs.Pairs.{All2}
use Rattle.soundness.specs.Cells.{class_again}
use Rattle.soundness.specs.Typing.{ready, hty, upd, upd_same, vdref, vnull, vnulc, vini, keeps_self, keeps_more}
use Rattle.soundness.specs.Blocks.{Block, fits_ok}
use Rattle.soundness.specs.Inv.{Good, only_ok, cond_ok, landing_ok, lands}
use Rattle.soundness.specs.Steps.{Now, here, R, Sees, rule_at, create_ok, free, kept_catches, same_kind}
use Rattle.soundness.proofs.Inv.{landed_ok}

module _ {P : Program} (L : Link P) {E : List Desc} (n : Now P E) where
  -- ---- throwing
  pub throw_ok : {i : Instr} (a c : ℕ) → Sees n i → All2 (R n) n.ls (rule_at n i).caught → n.Ψ a ≡ some (hty (cls c) ready) → T (below P c throwable) → Good P E (throw P (here n) (suc a) c)
  unfolding throw
  throw_ok a c e x p b =
      landed_ok {Ψ = n.Ψ} c b (λ k. k (suc a) n.H) (λ k f. f n.Ψ n.H a n.heap (λ d. keeps_self d n.Ψ) p)
      (landing_ok c n.c n.m [] n.fs n.checked (λ Ψ' k. kept_catches L n e x k) n.calls (lands c n.calls))

  pub fault_ok : {i : Instr} (c : ℕ) → throwable ≤ c → c < first_class → Sees n i → All2 (R n) n.ls (rule_at n i).caught → Good P E (fault P (here n) c)
  unfolding fault
  fault_ok c b l e x =
      landed_ok {Ψ = n.Ψ} c (L.thrown c b l) (create n.H (cls c) 0 1)
      (λ k f. create_ok L n (cls c) 0 1 ready refl (class_again c) (sym (ap length (L.plain c l))) k
      (λ hk. f (upd n.Ψ n.H.used (hty (cls c) ready)) (allocate n.H (cls c) 0 1) n.H.used hk (λ d. keeps_more d n.Ψ n.H.used (hty (cls c) ready) (free L n)) (upd_same n.Ψ n.H.used (hty (cls c) ready))))
      (landing_ok c n.c n.m [] n.fs n.checked (λ Ψ' k. kept_catches L n e x k) n.calls (lands c n.calls))

  -- ---- objects
  pub receiver_ok : {i : Instr} (u : Ref) {v : Val} → Sees n i → All2 (R n) n.ls (rule_at n i).caught → R n v (ini u) → (k : ℕ → Result)
      → ((a : ℕ) (e : Ref) → n.Ψ a ≡ some (hty e ready) → T (ref_fits P e u) → Block P n.Ψ n.H a e ready → Good P E (k a)) → Good P E (receiver P (here n) u v k)
  unfolding receiver
  receiver_ok u e x vnulc k f = fault_ok null_pointer (omega arith) (omega arith) e x
  receiver_ok u e x (vini {a} t p s) k f =
      let b : Block P n.Ψ n.H a t ready = n.heap.found a t ready p in
      only_ok (ready_at n.H a) (rw b.ready tt) (only_ok (value_fits P n.H (dref u) (ref (suc a))) (fits_ok n.heap (vdref {a = a} t p s)) (f a t p s b))

  -- an array: of which type, and where
  pub array_ok : {i : Instr} (t : Ty) {v : Val} → Sees n i → All2 (R n) n.ls (rule_at n i).caught → T (is_array t) → R n v t → (k : ℕ → Desc → Result)
      → ((a : ℕ) (D D' : Desc) → t ≡ ini (arr D) → n.Ψ a ≡ some (hty (arr D') ready) → T (desc_fits P D' D) → Block P n.Ψ n.H a (arr D') ready → Good P E (k a D'))
      → Good P E (receiver P (here n) (cls object) v λ a. with_element (type_at n.H a) λ d. k a d)
  unfolding ref_fits receiver
  array_ok top e x y v k f = absurd y
  array_ok int e x y v k f = absurd y
  array_ok null e x y vnull k f = fault_ok null_pointer (omega arith) (omega arith) e x
  array_ok (ini (cls b)) e x y v k f = absurd y
  array_ok (ini (arr D)) e x y vnulc k f = fault_ok null_pointer (omega arith) (omega arith) e x
  array_ok (ini (arr D)) e x y (vini (cls b) p s) k f = absurd s
  array_ok (ini (arr D)) e x y (vini {a} (arr D') p s) k f =
      let b : Block P n.Ψ n.H a (arr D') ready = n.heap.found a (arr D') ready p in
      only_ok (ready_at n.H a) (rw b.ready tt) (only_ok (value_fits P n.H (dref (cls object)) (ref (suc a))) (fits_ok n.heap (vdref {a = a} (arr D') p (eqb_refl 0)))
      (rw b.type (f a D D' refl p s b)))
  array_ok (uninit j) e x y v k f = absurd y

  -- the element at an index of an array of ints or of references
  pub element_ok : {i : Instr} (ints : Bool) (j : ℕ) (t : Ty) {v : Val} → Sees n i → All2 (R n) n.ls (rule_at n i).caught → T (is_array t) → ((D : Desc) → t ≡ ini (arr D) → is_dint D ≡ ints) → R n v t → (k : Desc → ℕ → Result)
      → ((a : ℕ) (D D' : Desc) → t ≡ ini (arr D) → n.Ψ a ≡ some (hty (arr D') ready) → T (desc_fits P D' D) → is_dint D' ≡ ints → j < count_at n.H a → Block P n.Ψ n.H a (arr D') ready → Good P E (k D' (element_at a j)))
      → Good P E (element P (here n) ints v j k)
  unfolding element
  element_ok ints j t e x y z v k f = array_ok t e x y v _ (λ a D D' q p s b.
      let kind : is_dint D' ≡ ints = same_kind L n D' D s ∙ z D q in
      only_ok (beq ints (is_dint D')) (rw kind (beq_refl ints)) (cond_ok (ltb j (count_at n.H a)) (λ l. f a D D' q p s kind (ltb→lt j (count_at n.H a) l) b) (λ l. fault_ok array_index (omega arith) (omega arith) e x)))
    where
      beq_refl : (b : Bool) → T (beq b b)
      beq_refl true = tt
      beq_refl false = tt
