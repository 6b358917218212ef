-- Each form that stays in its call keeps the invariant: constants, operands, locals, integers, branches, casts.
use Rattle.std.specs.Prelude.{ℕ, zero, suc, ◌+◌, ◌<◌, ◌≡◌, Bool, length, get_or, drop, set, eqb, leb}
use Rattle.std.proofs.Math.Path.{refl}
use Rattle.std.specs.Bool.{beq}
use mathlib.Core.List.{List, [], ◌∷◌, append-nil}
use Rattle.std.proofs.Common.{arith, leb→le}
use Rattle.std.proofs.Math.Dec.{T}
use Rattle.kit.specs.Claims.{AllT}
use Rattle.classfiles.specs.Descriptors.{Ref, Desc}
use Rattle.reader.specs.Program.{Program}
use Rattle.rules.specs.Instruction.{Instr, Op, Test, nop, aconstnull, pop, dup, dupx1, swap, ineg, iconst, iload, aload, istore, astore, goto, iinc, ibin, ifint, ificmp, ifacmp, ifnull, instanceof, targets}
use Rattle.rules.specs.Types.{Ty, top, int, null, ini, uninit, object_ty, is_int, is_reference}
use Rattle.rules.specs.States.{top_of, operand}
use Rattle.rules.specs.Rule.{rule}
use Rattle.rules.specs.Walk.{frame_at, into_frame, branch_claims}
use Rattle.plain.specs.Integers.{holds, wrap}
use Rattle.plain.specs.Heap.{Val, empty, num, ready_at, is_ref, to_cell, value_fits}
use Rattle.plain.specs.Machine.{with_int, local_at, set_locals, push}
use Rattle.plain.specs.Step.{execute, object_desc}
use Rattle.facts.specs.Base.{AllT-left}
use Rattle.facts.specs.Classes.{Link}
use Rattle.soundness.specs.Pairs.{All2, acons, all2_set, all2_put, all2_at}
use Rattle.soundness.specs.Typing.{ready, vtop, vint, vnull, vnulc, vini, vraw, Peeled, peeled, peel, Popped, pnil, pcons, popped}
use Rattle.soundness.specs.Inv.{typed, Good, only_ok}
use Rattle.soundness.specs.Steps.{Now, here, R, Sees, rule_at, on, leaping, branch_ok, ready_val}

-- a local whose type passes a test that top fails is there
pub within : (test : Ty → Bool) → (T (test top) → ⊥) → (l : List Ty) (j : ℕ) → T (test (get_or l j top)) → j < length l
within test f [] j h = absurd (f h)
within test f (t ∷ l) zero h = omega arith
within test f (t ∷ l) (suc j) h = let i : j < length l = within test f l j h in omega arith

module _ {P : Program} (L : Link P) {E : List Desc} (n : Now P E) where
  -- an int, a reference
  abbrev Holds : Instr → List Val → Type 0
  Holds i vs = Good P E (execute P (here n) vs i)

  int_val : {v : Val} {t : Ty} → R n v t → T (is_int t) → R n v int
  int_val vtop h = absurd h
  int_val vint h = vint
  int_val vnull h = absurd h
  int_val vnulc h = absurd h
  int_val (vini e p q) h = absurd h
  int_val (vraw e r p q) h = absurd h

  ref_val : {v : Val} {t : Ty} → R n v t → T (is_reference t) → T (is_ref v)
  ref_val vtop h = absurd h
  ref_val vint h = absurd h
  ref_val vnull h = tt
  ref_val vnulc h = tt
  ref_val (vini e p q) h = tt
  ref_val (vraw e r p q) h = tt

  -- the top operand, and the second
  pub one : {vs : List Val} → T (leb 1 (length n.s)) → All2 (R n) vs n.s → Peeled (R n) vs (top_of n.s) (drop 1 n.s)
  one l xs = let i = leb→le 1 (length n.s) l in peel 0 n.s (omega arith) xs

  pub two : {vs : List Val} → T (leb 2 (length n.s)) → All2 (R n) vs (drop 1 n.s) → Peeled (R n) vs (operand 1 n.s) (drop 2 n.s)
  two l xs = let i = leb→le 2 (length n.s) l in peel 1 n.s (omega arith) xs

  pub pops : {i : Instr} {vs : List Val} (us : List Ty) → (rule_at n i).takes ≡ us → Sees n i → All2 (R n) vs n.s → Popped (R n) vs us (drop (length us) n.s)
  pops {i} us e a ts =
      popped L us [] n.s (rw e at a.count) ts (rw (append-nil us) (rw e at a.need))

  -- ---- operands
  pub nop_ok : {vs : List Val} → Sees n nop → All2 (R n) vs n.s → Holds nop vs
  unfolding execute rule
  nop_ok a ts = on L n a tt (typed n.flag n.me n.locals ts)

  pub aconstnull_ok : {vs : List Val} → Sees n aconstnull → All2 (R n) vs n.s → Holds aconstnull vs
  unfolding execute rule
  aconstnull_ok a ts = on L n a tt (typed n.flag n.me n.locals (acons vnull ts))

  pub iconst_ok : (k : ℕ) {vs : List Val} → Sees n (iconst k) → All2 (R n) vs n.s → Holds (iconst k) vs
  unfolding execute rule
  iconst_ok k a ts = on L n a tt (typed n.flag n.me n.locals (acons vint ts))

  pub pop_ok : {vs : List Val} → Sees n pop → Peeled (R n) vs (top_of n.s) (drop 1 n.s) → Holds pop vs
  unfolding execute rule
  pop_ok a (peeled x ts) = on L n a tt (typed n.flag n.me n.locals ts)

  pub dup_ok : {vs : List Val} → Sees n dup → All2 (R n) vs n.s → Peeled (R n) vs (top_of n.s) (drop 1 n.s) → Holds dup vs
  unfolding execute rule
  dup_ok a xs (peeled x ts) = on L n a tt (typed n.flag n.me n.locals (acons x xs))

  pub dupx1_ok : {vs : List Val} → Sees n dupx1 → Peeled (R n) vs (top_of n.s) (drop 1 n.s) → Holds dupx1 vs
  unfolding execute rule
  dupx1_ok a (peeled {v = v} {vs = r} x ts) = go (two a.count ts)
    where
      go : {r : List Val} → Peeled (R n) r (operand 1 n.s) (drop 2 n.s) → Holds dupx1 (v ∷ r)
      go (peeled y ts) = on L n a tt (typed n.flag n.me n.locals (acons x (acons y (acons x ts))))

  pub swap_ok : {vs : List Val} → Sees n swap → Peeled (R n) vs (top_of n.s) (drop 1 n.s) → Holds swap vs
  unfolding execute rule
  swap_ok a (peeled {v = v} x ts) = go (two a.count ts)
    where
      go : {r : List Val} → Peeled (R n) r (operand 1 n.s) (drop 2 n.s) → Holds swap (v ∷ r)
      go (peeled y ts) = on L n a tt (typed n.flag n.me n.locals (acons y (acons x ts)))

  -- ---- integers
  pub ineg_ok : {vs : List Val} → Sees n ineg → Popped (R n) vs (int ∷ []) (drop 1 n.s) → Holds ineg vs
  unfolding execute rule
  ineg_ok a (pcons vint (pnil ts)) = on L n a tt (typed n.flag n.me n.locals (acons vint ts))

  pub ibin_ok : (f : Op) {vs : List Val} → Sees n (ibin f) → Popped (R n) vs (int ∷ int ∷ []) (drop 2 n.s) → Holds (ibin f) vs
  unfolding execute rule
  ibin_ok f a (pcons vint (pcons vint (pnil ts))) = on L n a tt (typed n.flag n.me n.locals (acons vint ts))

  -- ---- locals
  pub iload_ok : (j : ℕ) {vs : List Val} → Sees n (iload j) → All2 (R n) vs n.s → Holds (iload j) vs
  unfolding execute rule
  iload_ok j {vs} a ts = go (int_val (all2_at n.locals j empty top (within is_int (λ t. t) n.l j a.ask.0)) a.ask.0)
    where
      go : {v : Val} → R n v int → Good P E (with_int v λ k. push P (here n) (num k ∷ vs))
      go vint = on L n a tt (typed n.flag n.me n.locals (acons vint ts))

  pub iinc_ok : (j k : ℕ) {vs : List Val} → Sees n (iinc j k) → All2 (R n) vs n.s → Holds (iinc j k) vs
  unfolding execute rule
  iinc_ok j k {vs} a ts = go (int_val (all2_at n.locals j empty top (within is_int (λ t. t) n.l j a.ask.0)) a.ask.0)
    where
      is-int : (t : Ty) → T (is_int t) → t ≡ int
      is-int top h = absurd h
      is-int int h = refl
      is-int null h = absurd h
      is-int (ini u) h = absurd h
      is-int (uninit u) h = absurd h

      put : (v : ℕ) → R n (num v) (get_or n.l j top)
      put v = rw (is-int (get_or n.l j top) a.ask.0) vint

      go : {v : Val} → R n v int → Good P E (with_int v λ i. set_locals P (here n) (set n.ls j (num (wrap (i + k)))) vs)
      go (vint {a = i}) = on L n a tt (typed n.flag n.me (all2_put n.locals j top (put (wrap (i + k)))) ts)

  pub aload_ok : (j : ℕ) {vs : List Val} → Sees n (aload j) → All2 (R n) vs n.s → Holds (aload j) vs
  unfolding execute rule
  aload_ok j a ts =
      let x : R n (local_at n.ls j) (get_or n.l j top) = all2_at n.locals j empty top (within is_reference (λ t. t) n.l j a.ask.0) in
      only_ok (is_ref (local_at n.ls j)) (ref_val x a.ask.0) (on L n a tt (typed n.flag n.me n.locals (acons x ts)))

  pub istore_ok : (j : ℕ) {vs : List Val} → Sees n (istore j) → Popped (R n) vs (int ∷ []) (drop 1 n.s) → Holds (istore j) vs
  unfolding execute rule
  istore_ok j a (pcons vint (pnil ts)) = on L n a tt (typed n.flag n.me (all2_set n.locals j vint) ts)

  pub astore_ok : (j : ℕ) {vs : List Val} → Sees n (astore j) → Peeled (R n) vs (top_of n.s) (drop 1 n.s) → Holds (astore j) vs
  unfolding execute rule
  astore_ok j a (peeled {v = v} x ts) = only_ok (is_ref v) (ref_val x a.ask.0) (on L n a tt (typed n.flag n.me (all2_set n.locals j x) ts))

  -- ---- branches
  target : {i : Instr} (t : ℕ) → targets i ≡ t ∷ [] → Sees n i → AllT (into_frame P (rule_at n i).after (frame_at n.fs t))
  unfolding branch_claims
  target {i} t e a = AllT-left (into_frame P (rule_at n i).after (frame_at n.fs t)) _ (rw e at a.leaps)

  pub goto_ok : (t : ℕ) {vs : List Val} → Sees n (goto t) → All2 (R n) vs n.s → Holds (goto t) vs
  unfolding execute rule
  goto_ok t a ts = leaping L n t a (target t refl a) (typed n.flag n.me n.locals ts)

  pub ifint_ok : (f : Test) (t : ℕ) {vs : List Val} → Sees n (ifint f t) → Popped (R n) vs (int ∷ []) (drop 1 n.s) → Holds (ifint f t) vs
  unfolding execute rule
  ifint_ok f t a (pcons (vint {a = k}) (pnil ts)) = branch_ok L n t (holds f k 0) a tt (target t refl a) (typed n.flag n.me n.locals ts)

  pub ificmp_ok : (f : Test) (t : ℕ) {vs : List Val} → Sees n (ificmp f t) → Popped (R n) vs (int ∷ int ∷ []) (drop 2 n.s) → Holds (ificmp f t) vs
  unfolding execute rule
  ificmp_ok f t a (pcons (vint {a = k}) (pcons (vint {a = j}) (pnil ts))) = branch_ok L n t (holds f j k) a tt (target t refl a) (typed n.flag n.me n.locals ts)

  pub ifnull_ok : (b : Bool) (t : ℕ) {vs : List Val} → Sees n (ifnull b t) → Popped (R n) vs (object_ty ∷ []) (drop 1 n.s) → Holds (ifnull b t) vs
  unfolding execute rule
  ifnull_ok b t a (pcons {v = v} x (pnil ts)) =
      only_ok (value_fits P n.H object_desc v) (ready_val L n x) (branch_ok L n t (beq b (eqb (to_cell v) 0)) a tt (target t refl a) (typed n.flag n.me n.locals ts))

  pub ifacmp_ok : (b : Bool) (t : ℕ) {vs : List Val} → Sees n (ifacmp b t) → Popped (R n) vs (object_ty ∷ object_ty ∷ []) (drop 2 n.s) → Holds (ifacmp b t) vs
  unfolding execute rule
  ifacmp_ok b t a (pcons {v = w} x (pcons {v = v} y (pnil ts))) =
      only_ok (value_fits P n.H object_desc w) (ready_val L n x) (only_ok (value_fits P n.H object_desc v) (ready_val L n y)
      (branch_ok L n t (beq b (eqb (to_cell v) (to_cell w))) a tt (target t refl a) (typed n.flag n.me n.locals ts)))

  -- ---- tests of a type

  pub instanceof_ok : (u : Ref) {vs : List Val} → Sees n (instanceof u) → Popped (R n) vs (object_ty ∷ []) (drop 1 n.s) → Holds (instanceof u) vs
  unfolding execute rule
  instanceof_ok u a (pcons vnulc (pnil ts)) = on L n a tt (typed n.flag n.me n.locals (acons vint ts))
  instanceof_ok u a (pcons (vini {a = b} e p q) (pnil ts)) =
      only_ok (ready_at n.H b) (rw (n.heap.found b e ready p).ready tt) (on L n a tt (typed n.flag n.me n.locals (acons vint ts)))
