-- A machine at an instruction whose claims hold: how the parts that steps are made of keep the invariant.
use Rattle.std.specs.Prelude.{ℕ, suc, ◌+◌, Bool, cond, eqb, leb}
use Rattle.std.proofs.Math.Path.{◌≡◌, refl}
use Rattle.std.proofs.Common.{arith}
use Rattle.std.proofs.Math.Bool.{true, false}
use mathlib.Core.List.{List, [], ◌∷◌, ◌++◌, reverse_aux}
use Rattle.std.proofs.Math.Option.{none, some}
use Rattle.std.proofs.Math.ListN.{length}
use Rattle.std.proofs.Math.Dec.{T}
use Rattle.kit.specs.Claims.{AllT}
use Rattle.reader.specs.BuiltIns.{object}
use Rattle.classfiles.specs.Descriptors.{Ref, cls, arr, Desc, dint, dref, dimensions}
use Rattle.reader.specs.Program.{Program, Method, method}
use Rattle.rules.specs.Instruction.{Instr, falls}
use Rattle.rules.specs.Opcodes.{body, code_of, size_at}
use Rattle.rules.specs.Lines.{Line}
use Rattle.rules.specs.Types.{Key, Ty, top, int, null, ini, uninit, is_array, int_array, object_array, is_dint, tys_of, ref_fits, desc_fits, fits}
use Rattle.rules.specs.States.{State, state}
use Rattle.rules.specs.Frames.{Frame}
use Rattle.rules.specs.Rule.{Rule, rule}
use Rattle.rules.specs.Walk.{frame_at, into_frame, walk, onward}
use Rattle.plain.specs.Heap.{Heap, Val, ref_of, base_of, allocate, has_room, next_ref, value_fits}
use Rattle.plain.specs.Machine.{Call, Result, Here, pop_arguments, go_on, with_room, create}
use Rattle.facts.specs.Classes.{Link, ref_trans}
use Rattle.soundness.specs.Pairs.{All2, acons, all2_map}
use Rattle.soundness.specs.Typing.{Own, is_ready, hty, HTys, upd, VD, vdnul, vdref, VT, Keeps, keeps_self, from_vt, keep_vt, Popped, pcons}
use Rattle.soundness.specs.Blocks.{SizeOk, HOK, vacant, grown, fits_ok}
use Rattle.soundness.specs.Walk.{Seen}
use Rattle.soundness.specs.Inv.{Checked, FlagOK, Me, Slots, Top, Catches, Calls, inv, Good, goes, full, only_ok, keep_flag, calls_keep, arrive, alight, catches}

-- the running call at an instruction, but for its operands
pub record Now (P : Program) (E : List Desc) : Type 0 where
  pub H : Heap
  pub c : ℕ
  pub m : ℕ
  pub o : ℕ
  pub q : ℕ
  pub ls : List Val
  pub ks : List Call
  pub Ψ : HTys
  pub σ : Key → ℕ
  pub g : Bool
  pub l : List Ty
  pub s : List Ty
  pub fs : List Frame
  pub heap : HOK P Ψ H
  pub checked : Checked P (method P c m) fs
  pub calls : Calls P Ψ E ks (method P c m).results q
  pub flag : FlagOK Ψ q g
  pub me : Me σ q
  pub locals : All2 (VT P (method P c m) Ψ (length ks) σ) ls l

module _ {P : Program} {E : List Desc} where
  abbrev pub here : Now P E → Here
  here n = record {
    heap = n.H;
    class = n.c;
    index = n.m;
    offset = n.o;
    after = n.o + size_at (code_of (method P n.c n.m)) n.o;
    self = n.q;
    locals = n.ls;
    waiting = n.ks;
  }

  abbrev pub meth : Now P E → Method
  meth n = method P n.c n.m

  abbrev pub deep : Now P E → ℕ
  deep n = length n.ks

  abbrev pub before : Now P E → State
  before n = state n.g n.l n.s

  abbrev pub R : Now P E → Val → Ty → Type 0
  R n = VT P (method P n.c n.m) n.Ψ (length n.ks) n.σ

  abbrev pub Sees : Now P E → Instr → Type 0
  Sees n i = Seen P (method P n.c n.m) n.fs n.o (state n.g n.l n.s) i

  abbrev pub rule_at : Now P E → Instr → Rule
  rule_at n i = rule P (method P n.c n.m) n.o i (state n.g n.l n.s)

walked : (P : Program) (M : Method) (fs : List Frame) (rest : List Line) (i : Instr) (S : State) → T (falls i) → AllT (walk P M fs rest (onward i S)) → AllT (walk P M fs rest (some S))
walked P M fs rest i S t h = go (falls i) t h
  where
    go : (b : Bool) → T b → AllT (walk P M fs rest (cond b (some S) none)) → AllT (walk P M fs rest (some S))
    go true t h = h
    go false t h = absurd t

module _ {P : Program} (L : Link P) {E : List Desc} (n : Now P E) where
  -- on in this call, with the heap Ψ'
  pub going : {Ψ' : HTys} (H' : Heap) (o' : ℕ) (ls' vs' : List Val) → HOK P Ψ' H' → Keeps (deep n) n.Ψ Ψ' → Top P Ψ' (deep n) (meth n) n.fs o' n.q ls' vs' → Good P E (go_on P (here n) H' o' ls' vs')
  unfolding go_on
  going {Ψ'} H' o' ls' vs' hk k t = only_ok (leb (length vs') (body (meth n)).max_stack) t.room (goes (inv Ψ' n.fs hk n.checked t (calls_keep n.calls k)))

  -- to the next instruction, now or later
  pub onto : {i : Instr} {Ψ' : HTys} {σ' : Key → ℕ} {ls' vs' : List Val} → Sees n i → T (falls i) → Slots P (meth n) Ψ' (deep n) σ' n.q ls' vs' (rule_at n i).after
      → Top P Ψ' (deep n) (meth n) n.fs (here n).after n.q ls' vs'
  onto {i} a f x = arrive L n.checked a.rest a.linkage (walked P (meth n) n.fs a.rest i _ f a.onward) a.room x

  pub on' : {i : Instr} {Ψ' : HTys} (H' : Heap) {σ' : Key → ℕ} {ls' vs' : List Val} → Sees n i → T (falls i) → HOK P Ψ' H' → Keeps (deep n) n.Ψ Ψ'
      → Slots P (meth n) Ψ' (deep n) σ' n.q ls' vs' (rule_at n i).after → Good P E (go_on P (here n) H' (here n).after ls' vs')
  on' H' {ls' = ls'} {vs'} a f hk k x = going H' (here n).after ls' vs' hk k (onto a f x)

  pub on : {i : Instr} {ls' vs' : List Val} → Sees n i → T (falls i) → Slots P (meth n) n.Ψ (deep n) n.σ n.q ls' vs' (rule_at n i).after
      → Good P E (go_on P (here n) n.H (here n).after ls' vs')
  on a f x = on' n.H a f n.heap (keeps_self (deep n) n.Ψ) x

  -- to a frame
  pub leaping : {i : Instr} (t : ℕ) {vs' : List Val} → Sees n i → AllT (into_frame P (rule_at n i).after (frame_at n.fs t))
      → Slots P (meth n) n.Ψ (deep n) n.σ n.q n.ls vs' (rule_at n i).after → Good P E (go_on P (here n) n.H t n.ls vs')
  leaping t {vs'} a j x = going n.H t n.ls vs' n.heap (keeps_self (deep n) n.Ψ) (alight L n.checked t j a.room x)

  pub branch_ok : {i : Instr} (t : ℕ) (b : Bool) {vs' : List Val} → Sees n i → T (falls i) → AllT (into_frame P (rule_at n i).after (frame_at n.fs t))
      → Slots P (meth n) n.Ψ (deep n) n.σ n.q n.ls vs' (rule_at n i).after → Good P E (go_on P (here n) n.H (cond b t (here n).after) n.ls vs')
  branch_ok t true a f j x = leaping t a j x
  branch_ok t false a f j x = on a f x

  -- ---- a block more
  pub create_ok : (t : Ref) (k r : ℕ) (w : Own) → eqb r 1 ≡ is_ready w → ref_of (base_of t) (dimensions t) ≡ t → SizeOk P t k → (f : ℕ → Heap → Result)
      → (HOK P (upd n.Ψ n.H.used (hty t w)) (allocate n.H t k r) → Good P E (f (next_ref n.H) (allocate n.H t k r))) → Good P E (create n.H t k r f)
  unfolding create with_room
  create_ok t k r w re again sz f g = go (has_room n.H k) refl
    where
      go : (b : Bool) → has_room n.H k ≡ b → Good P E (with_room b (λ u. f (next_ref n.H) (allocate n.H t k r)))
      go true e = g (grown n.heap t k w r (rw e tt) re again sz)
      go false e = full

  pub free : n.Ψ n.H.used ≡ none
  free = vacant n.heap n.H.used (omega arith)

  -- ---- throwing
  pub kept_catches : {i : Instr} {Ψ' : HTys} → Sees n i → All2 (R n) n.ls (rule_at n i).caught → Keeps (suc (deep n)) n.Ψ Ψ' → Catches P Ψ' (deep n) (meth n) n.fs n.o n.q n.ls
  kept_catches a x k = catches L n.checked n.o n.g (keep_flag k n.flag) n.me (all2_map (λ v t z. keep_vt k z) x) a.catch

  -- ---- objects
  pub ready_val : {v : Val} → R n v (ini (cls object)) → T (value_fits P n.H (dref (cls object)) v)
  ready_val x = fits_ok n.heap (from_vt (dref (cls object)) x)

  pub same_kind : (D' D : Desc) → T (desc_fits P D' D) → is_dint D' ≡ is_dint D
  unfolding desc_fits
  same_kind dint dint h = refl
  same_kind dint (dref t) h = absurd h
  same_kind (dref u) dint h = absurd h
  same_kind (dref u) (dref t) h = refl

  pub int-array : (t : Ty) → T (fits P t int_array) → T (is_array t) × ((D : Desc) → t ≡ ini (arr D) → is_dint D ≡ true)
  unfolding fits ref_fits desc_fits
  int-array top h = absurd h
  int-array int h = absurd h
  int-array null h = (tt, λ D e. let z : ◌≡◌ {A = ℕ} 0 1 = cc in absurd (omega arith))
  int-array (ini (cls c)) h = absurd h
  int-array (ini (arr dint)) h = (tt, λ D e. let z : dint ≡ D = cc in rw (← z) refl)
  int-array (ini (arr (dref u))) h = absurd h
  int-array (uninit k) h = absurd h

  pub object-array : (t : Ty) → T (fits P t object_array) → T (is_array t) × ((D : Desc) → t ≡ ini (arr D) → is_dint D ≡ false)
  unfolding fits ref_fits desc_fits
  object-array top h = absurd h
  object-array int h = absurd h
  object-array null h = (tt, λ D e. let z : ◌≡◌ {A = ℕ} 0 1 = cc in absurd (omega arith))
  object-array (ini (cls c)) h = absurd h
  object-array (ini (arr dint)) h = absurd h
  object-array (ini (arr (dref u))) h = (tt, λ D e. let z : dref u ≡ D = cc in rw (← z) refl)
  object-array (uninit k) h = absurd h

  pub wider : {v : Val} (D' D : Desc) → T (desc_fits P D' D) → VD P n.Ψ v D' → VD P n.Ψ v D
  unfolding desc_fits
  wider dint dint h x = x
  wider dint (dref t) h x = absurd h
  wider (dref u) dint h x = absurd h
  wider (dref u) (dref t) h vdnul = vdnul
  wider (dref u) (dref t) h (vdref e p y) = vdref e p (ref_trans P L e u t y h)

  -- ---- arguments, the last on top
  pub args_ok : (Ds : List Desc) {vs : List Val} (us : List Ty) {ts : List Ty} (as₀ : List Val) (Ds₀ : List Desc) → Popped (R n) vs (tys_of Ds ++ us) ts → All2 (VD P n.Ψ) as₀ Ds₀
      → (k : List Val → List Val → Result) → ((args rest : List Val) → All2 (VD P n.Ψ) args (reverse_aux Ds Ds₀) → Popped (R n) rest us ts → Good P E (k args rest)) → Good P E (pop_arguments P n.H Ds as₀ vs k)
  unfolding pop_arguments
  args_ok [] {vs} us as₀ Ds₀ p y k f = f as₀ vs y p
  args_ok (D ∷ Ds) us as₀ Ds₀ (pcons {v = v} x p) y k f =
      let z : VD P n.Ψ v D = from_vt D x in
      only_ok (value_fits P n.H D v) (fits_ok n.heap z) (args_ok Ds us (v ∷ as₀) (D ∷ Ds₀) p (acons z y) k f)
