-- The forms that read and write the heap keep the invariant: fields, arrays, throws.
use Rattle.std.specs.Prelude.{ℕ, suc, Bool, List, [], ◌∷◌, drop}
use Rattle.std.proofs.Math.Path.{◌≡◌, refl}
use Rattle.std.proofs.Math.Bool.{true, false}
use Rattle.std.proofs.Math.Option.{some}
use Rattle.std.proofs.Common.{arith}
use Rattle.std.proofs.Math.Dec.{T}
use Rattle.reader.specs.BuiltIns.{object, throwable, array_store, negative_size}
use Rattle.classfiles.specs.Descriptors.{Ref, cls, arr, Desc, dint, dref, known_desc}
use Rattle.reader.specs.Program.{Program, class_count}
use Rattle.rules.specs.Instruction.{Instr, FieldRef, arraylength, iaload, aaload, iastore, aastore, athrow, getfield, putfield, newarray}
use Rattle.rules.specs.Types.{Ty, int, ini, ty_of, object_ty, throwable_ty, int_array, object_array, element_ty, is_dint, ref_fits, fits}
use Rattle.rules.specs.States.{state, top_of, operand}
use Rattle.rules.specs.Rule.{rule}
use Rattle.plain.specs.Integers.{negative}
use Rattle.plain.specs.Heap.{Val, num, ref, cell, element_at, store, allocate, from_cell, to_cell, value_fits}
use Rattle.plain.specs.Machine.{throw}
use Rattle.plain.specs.Step.{execute, load, make_array, get_field, put_field, object_desc}
use Rattle.facts.specs.Classes.{Link, ref_refl}
use Rattle.facts.specs.Resolution.{FieldOk}
use Rattle.soundness.specs.Pairs.{acons}
use Rattle.soundness.specs.Cells.{array_again, class-cell}
use Rattle.soundness.specs.Typing.{ready, hty, upd, upd_same, VD, vdint, VT, vint, vini, keeps_self, keeps_more, to_vt, from_vt, cell_ok, Peeled, peeled, Popped, pnil, pcons}
use Rattle.soundness.specs.Blocks.{Block, written, fits_ok, passes}
use Rattle.soundness.specs.Inv.{Slots, typed, Good, only_ok, cond_ok, keep_slots}
use Rattle.soundness.specs.Steps.{Now, here, meth, deep, R, Sees, on, on', create_ok, free, ready_val, int-array, object-array, wider}
use Rattle.soundness.specs.Objects.{placed}
use Rattle.soundness.proofs.Steps.{throw_ok, fault_ok, receiver_ok, array_ok, element_ok}

module _ {P : Program} (L : Link P) {E : List Desc} (n : Now P E) where
  abbrev Holds : Instr → List Val → Type 0
  Holds i vs = Good P E (execute P (here n) vs i)

  -- ---- fields
  pub getfield_ok : (f : FieldRef) → FieldOk P f → {vs : List Val} → Sees n (getfield f) → Popped (R n) vs (ini (cls f.named) ∷ []) (drop 1 n.s) → Holds (getfield f) vs
  unfolding execute rule get_field
  getfield_ok f k a (pcons x (pnil ts)) = receiver_ok L n (cls f.named) a n.locals x _ (λ b e p s w.
      let q = placed L n f k b e s w in
      let v : VD P n.Ψ (from_cell f.type (cell n.H (element_at b f.slot))) f.type = rw q.desc at (w.content f.slot q.inside) in
      on L n a tt (typed n.flag n.me n.locals (acons (to_vt (meth n) (deep n) n.σ v) ts)))

  pub putfield_ok : (f : FieldRef) → FieldOk P f → {vs : List Val} → Sees n (putfield f) → Popped (R n) vs (ty_of f.type ∷ ini (cls f.named) ∷ []) (drop 2 n.s) → Holds (putfield f) vs
  unfolding execute rule put_field
  putfield_ok f k a (pcons {v = w} y (pcons x (pnil ts))) =
      only_ok (value_fits P n.H f.type w) (fits_ok n.heap (from_vt f.type y)) (receiver_ok L n (cls f.named) a n.locals x _ (λ b e p s u.
      let q = placed L n f k b e s u in
      on' L n (store n.H (element_at b f.slot) (to_cell w)) a tt
      (written n.heap b e ready f.slot (to_cell w) p q.inside (rw q.desc (cell_ok (from_vt f.type y)))) (keeps_self (deep n) n.Ψ) (typed n.flag n.me n.locals ts)))

  -- ---- arrays
  pub arraylength_ok : {vs : List Val} → Sees n arraylength → Peeled (R n) vs (top_of n.s) (drop 1 n.s) → Holds arraylength vs
  unfolding execute rule
  arraylength_ok a (peeled x ts) =
      array_ok L n (top_of n.s) a n.locals a.ask.0 x _ (λ b D D' e p y w. on L n a tt (typed n.flag n.me n.locals (acons vint ts)))

  pub iaload_ok : {vs : List Val} → Sees n iaload → Popped (R n) vs (int ∷ int_array ∷ []) (drop 2 n.s) → Holds iaload vs
  unfolding execute rule load fits
  iaload_ok a (pcons (vint {a = j}) (pcons x (pnil ts))) =
      let k = int-array L n int_array (ref_refl P (arr dint)) in
      element_ok L n true j int_array a n.locals k.0 k.1 x _ (λ b D D' e p y z l w.
      let d : D' ≡ dint = is-int D' z in
      let v : VD P n.Ψ (from_cell D' (cell n.H (element_at b j))) D' = w.content j l in
      on L n a tt (typed n.flag n.me n.locals (acons (loaded D' d v) ts)))
    where
      is-int : (D : Desc) → is_dint D ≡ true → D ≡ dint
      is-int dint e = refl
      is-int (dref u) e = let z : ◌≡◌ {A = ℕ} 0 1 = cc in absurd (omega arith)

      loaded : (D : Desc) → D ≡ dint → {v : Val} → VD P n.Ψ v D → R n v int
      loaded D e x = to_vt (meth n) (deep n) n.σ (rw e at x)

  pub iastore_ok : {vs : List Val} → Sees n iastore → Popped (R n) vs (int ∷ int ∷ int_array ∷ []) (drop 3 n.s) → Holds iastore vs
  unfolding execute rule fits
  iastore_ok a (pcons (vint {a = k}) (pcons (vint {a = j}) (pcons x (pnil ts)))) =
      let i = int-array L n int_array (ref_refl P (arr dint)) in
      element_ok L n true j int_array a n.locals i.0 i.1 x _ (λ b D D' e p y z l w.
      on' L n (store n.H (element_at b j) k) a tt (written n.heap b (arr D') ready j k p l (int-cell D' z)) (keeps_self (deep n) n.Ψ) (typed n.flag n.me n.locals ts))
    where
      int-cell : (D : Desc) → is_dint D ≡ true → VD P n.Ψ (from_cell D k) D
      int-cell dint e = vdint
      int-cell (dref u) e = let z : ◌≡◌ {A = ℕ} 0 1 = cc in absurd (omega arith)

  pub aaload_ok : {vs : List Val} → T (fits P (operand 1 n.s) object_array) → Sees n aaload → Peeled (R n) vs (operand 1 n.s) (drop 2 n.s) → (j : ℕ) → Holds aaload (num j ∷ vs)
  unfolding execute rule load
  aaload_ok f a (peeled x ts) j =
      let k = object-array L n (operand 1 n.s) f in
      element_ok L n false j (operand 1 n.s) a n.locals k.0 k.1 x _ (λ b D D' e p y z l w.
      let v : R n (from_cell D' (cell n.H (element_at b j))) (element_ty (operand 1 n.s)) = rw e (to_vt (meth n) (deep n) n.σ (wider L n D' D y (w.content j l))) in
      on L n a tt (typed n.flag n.me n.locals (acons v ts)))

  pub aastore_ok : {vs : List Val} → Sees n aastore → Popped (R n) vs (object_ty ∷ int ∷ object_array ∷ []) (drop 3 n.s) → Holds aastore vs
  unfolding execute rule fits
  aastore_ok a (pcons {v = w} v (pcons (vint {a = j}) (pcons x (pnil ts)))) =
      let k = object-array L n object_array (ref_refl P (arr (dref (cls object)))) in
      only_ok (value_fits P n.H object_desc w) (ready_val L n v) (element_ok L n false j object_array a n.locals k.0 k.1 x _ (λ b D D' e p y z l u.
      cond_ok (value_fits P n.H D' w)
      (λ t. on' L n (store n.H (element_at b j) (to_cell w)) a tt
      (written n.heap b (arr D') ready j (to_cell w) p l (cell_ok (passes n.heap (from_vt (dref (cls object)) v) D' t))) (keeps_self (deep n) n.Ψ) (typed n.flag n.me n.locals ts))
      (λ t. fault_ok L n array_store (omega arith) (omega arith) a n.locals)))

  pub newarray_ok : (D : Desc) → T (known_desc (class_count P) D) → {vs : List Val} → Sees n (newarray D) → Popped (R n) vs (int ∷ []) (drop 1 n.s) → Holds (newarray D) vs
  unfolding execute rule make_array
  newarray_ok D h a (pcons (vint {a = k}) (pnil {vs = r} ts)) =
      cond_ok (negative k) (λ _. fault_ok L n negative_size (omega arith) (omega arith) a n.locals)
      (λ _. create_ok L n (arr D) k 1 ready refl (array_again (class_count P) (omega (arith, L.few)) D h) tt _ (λ hk.
      on' L n (allocate n.H (arr D) k 1) a tt hk (keeps_more (deep n) n.Ψ n.H.used (hty (arr D) ready) (free L n))
      (go (keep_slots (keeps_more (suc (deep n)) n.Ψ n.H.used (hty (arr D) ready) (free L n)) (typed n.flag n.me n.locals ts)))))
    where
      fresh : VT P (meth n) (upd n.Ψ n.H.used (hty (arr D) ready)) (deep n) n.σ (ref (suc n.H.used)) (ini (arr D))
      fresh = vini {a = n.H.used} (arr D) (upd_same n.Ψ n.H.used (hty (arr D) ready)) (ref_refl P (arr D))

      go : {g : Bool} {l s : List Ty} → Slots P (meth n) (upd n.Ψ n.H.used (hty (arr D) ready)) (deep n) n.σ n.q n.ls r (state g l s)
          → Slots P (meth n) (upd n.Ψ n.H.used (hty (arr D) ready)) (deep n) n.σ n.q n.ls (ref (suc n.H.used) ∷ r) (state g l (ini (arr D) ∷ s))
      go (typed f e x y) = typed f e x (acons fresh y)

  -- ---- throws
  pub athrow_ok : {vs : List Val} → Sees n athrow → Popped (R n) vs (throwable_ty ∷ []) (drop 1 n.s) → Holds athrow vs
  unfolding execute rule ref_fits
  athrow_ok a (pcons x (pnil ts)) = receiver_ok L n (cls throwable) a n.locals x _ go
    where
      go : (b : ℕ) (e : Ref) → n.Ψ b ≡ some (hty e ready) → T (ref_fits P e (cls throwable)) → Block P n.Ψ n.H b e ready → Good P E (throw P (here n) (suc b) (cell n.H b))
      go b (cls c) p s w = rw (class-cell n.H b c w.type) (throw_ok L n b c a n.locals p s)
      go b (arr D) p s w = absurd s
