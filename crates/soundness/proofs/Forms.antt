-- Division and casts, which may throw, keep the invariant.
use Rattle.std.specs.Prelude.{drop, eqb}
use mathlib.Core.List.{List, [], ◌∷◌}
use Rattle.std.proofs.Common.{arith}
use Rattle.reader.specs.BuiltIns.{object, arithmetic, class_cast}
use Rattle.classfiles.specs.Descriptors.{Ref, cls, Desc, dref}
use Rattle.reader.specs.Program.{Program}
use Rattle.rules.specs.Instruction.{Instr, Division, idiv, checkcast}
use Rattle.rules.specs.Types.{int, object_ty}
use Rattle.rules.specs.Rule.{rule}
use Rattle.plain.specs.Heap.{Val, value_fits}
use Rattle.plain.specs.Step.{execute, object_desc}
use Rattle.facts.specs.Classes.{Link}
use Rattle.soundness.specs.Pairs.{acons}
use Rattle.soundness.specs.Typing.{vint, to_vt, from_vt, Popped, pnil, pcons}
use Rattle.soundness.specs.Blocks.{passes}
use Rattle.soundness.specs.Inv.{typed, Good, only_ok, cond_ok}
use Rattle.soundness.specs.Steps.{Now, here, meth, deep, R, Sees, on, ready_val}
use Rattle.soundness.proofs.Steps.{fault_ok}

module _ {P : Program} (L : Link P) {E : List Desc} (n : Now P E) where
  abbrev Holds : Instr → List Val → Type 0
  Holds i vs = Good P E (execute P (here n) vs i)

  pub idiv_ok : (f : Division) {vs : List Val} → Sees n (idiv f) → Popped (R n) vs (int ∷ int ∷ []) (drop 2 n.s) → Holds (idiv f) vs
  unfolding execute rule
  idiv_ok f a (pcons (vint {a = b}) (pcons vint (pnil ts))) =
      cond_ok (eqb b 0) (λ _. fault_ok L n arithmetic (omega arith) (omega arith) a n.locals) (λ _. on L n a tt (typed n.flag n.me n.locals (acons vint ts)))

  pub checkcast_ok : (u : Ref) {vs : List Val} → Sees n (checkcast u) → Popped (R n) vs (object_ty ∷ []) (drop 1 n.s) → Holds (checkcast u) vs
  unfolding execute rule
  checkcast_ok u a (pcons {v = v} x (pnil ts)) =
      only_ok (value_fits P n.H object_desc v) (ready_val L n x) (cond_ok (value_fits P n.H (dref u) v)
      (λ b. on L n a tt (typed n.flag n.me n.locals (acons (to_vt (meth n) (deep n) n.σ (passes n.heap (from_vt (dref (cls object)) x) (dref u) b)) ts)))
      (λ b. fault_ok L n class_cast (omega arith) (omega arith) a n.locals))
