use Rattle.verifier.specs.QuickNames.{leaves_none, leaves_int}
use Rattle.verifier.proofs.quick_names.leave_int.Goals as goal

pub returns-then-h : goal.returns-then-h
returns-then-h c = λ L. leaves_none L _ _ _ _

pub returns-then-back-ne248 : goal.returns-then-back-ne248
returns-then-back-ne248 c = λ L. leaves_none L _ _ _ _

pub returns-then-one_int : goal.returns-then-one_int
returns-then-one_int c = λ L. leaves_int L _ _ _ c.if-h.false c.if-back-ne248.false (c.one_int.ensures c.if-one_int.true)

pub returns : goal.returns
returns c = λ L. leaves_none L _ _ _ _
