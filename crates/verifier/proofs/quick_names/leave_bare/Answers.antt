use Rattle.verifier.specs.QuickNames.{leaves_none, leaves_bare}
use Rattle.verifier.proofs.quick_names.leave_bare.Goals as goal

pub returns-then-h : goal.returns-then-h
returns-then-h c = λ L t. leaves_none L t _ _ _

pub returns-then-back-eq256 : goal.returns-then-back-eq256
returns-then-back-eq256 c = λ L t. leaves_bare L t _ _ c.if-h.false c.if-back-eq256.true

pub returns : goal.returns
returns c = λ L t. leaves_none L t _ _ _
