use Rattle.verifier.specs.Quick.{goes_none, goes_on}
use Rattle.verifier.proofs.quick.branch.Goals as goal

pub returns-then-is_err : goal.returns-then-is_err
returns-then-is_err c = goes_none _ _ _ _ _ _ _

pub returns-then-is_err-2 : goal.returns-then-is_err-2
returns-then-is_err-2 c = goes_none _ _ _ _ _ _ _

pub returns : goal.returns
returns c = goes_on _ _ _ _ _ _ _ _ _ _ c.room.ensures c.if-is_err.ensures.value c.cut-g.ensures c.into_frame.ensures c.if-is_err-2.ensures.value
