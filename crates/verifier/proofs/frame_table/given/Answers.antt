use Rattle.verifier.specs.FrameTableLaws.{given-static, given_own}
use Rattle.verifier.proofs.frame_table.given.Goals as goal

pub returns-then-x : goal.returns-then-x
returns-then-x c = given-static _ _ _ c.param_count-n.ensures.0 c.if-x.true

pub returns : goal.returns
returns c = given_own _ _ _ c.param_count-n.ensures.0 c.if-x.false
