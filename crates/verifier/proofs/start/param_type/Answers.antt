use Rattle.verifier.specs.Starts.{param_there, param_past}
use Rattle.verifier.proofs.start.param_type.Goals as goal

pub returns-then-i-param_count : goal.returns-then-i-param_count
returns-then-i-param_count c = param_there _ _ _ _ c.param_count.ensures.0 _ _ c.if-i-param_count.true c.described.ensures.1 c.param_at.ensures.0

pub returns : goal.returns
returns c = param_past _ _ _ _ c.param_count.ensures.0 _ c.if-i-param_count.false c.top.ensures
