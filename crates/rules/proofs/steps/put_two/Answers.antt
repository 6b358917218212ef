use Rattle.rules.specs.GroupLaws.{moved_two, state_two, outside_on}
use Rattle.std.proofs.Common.{arith}
use Rattle.rules.proofs.steps.put_two.Goals as goal

pub returns : goal.returns
returns c = (moved_two _ _ _ _ _ c.put-m.ensures.0 c.put.ensures.0 (omega arith), state_two _ _ _ _ _ _ _ _ c.put.ensures.1 c.put-m.ensures.1, outside_on _ _ _ _ _ c.put-m.ensures.0.at c.put-m.ensures.2 c.put.ensures.2)
