use Rattle.rules.specs.GroupLaws.{moved_two, state_two, outside_on}
use Rattle.std.proofs.Common.{arith}
use Rattle.rules.proofs.steps.put_three.Goals as goal

pub returns : goal.returns
returns c = (moved_two _ _ _ _ _ c.put_two-m.ensures.0 c.put.ensures.0 (omega arith), state_two _ _ _ _ _ _ _ _ c.put.ensures.1 c.put_two-m.ensures.1, outside_on _ _ _ _ _ c.put_two-m.ensures.0.at c.put_two-m.ensures.2 c.put.ensures.2)
