use Rattle.rules.specs.GroupLaws.{afters}
use Rattle.rules.specs.FormLaws.{kept_moved}
use Rattle.std.proofs.Common.{arith}
use Rattle.rules.proofs.steps.leave_stack.Goals as goal

pub returns-in-Dup : goal.returns-in-Dup
returns-in-Dup c = (kept_moved _ _ _ c.put.ensures.0 (omega arith), search afters depth 8, c.put.ensures.2)

pub returns-in-Dupx1 : goal.returns-in-Dupx1
returns-in-Dupx1 c = (kept_moved _ _ _ c.put_three.ensures.0 (omega arith), search afters depth 8, c.put_three.ensures.2)

pub returns-in-Swap : goal.returns-in-Swap
returns-in-Swap c = (kept_moved _ _ _ c.put_two.ensures.0 (omega arith), search afters depth 8, c.put_two.ensures.2)

pub returns-in-Arraylength : goal.returns-in-Arraylength
returns-in-Arraylength c = (kept_moved _ _ _ c.put-in-Arraylength.ensures.0 (omega arith), search afters depth 8, c.put-in-Arraylength.ensures.2)

pub returns-in-Aaload : goal.returns-in-Aaload
returns-in-Aaload c = (kept_moved _ _ _ c.put-in-Aaload.ensures.0 (omega arith), search afters depth 8, c.put-in-Aaload.ensures.2)
