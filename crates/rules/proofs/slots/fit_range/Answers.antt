use Rattle.std.proofs.Common.{arith}
use Rattle.rules.specs.SlotLaws.{turns}
use Rattle.rules.proofs.slots.fit_range.Goals as goal

pub returns-then-not-same_or_assignable : goal.returns-then-not-same_or_assignable
returns-then-not-same_or_assignable c = search turns

pub loop-i-preserved : goal.loop-i-preserved
loop-i-preserved c = (omega arith, search turns)

pub returns : goal.returns
returns c = search turns
