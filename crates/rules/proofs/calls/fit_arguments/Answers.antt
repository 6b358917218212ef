use Rattle.std.proofs.Common.{arith}
use Rattle.rules.specs.CallLaws.{arguments-turns}
use Rattle.rules.proofs.calls.fit_arguments.Goals as goal

pub returns-then-not-assignable : goal.returns-then-not-assignable
returns-then-not-assignable c = search arguments-turns

pub loop-k-preserved : goal.loop-k-preserved
loop-k-preserved c = (omega arith, search arguments-turns)

pub returns : goal.returns
returns c = search arguments-turns
