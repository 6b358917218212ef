use Rattle.running.specs.Throwing.{with_one}
use Rattle.std.proofs.Common.{rules}
use Rattle.running.proofs.throwing.take.Goals as goal

pub returns : goal.returns
unfolding with_one
returns c = search rules
