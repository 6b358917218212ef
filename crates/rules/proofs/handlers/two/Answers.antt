use Rattle.std.proofs.Common.{arith}
use Rattle.texts.specs.Reading.{u2_at}
use Rattle.rules.proofs.handlers.two.Goals as goal

pub returns : goal.returns
unfolding u2_at
returns c = omega arith
