use Rattle.plain.specs.Landing.{at_handler}
use Rattle.std.proofs.Common.{rules}
use Rattle.running.proofs.landing.at_handler.Goals as goal

pub returns : goal.returns
unfolding at_handler
returns c = search rules
