use Rattle.plain.specs.IntegerLaws.{integers}
use Rattle.plain.proofs.integers.negative.Goals as goal

pub returns : goal.returns
returns c = search integers
