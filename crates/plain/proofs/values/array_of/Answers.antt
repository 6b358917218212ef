use Rattle.plain.specs.ValueLaws.{writings}
use Rattle.plain.proofs.values.array_of.Goals as goal

pub returns : goal.returns
returns c = search writings
