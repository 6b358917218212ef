use Rattle.plain.specs.ValueLaws.{writings}
use Rattle.plain.proofs.values.RunType.element.Goals as goal

pub returns : goal.returns
returns c = search writings
