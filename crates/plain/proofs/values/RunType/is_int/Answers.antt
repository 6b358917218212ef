use Rattle.plain.specs.ValueLaws.{writings}
use Rattle.plain.proofs.values.RunType.is_int.Goals as goal

pub returns-then-self-gt0 : goal.returns-then-self-gt0
returns-then-self-gt0 c = search writings

pub returns : goal.returns
returns c = search writings
