use Rattle.plain.specs.ValueLaws.{values}
use Rattle.plain.proofs.values.Value.from_cell.Goals as goal

pub returns-then-is_int : goal.returns-then-is_int
returns-then-is_int c = search values

pub returns : goal.returns
returns c = search values
