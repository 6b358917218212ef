use Rattle.plain.specs.ValueLaws.{writings}
use Rattle.plain.proofs.values.described.Goals as goal

pub returns-then-t-eq-INT : goal.returns-then-t-eq-INT
returns-then-t-eq-INT c = search writings

pub returns-then-t-eq-ARRAY : goal.returns-then-t-eq-ARRAY
returns-then-t-eq-ARRAY c = search writings

pub returns : goal.returns
returns c = search writings
