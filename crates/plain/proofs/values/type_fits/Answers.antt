use Rattle.plain.specs.ValueLaws.{levels}
use Rattle.plain.proofs.values.type_fits.Goals as goal

pub returns-then-asked-has : goal.returns-then-asked-has
returns-then-asked-has c = search levels

pub returns-then-has-asked : goal.returns-then-has-asked
returns-then-has-asked c = search levels

pub returns-then-has-eq0 : goal.returns-then-has-eq0
returns-then-has-eq0 c = search levels

pub returns : goal.returns
returns c = search levels
