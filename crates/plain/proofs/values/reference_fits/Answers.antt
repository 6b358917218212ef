use Rattle.plain.specs.ValueLaws.{references}
use Rattle.plain.proofs.values.reference_fits.Goals as goal

pub returns-then-ready_at : goal.returns-then-ready_at
returns-then-ready_at c = search references

pub returns : goal.returns
returns c = search references
