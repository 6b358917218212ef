use Rattle.plain.specs.ValueLaws.{references}
use Rattle.plain.proofs.values.refers_to.Goals as goal

pub returns-then-v-eq-REF : goal.returns-then-v-eq-REF
returns-then-v-eq-REF c = search references

pub returns : goal.returns
returns c = search references
