use Rattle.plain.specs.Objects.{objects}
use Rattle.plain.proofs.objects.is_usable.Goals as goal

pub returns-then-v-ne-REF : goal.returns-then-v-ne-REF
returns-then-v-ne-REF c = search objects

pub returns-then-v-eq0 : goal.returns-then-v-eq0
returns-then-v-eq0 c = search objects

pub returns : goal.returns
returns c = search objects
