use Rattle.plain.specs.Objects.{objects}
use Rattle.plain.proofs.objects.is_self_ready.Goals as goal

pub returns : goal.returns
returns c = search objects
