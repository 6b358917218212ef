use Rattle.rules.specs.TypeLaws.{reference_kind}
use Rattle.rules.proofs.types.Ty.is_reference.Goals as goal

pub returns : goal.returns
returns c = reference_kind _
