use Rattle.rules.specs.TypeLaws.{null_kind}
use Rattle.rules.proofs.types.Ty.is_null.Goals as goal

pub returns : goal.returns
returns c = null_kind _
