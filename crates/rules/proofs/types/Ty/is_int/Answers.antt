use Rattle.rules.specs.TypeLaws.{int_kind}
use Rattle.rules.proofs.types.Ty.is_int.Goals as goal

pub returns : goal.returns
returns c = int_kind _
