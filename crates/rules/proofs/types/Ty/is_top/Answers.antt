use Rattle.rules.specs.TypeLaws.{top_kind}
use Rattle.rules.proofs.types.Ty.is_top.Goals as goal

pub returns : goal.returns
returns c = top_kind _
