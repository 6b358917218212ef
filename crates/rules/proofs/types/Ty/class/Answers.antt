use Rattle.rules.specs.TypeLaws.{type-class}
use Rattle.std.proofs.Common.{arith}
use Rattle.rules.proofs.types.Ty.class.Goals as goal

pub returns : goal.returns
returns c = type-class _ _ (omega arith) (omega arith)
