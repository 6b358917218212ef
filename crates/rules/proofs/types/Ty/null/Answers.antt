use Rattle.rules.specs.TypeLaws.{type-null}
use Rattle.std.proofs.Common.{arith}
use Rattle.rules.proofs.types.Ty.null.Goals as goal

pub returns : goal.returns
returns c = type-null _ (omega arith)
