use Rattle.rules.specs.TypeLaws.{type-int}
use Rattle.std.proofs.Common.{arith}
use Rattle.rules.proofs.types.Ty.int.Goals as goal

pub returns : goal.returns
returns c = type-int _ (omega arith)
