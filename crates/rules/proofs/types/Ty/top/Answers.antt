use Rattle.rules.specs.TypeLaws.{type-top}
use Rattle.std.proofs.Common.{arith}
use Rattle.rules.proofs.types.Ty.top.Goals as goal

pub returns : goal.returns
returns c = type-top _ (omega arith)
