use Rattle.rules.specs.TypeLaws.{type_array}
use Rattle.std.proofs.Common.{arith}
use Rattle.rules.proofs.types.Ty.as_array.Goals as goal

pub returns : goal.returns
returns c = type_array _ _ _ (omega arith) (omega arith) (omega arith)
