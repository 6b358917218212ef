use Rattle.rules.specs.TypeLaws.{type-uninit}
use Rattle.std.proofs.Common.{arith}
use Rattle.rules.proofs.types.Ty.uninit.Goals as goal

pub returns : goal.returns
returns c = type-uninit _ _ (omega arith) (omega arith)
