use Rattle.rules.specs.TypeLaws.{type_this}
use Rattle.std.proofs.Common.{arith}
use Rattle.rules.proofs.types.Ty.uninit_this.Goals as goal

pub returns : goal.returns
returns c = type_this _ (omega arith)
