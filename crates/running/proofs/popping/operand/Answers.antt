use Rattle.std.proofs.Common.{refl}
use Rattle.running.specs.Popping.{operand_is}
use Rattle.running.proofs.popping.operand.Goals as goal

pub returns : goal.returns
returns c = operand_is c.args.s.now c.args.g.now c.args.d c.args.i _ _ c.requires.3 refl refl
