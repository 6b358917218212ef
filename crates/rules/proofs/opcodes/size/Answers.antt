use Rattle.rules.specs.OpcodeSizes.{size_is}
use Rattle.rules.proofs.opcodes.size.Goals as goal

pub returns : goal.returns
returns c = let e = c.packed-w.ensures in rw e (size_is c.args.op c.requires)
