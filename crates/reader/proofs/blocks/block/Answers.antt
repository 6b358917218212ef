use Rattle.std.proofs.Common.{◌≡◌, ◌+◌, ◌-◌, ◌*◌, arith}
use Rattle.reader.proofs.blocks.block.Goals as goal

pub returns : goal.returns
returns c = let z : 6432 * c.args.c + 6432 - 6432 * c.args.c ≡ 6432 = omega arith in rw z
