use Rattle.std.proofs.Common.{arith, ◌+◌, ◌-◌, ◌*◌}
use Rattle.shaping.specs.Resolving.{blank_is}
use Rattle.shaping.proofs.resolve.clear_words.Goals as goal

pub returns : goal.returns
returns c = blank_is c.args.t.now c.clear.new.s c.args.n (103040 + 4096 * c.args.n - 103040) (omega arith) c.requires.0 c.requires.1 c.clear.ensures
