use Rattle.std.proofs.Common.{◌+◌, ◌-◌, rules}
use Rattle.shaping.specs.MarkLaws.{clear_is}
use Rattle.shaping.proofs.marks.clear_marks.Goals as goal

pub returns : goal.returns
returns c = clear_is c.args.t.now c.clear.new.s c.args.n (256640 + c.args.n - 256640) (search rules) c.requires.0 c.requires.1 c.clear.ensures
