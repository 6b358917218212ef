use Rattle.reader.specs.Lookup.{above_past}
use Rattle.std.proofs.Common.{◌∙◌}
use Rattle.reader.proofs.lookup.above.Goals as goal

pub returns-then-c-n : goal.returns-then-c-n
returns-then-c-n c = c.word.ensures ∙ c.requires.1.at _ c.if-c-n.true

pub returns : goal.returns
returns c = above_past c.args.s.now c.args.n c.args.t.now c.requires.0 c.args.c c.if-c-n.false
