use Rattle.reader.specs.Prints.{other_by_print}
use Rattle.reader.specs.Program.{signature}
use Rattle.std.proofs.Common.{◌∙◌}
use Rattle.reader.proofs.signature.other_print.Goals as goal

pub returns : goal.returns
returns c = other_by_print c.args.s.now c.args.b.now c.args.method (signature c.args.x.now c.args.y.now) c.args.j _ _ (c.word.ensures ∙ c.requires.1) c.requires.2 c.if-word-p.false
