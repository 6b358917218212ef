use Rattle.reader.specs.Prints.{first_lone}
use Rattle.reader.proofs.signature.is_first.Goals as goal

pub returns : goal.returns
returns c = first_lone c.args.s.now c.args.t.now c.args.c c.args.method c.requires.1 c.args.j _ c.first_prints.ensures c.requires.0 c.requires.2 _ c.print_at-p.ensures _ c.has.ensures c.if-has.false
