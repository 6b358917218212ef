use Rattle.reader.specs.Prints.{lent_prints, first_none}
use Rattle.std.proofs.Common.{arith}
use Rattle.reader.proofs.signature.first_of.Goals as goal

pub first_row-requires : goal.first_row-requires
first_row-requires c = (omega (arith, c.requires.1.few, c.requires.2), rw c.block.ensures (lent_prints c.args.s.now c.args.t.now c.args.c c.args.method c.requires.1 c.args.n c.requires.2 _ c.first_prints-w.ensures), c.requires.3)

pub returns : goal.returns
returns c = first_none c.args.s.now c.args.t.now c.args.c c.args.method c.requires.1 c.args.n c.requires.2 _ c.first_prints-w.ensures c.requires.0 _ _ c.requires.3 _ c.has.ensures c.if-has.false
