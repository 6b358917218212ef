use Rattle.std.proofs.Common.{ap, not}
use Rattle.machine.specs.Filling.{row_apart}
use Rattle.machine.proofs.dispatch.row_below.Goals as goal

pub returns-then-not-is_below : goal.returns-then-not-is_below
returns-then-not-is_below c = row_apart _ _ _ c.requires.0 c.args.c c.args.o _ c.requires.2 c.requires.3 c.is_below.ensures (ap not c.if-not-is_below.true) c.requires.4

pub row-requires : goal.row-requires
row-requires c = (c.requires.0, c.requires.1, c.requires.2, c.requires.3, c.requires.4)

pub shape_of-t : goal.shape_of-t
shape_of-t c = c.row.ensures.beside.long
