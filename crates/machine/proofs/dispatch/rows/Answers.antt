use Rattle.machine.specs.Filling.{filling_now, filling_readied, filling_printed, filling_then, filling_from, class_end}
use Rattle.std.proofs.Common.{refl}
use Rattle.machine.proofs.dispatch.rows.Goals as goal

pub loop-o-init : goal.loop-o-init
loop-o-init c = filling_from _ _ _ _ _ refl c.requires.3

pub row_below-requires : goal.row_below-requires
row_below-requires c = (filling_readied _ _ _ _ _ c.loop-o.invariant c.requires.0, filling_printed _ _ _ _ _ c.loop-o.invariant c.requires.0.prepared.tables.most c.requires.1, c.requires.2, c.loop-o-test.true, filling_now _ _ _ _ _ c.loop-o.invariant)

pub loop-o-preserved : goal.loop-o-preserved
loop-o-preserved c = filling_then _ _ _ _ c.loop-o.t c.loop-o.invariant _ _ c.row_below.ensures

pub shape_of-t : goal.shape_of-t
shape_of-t c = c.loop-o.invariant.beside.long

pub returns : goal.returns
returns c = class_end _ _ c.args.t.now c.requires.0 c.loop-o.t c.args.c c.loop-o.o c.requires.2 c.loop-o-test.false c.loop-o.invariant
