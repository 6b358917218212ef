use Rattle.machine.specs.Filling.{filling_now, filling_readied, filling_printed, filling_then, table_start, table_end}
use Rattle.machine.proofs.dispatch.fill_all.Goals as goal

pub loop-c-init : goal.loop-c-init
loop-c-init c = table_start _ _ _ c.requires.0

pub rows-requires : goal.rows-requires
rows-requires c = (filling_readied _ _ _ _ _ c.loop-c.invariant c.requires.0, filling_printed _ _ _ _ _ c.loop-c.invariant c.requires.0.prepared.tables.most c.requires.1, c.loop-c-test.true, filling_now _ _ _ _ _ c.loop-c.invariant)

pub loop-c-preserved : goal.loop-c-preserved
loop-c-preserved c = filling_then _ _ _ _ c.loop-c.t c.loop-c.invariant _ _ c.rows.ensures

pub shape_of-t : goal.shape_of-t
shape_of-t c = c.loop-c.invariant.beside.long

pub returns : goal.returns
returns c = (table_end _ _ c.args.t.now c.requires.0 c.loop-c.t c.loop-c.c c.loop-c-test.false c.loop-c.invariant, c.loop-c.invariant.beside)
