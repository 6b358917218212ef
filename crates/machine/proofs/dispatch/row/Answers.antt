use Rattle.machine.specs.Filling.{front_long, filling_from, filling_then, puts_now, row_end}
use Rattle.std.proofs.Common.{arith, refl}
use Rattle.machine.proofs.dispatch.row.Goals as goal

pub member_count-k-requires : goal.member_count-k-requires
member_count-k-requires c = (omega (arith, c.requires.3, c.requires.0.prepared.tables.most), front_long c.args.t.now c.requires.0.long)

pub loop-i-init : goal.loop-i-init
loop-i-init c = filling_from _ _ _ _ _ refl c.requires.4

pub put_chosen-requires : goal.put_chosen-requires
put_chosen-requires c = puts_now _ _ c.args.t.now c.requires.0 c.loop-i.t c.args.c c.args.o c.loop-i.i _ c.requires.1 c.requires.2 c.requires.3 c.member_count-k.ensures.0 c.loop-i-test.true c.loop-i.invariant

pub loop-i-preserved : goal.loop-i-preserved
loop-i-preserved c = filling_then _ _ _ _ c.loop-i.t c.loop-i.invariant _ _ c.put_chosen.ensures

pub shape_of-t : goal.shape_of-t
shape_of-t c = c.loop-i.invariant.beside.long

pub returns : goal.returns
returns c = row_end _ _ c.args.t.now c.requires.0 c.loop-i.t c.args.c c.args.o c.loop-i.i _ c.requires.2 c.requires.3 c.member_count-k.ensures.0 c.loop-i-test.false c.loop-i.invariant
