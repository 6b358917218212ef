use Rattle.reader.specs.Prints.{prints_none, prints_few, fields-count, prints_more, all_printed}
use Rattle.std.proofs.Common.{arith, refl, false}
use Rattle.reader.proofs.printing.print_all.Goals as goal

pub loop-c-init : goal.loop-c-init
loop-c-init c = (omega arith, prints_none c.args.s.now c.args.t.now)

pub print_rows-requires : goal.print_rows-requires
print_rows-requires c = (omega (arith, c.requires.0, c.loop-c-test.true), omega (arith, c.requires.1, c.loop-c.invariant.1.long), (prints_few c.args.s.now c.args.n c.requires.0 c.loop-c.c c.args.t.now c.loop-c.t c.requires.2 c.loop-c.invariant.1).at c.loop-c.c c.loop-c-test.true false)

pub print_rows-requires-in-loop-c : goal.print_rows-requires-in-loop-c
print_rows-requires-in-loop-c c = (omega (arith, c.requires.0, c.loop-c-test.true), omega (arith, c.requires.1, c.loop-c.invariant.1.long, c.print_rows.ensures.long), fields-count c.args.s.now c.args.n c.requires.0 c.loop-c.c c.args.t.now c.loop-c.t c.requires.2 c.loop-c.invariant.1 c.loop-c-test.true _ _ refl c.print_rows.ensures)

pub loop-c-preserved : goal.loop-c-preserved
loop-c-preserved c = (omega arith, prints_more c.args.s.now c.args.n c.requires.0 c.loop-c.c c.args.t.now c.loop-c.t c.requires.2 c.loop-c.invariant.1 c.loop-c-test.true _ _ refl c.print_rows.ensures _ _ refl c.print_rows-in-loop-c.ensures)

pub returns : goal.returns
returns c = all_printed c.args.s.now c.args.n c.requires.0 c.loop-c.c c.args.t.now c.loop-c.t c.requires.2 c.loop-c.invariant.1 c.requires.1 c.loop-c-test.false
