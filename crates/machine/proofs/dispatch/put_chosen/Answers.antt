use Rattle.machine.specs.Filling.{puts_small, puts_asks, puts_more}
use Rattle.std.proofs.Common.{arith}
use Rattle.machine.proofs.dispatch.put_chosen.Goals as goal

pub chosen-w-requires : goal.chosen-w-requires
chosen-w-requires c = puts_asks c.args.s.now c.args.n c.args.t.now c.args.c c.args.o c.args.i c.requires

pub overflow_mul-c : goal.overflow_mul-c
overflow_mul-c c = let y = puts_small c.args.s.now c.args.n c.args.t.now c.args.c c.args.o c.args.i c.requires in omega (arith, y.0, y.1, y.2)

pub overflow_add-c : goal.overflow_add-c
overflow_add-c c = let y = puts_small c.args.s.now c.args.n c.args.t.now c.args.c c.args.o c.args.i c.requires in omega (arith, y.0, y.1, y.2)

pub overflow_mul-o : goal.overflow_mul-o
overflow_mul-o c = let y = puts_small c.args.s.now c.args.n c.args.t.now c.args.c c.args.o c.args.i c.requires in omega (arith, y.0, y.1, y.2)

pub overflow_add-c-2 : goal.overflow_add-c-2
overflow_add-c-2 c = let y = puts_small c.args.s.now c.args.n c.args.t.now c.args.c c.args.o c.args.i c.requires in omega (arith, y.0, y.1, y.2)

pub overflow_add-c-3 : goal.overflow_add-c-3
overflow_add-c-3 c = let y = puts_small c.args.s.now c.args.n c.args.t.now c.args.c c.args.o c.args.i c.requires in omega (arith, y.0, y.1, y.2)

pub returns : goal.returns
returns c = puts_more c.args.s.now c.args.n c.args.t.now c.args.c c.args.o c.args.i c.requires _ _ c.chosen-w.ensures.1 c.chosen-w.ensures.0 c.put_word.ensures
