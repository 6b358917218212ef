use Rattle.running.specs.Leaving.{own-entry, return_unfit, return-fit}
use Rattle.running.proofs.leaving.leave.Goals as goal

pub overflow_sub-e : goal.overflow_sub-e
overflow_sub-e c = c.requires.running.of.low

pub result_count-v-requires : goal.result_count-v-requires
result_count-v-requires c = own-entry c.args.b.now c.args.x.classes c.args.t.now c.args.s.now c.args.g.now c.args.cells.now c.args.d c.args.k c.requires

pub returns-then-v-ne0 : goal.returns-then-v-ne0
returns-then-v-ne0 c = return_unfit c.args.b.now c.args.x.classes c.args.t.now c.args.s.now c.args.g.now c.args.cells.now c.args.d c.args.k c.requires _ c.result_count-v.ensures.0 c.if-v-ne0.true

pub returns : goal.returns
returns c = return-fit c.args.b.now c.args.x.classes c.args.t.now c.args.s.now c.args.g.now c.args.cells.now c.args.d c.args.k c.requires _ c.result_count-v.ensures.0 _ c.if-v-ne0.false c.give_none.ensures
