use Rattle.machine.specs.Outcomes.{lent}
use Rattle.exports.specs.Exports.{wrong_result, right_result}
use Rattle.exports.proofs.outlet.flosquedo_run.Goals as goal

pub returns-then-res-ne64 : goal.returns-then-res-ne64
returns-then-res-ne64 c = wrong_result c.args.bundle.now (lent c.args.scratch.now c.args.heap.now c.args.slots.now c.args.tags.now) c.args.class c.args.method c.args.args.now c.args.budget c.args.res.now c.if-res-ne64.true

pub put_told-requires : goal.put_told-requires
put_told-requires c = c.if-res-ne64.false

pub returns : goal.returns
returns c = right_result c.args.bundle.now (lent c.args.scratch.now c.args.heap.now c.args.slots.now c.args.tags.now) c.args.class c.args.method c.args.args.now c.args.budget c.args.res.now _ c.run-a.result _ c.if-res-ne64.false c.run-a.ensures c.put_told.ensures.0 _ c.put_told.ensures.1
