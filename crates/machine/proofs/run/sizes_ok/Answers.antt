use Rattle.machine.specs.Outcomes.{sizes_scratch, sizes_heap, sizes_slots, sizes_tags, sizes_budget, sizes_all}
use Rattle.machine.proofs.run.sizes_ok.Goals as goal

pub returns-then-t-lt262144 : goal.returns-then-t-lt262144
returns-then-t-lt262144 c = sizes_scratch c.args.t.now c.args.cells.now c.args.s.now c.args.g.now c.args.budget c.if-t-lt262144.true

pub returns-then-cells-gt16384 : goal.returns-then-cells-gt16384
returns-then-cells-gt16384 c = sizes_heap c.args.t.now c.args.cells.now c.args.s.now c.args.g.now c.args.budget c.if-t-lt262144.false c.if-cells-gt16384.true

pub returns-then-s-ne4096 : goal.returns-then-s-ne4096
returns-then-s-ne4096 c = sizes_slots c.args.t.now c.args.cells.now c.args.s.now c.args.g.now c.args.budget c.if-t-lt262144.false c.if-cells-gt16384.false c.if-s-ne4096.true

pub returns-then-g-ne4096 : goal.returns-then-g-ne4096
returns-then-g-ne4096 c = sizes_tags c.args.t.now c.args.cells.now c.args.s.now c.args.g.now c.args.budget c.if-t-lt262144.false c.if-cells-gt16384.false c.if-s-ne4096.false c.if-g-ne4096.true

pub returns-then-budget-gt1000000 : goal.returns-then-budget-gt1000000
returns-then-budget-gt1000000 c = sizes_budget c.args.t.now c.args.cells.now c.args.s.now c.args.g.now c.args.budget c.if-t-lt262144.false c.if-cells-gt16384.false c.if-s-ne4096.false c.if-g-ne4096.false c.if-budget-gt1000000.true

pub returns : goal.returns
returns c = sizes_all c.args.t.now c.args.cells.now c.args.s.now c.args.g.now c.args.budget c.if-t-lt262144.false c.if-cells-gt16384.false c.if-s-ne4096.false c.if-g-ne4096.false c.if-budget-gt1000000.false
