use Rattle.std.proofs.Common.{refl, zero-add, arith}
use Rattle.reader.specs.Numbers.{name_here, name_on, name_past}
use Rattle.reader.proofs.link.number_of.Goals as goal

pub loop-i-init : goal.loop-i-init
loop-i-init c = zero-add _

pub returns-then-same_text : goal.returns-then-same_text
returns-then-same_text c = name_here c.args.ns.now c.args.x.now c.loop-i.i c.loop-i.invariant _ c.loop-i-test.true c.same_text.result c.same_text.ensures c.if-same_text.true

pub loop-i-preserved : goal.loop-i-preserved
loop-i-preserved c = name_on c.args.ns.now c.args.x.now c.loop-i.i c.loop-i.invariant _ c.loop-i-test.true c.same_text.result c.same_text.ensures c.if-same_text.false

pub returns : goal.returns
returns c = name_past c.args.ns.now c.args.x.now c.loop-i.i c.loop-i.invariant _ refl c.loop-i-test.false (omega arith)
