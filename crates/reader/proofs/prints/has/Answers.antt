use Rattle.reader.specs.Prints.{has_start, has_next, has_end}
use Rattle.std.proofs.Common.{arith}
use Rattle.reader.proofs.prints.has.Goals as goal

pub loop-i-init : goal.loop-i-init
loop-i-init c = (omega arith, has_start c.args.w.now c.args.p)

pub loop-i-preserved : goal.loop-i-preserved
loop-i-preserved c = (omega arith, has_next c.args.w.now c.args.p c.loop-i.i c.loop-i.hit _ c.loop-i.invariant.1 c.word.ensures)

pub returns : goal.returns
returns c = has_end c.args.w.now c.args.p c.loop-i.i _ c.loop-i.hit c.loop-i.invariant.0 c.loop-i-test.false c.loop-i.invariant.1
