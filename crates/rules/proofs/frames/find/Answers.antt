use Rattle.rules.specs.FrameLaws.{half_start, half_hit, half_up, half_down, half_end, among-row}
use Rattle.std.proofs.Common.{arith}
use Rattle.rules.proofs.frames.find.Goals as goal

pub loop-low-init : goal.loop-low-init
loop-low-init c = (omega arith, omega arith, half_start _ _ _)

pub returns-then-w-o-clause-is : goal.returns-then-w-o-clause-is
returns-then-w-o-clause-is c = half_hit _ _ c.requires _ _ _ _ c.loop-low.invariant.2 c.loop-low.invariant.1 _ _ (omega arith) (omega arith) c.word-w.ensures _ c.if-w-o.true c.row.ensures.0

pub returns-then-w-o-clause-lies : goal.returns-then-w-o-clause-lies
returns-then-w-o-clause-lies c = (c.row.ensures.1, among-row _ _ _ _ c.row.ensures.0 (omega arith))

pub loop-low-preserved-then-w-o-2 : goal.loop-low-preserved-then-w-o-2
loop-low-preserved-then-w-o-2 c = (omega arith, omega arith, half_up _ _ c.requires _ _ _ _ c.loop-low.invariant.2 c.loop-low.invariant.1 _ _ (omega arith) (omega arith) c.word-w.ensures c.if-w-o-2.true)

pub loop-low-preserved : goal.loop-low-preserved
loop-low-preserved c = (omega arith, omega arith, half_down _ _ c.requires _ _ _ _ c.loop-low.invariant.2 c.loop-low.invariant.1 _ _ (omega arith) (omega arith) c.word-w.ensures (omega arith))

pub returns-clause-is : goal.returns-clause-is
returns-clause-is c = half_end _ _ c.requires _ _ _ _ c.loop-low.invariant.2 c.loop-low.invariant.1 c.loop-low-test.false
