use Rattle.std.proofs.Common.{arith}
use Rattle.plain.specs.Catching.{search_start, search_none, search_hit, search_next}
use Rattle.plain.proofs.catching.catcher.Goals as goal

pub loop-i-init : goal.loop-i-init
loop-i-init c = (omega arith, search_start _ _ _ _ _ _ _)

pub returns-then-catches : goal.returns-then-catches
returns-then-catches c = search_hit _ _ _ _ _ _ _ _ _ c.loop-i.invariant.1 c.loop-i-test.true _ c.if-catches.true c.catches.ensures _ c.u2_at.ensures.0

pub loop-i-preserved : goal.loop-i-preserved
loop-i-preserved c = (omega arith, search_next _ _ _ _ _ _ _ _ _ c.loop-i.invariant.1 c.loop-i-test.true _ c.if-catches.false c.catches.ensures)

pub returns : goal.returns
returns c = search_none _ _ _ _ _ _ _ _ _ c.loop-i.invariant.1 (omega arith)
