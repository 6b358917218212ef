use Rattle.shaping.specs.Asks.{quick_none, quick_leads, quick_far, quick_named}
use Rattle.shaping.proofs.shape.fault_at.Goals as goal

pub returns-then-k-lt6 : goal.returns-then-k-lt6
returns-then-k-lt6 c = quick_none _ _ _ _ _ _ _ c.byte-op.ensures.0 c.byte-op.ensures.1 c.kind-k.ensures _ c.if-k-lt6.true

pub returns-then-is_start : goal.returns-then-is_start
returns-then-is_start c = quick_leads _ _ _ _ _ _ _ c.byte-op.ensures.0 c.byte-op.ensures.1 c.kind-k.ensures _ c.if-k-eq6.true _ c.target_at-l.ensures _ c.is_start.ensures c.if-is_start.true

pub returns-then-k-eq6 : goal.returns-then-k-eq6
returns-then-k-eq6 c = quick_far _ _ _ _ _ _ _ c.byte-op.ensures.0 c.byte-op.ensures.1 c.kind-k.ensures _ c.if-k-eq6.true _ c.target_at-l.ensures _ c.is_start.ensures c.if-is_start.false

pub returns : goal.returns
returns c = quick_named _ _ _ _ _ _ _ c.byte-op.ensures.0 c.byte-op.ensures.1 c.kind-k.ensures _ c.if-k-lt6.false c.if-k-eq6.false c.if-k-eq7.false _ c.name_fault.ensures
