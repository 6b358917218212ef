use Rattle.shaping.specs.Asks.{quick_good, quick_bad}
use Rattle.shaping.proofs.marks.mark_at.Goals as goal

pub returns-then-needs-n : goal.returns-then-needs-n
returns-then-needs-n c = quick_good _ _ _ _ _ _ _ c.byte-op.ensures.0 c.byte-op.ensures.1 c.kind-k.ensures _ c.if-k-eq7.false _ _ c.byte.ensures.0 c.needs.ensures c.if-needs-n.true

pub returns : goal.returns
returns c = quick_bad _ _ _ _ _ _ _ c.byte-op.ensures.0 c.byte-op.ensures.1 c.kind-k.ensures _ c.if-k-eq7.false _ _ c.byte.ensures.0 c.needs.ensures c.if-needs-n.false
