use Rattle.std.proofs.Common.{ap, not}
use Rattle.shaping.specs.Asks.{said, refer_far, refer_good, refer_lost}
use Rattle.shaping.proofs.shape.decoded_fault.Goals as goal

pub returns-then-not-leads : goal.returns-then-not-leads
returns-then-not-leads c = said _ _ _ _ _ _ _ _ c.instruction-i.ensures (refer_far _ _ _ c.leads.ensures (ap not c.if-not-leads.true))

pub returns-then-is_resolved : goal.returns-then-is_resolved
returns-then-is_resolved c = said _ _ _ _ _ _ _ _ c.instruction-i.ensures (refer_good _ _ _ c.leads.ensures (ap not c.if-not-leads.false) _ c.is_resolved.ensures c.if-is_resolved.true)

pub returns : goal.returns
returns c = said _ _ _ _ _ _ _ _ c.instruction-i.ensures (refer_lost _ _ _ c.leads.ensures (ap not c.if-not-leads.false) _ c.is_resolved.ensures c.if-is_resolved.false)
