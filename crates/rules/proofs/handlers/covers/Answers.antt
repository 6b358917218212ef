use Rattle.rules.specs.Handlers.{covered_in, covered_not}
use Rattle.rules.proofs.handlers.covers.Goals as goal

pub returns-then-two-o : goal.returns-then-two-o
returns-then-two-o c = covered_in _ _ _ _ _ c.two.ensures c.if-two-o.true c.two-then-two-o.ensures

pub returns-then-q-s : goal.returns-then-q-s
returns-then-q-s c = covered_not _ _ _ _ c.two.ensures c.if-two-o.false

pub returns-then-u2_at-o : goal.returns-then-u2_at-o
returns-then-u2_at-o c = covered_in _ _ _ _ _ c.u2_at.ensures.0 c.if-u2_at-o.true c.u2_at-then-u2_at-o.ensures.0

pub returns : goal.returns
returns c = covered_not _ _ _ _ c.u2_at.ensures.0 c.if-u2_at-o.false
