use Rattle.std.proofs.Common.{arith, rules}
use Rattle.verifier.specs.Ahead.{nearer_not, nearer_least}
use Rattle.verifier.proofs.ahead.nearer.Goals as goal

pub overflow_add-q : goal.overflow_add-q
overflow_add-q c = search (rules, arith)

pub u2_at-requires : goal.u2_at-requires
u2_at-requires c = search (rules, arith)

pub returns-then-u2_at-o : goal.returns-then-u2_at-o
returns-then-u2_at-o c = nearer_not _ _ _ _ _ c.u2_at.ensures.0 c.if-u2_at-o.true

pub u2_at-requires-2 : goal.u2_at-requires-2
u2_at-requires-2 c = search (rules, arith)

pub returns : goal.returns
returns c = nearer_least _ _ _ _ _ _ c.u2_at-2.ensures.0 (omega (arith, c.min.ensures)) (omega (arith, c.min.ensures))
