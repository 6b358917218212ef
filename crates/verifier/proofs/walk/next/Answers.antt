use Rattle.std.proofs.Common.{arith, rules}
use Rattle.verifier.specs.Walks.{next_end, next_more}
use Rattle.verifier.proofs.walk.next.Goals as goal

pub size_at-n-requires : goal.size_at-n-requires
size_at-n-requires c = search (rules, arith)

pub returns-then-n-eq0 : goal.returns-then-n-eq0
returns-then-n-eq0 c = next_end _ _ _ c.size_at-n.ensures.0 c.if-n-eq0.true

pub overflow_add-result : goal.overflow_add-result
overflow_add-result c = omega (arith, c.size_at-n.ensures.1)

pub returns : goal.returns
returns c = next_more _ _ _ c.size_at-n.ensures.0 c.if-n-eq0.false
