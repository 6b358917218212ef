use Rattle.std.proofs.Common.{arith, rules}
use Rattle.verifier.specs.Ahead.{edge_before, edge_within, edge_behind}
use Rattle.verifier.proofs.ahead.edge.Goals as goal

pub u2_at-a-requires : goal.u2_at-a-requires
u2_at-a-requires c = search (rules, arith)

pub returns-then-o-a : goal.returns-then-o-a
returns-then-o-a c = edge_before _ _ _ _ _ c.u2_at-a.ensures.0 _ c.if-o-a.true (omega (arith, c.min.ensures)) (omega (arith, c.min.ensures))

pub overflow_add-q : goal.overflow_add-q
overflow_add-q c = search (rules, arith)

pub u2_at-b-requires : goal.u2_at-b-requires
u2_at-b-requires c = search (rules, arith)

pub returns-then-o-b : goal.returns-then-o-b
returns-then-o-b c = edge_within _ _ _ _ _ c.u2_at-a.ensures.0 c.if-o-a.false _ c.u2_at-b.ensures.0 _ c.if-o-b.true (omega (arith, c.min-then-o-b.ensures)) (omega (arith, c.min-then-o-b.ensures))

pub returns : goal.returns
returns c = edge_behind _ _ _ _ _ c.u2_at-a.ensures.0 c.if-o-a.false _ c.u2_at-b.ensures.0 c.if-o-b.false
