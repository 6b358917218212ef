use Rattle.std.proofs.Common.{eq-eqb, ne_eqb}
use Rattle.plain.specs.Catching.{caught_in}
use Rattle.plain.proofs.catching.catch_class.Goals as goal

pub returns-then-i-eq0 : goal.returns-then-i-eq0
unfolding caught_in
returns-then-i-eq0 c = rw (eq-eqb _ 0 c.if-i-eq0.true)

pub returns-then-w-eq2 : goal.returns-then-w-eq2
unfolding caught_in
returns-then-w-eq2 c = rw (ne_eqb _ 0 c.if-i-eq0.false, ← c.named-w.ensures, eq-eqb _ 2 c.if-w-eq2.true)

pub returns : goal.returns
unfolding caught_in
returns c = rw (ne_eqb _ 0 c.if-i-eq0.false, ← c.named-w.ensures, ne_eqb _ 2 c.if-w-eq2.false)
