use Rattle.std.proofs.Common.{le-leb}
use borrow.Author.Tests.{lt-leb}
use Rattle.plain.proofs.catching.covers.Goals as goal

pub returns-then-u2_at-o : goal.returns-then-u2_at-o
returns-then-u2_at-o c = rw (← c.u2_at.ensures.0, ← c.u2_at-then-u2_at-o.ensures.0, le-leb _ _ c.if-u2_at-o.true)

pub returns : goal.returns
returns c = rw (← c.u2_at.ensures.0, lt-leb _ _ c.if-u2_at-o.false)
