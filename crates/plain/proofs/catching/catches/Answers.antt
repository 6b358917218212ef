use Rattle.std.proofs.Common.{◌∙◌}
use Rattle.plain.specs.Catching.{catches_by}
use Rattle.plain.proofs.catching.catches.Goals as goal

pub returns-then-covers : goal.returns-then-covers
unfolding catches_by
returns-then-covers c = c.is_below.ensures ∙ rw (← c.covers.ensures, c.if-covers.true, c.catch_class-e.ensures, c.u2_at.ensures.0)

pub returns : goal.returns
unfolding catches_by
returns c = rw (← c.covers.ensures, c.if-covers.false)
