use Rattle.std.proofs.Common.{ap, not}
use Rattle.shaping.specs.ShapeLaws.{range_start, range_last, range_none}
use Rattle.kit.specs.Pick.{calls}
use Rattle.shaping.specs.ShapeLaws.{range_is}
use Rattle.shaping.proofs.shape.range_ok.Goals as goal

pub returns-then-not-is_start : goal.returns-then-not-is_start
returns-then-not-is_start c = rw (range_is _ _ _ c.requires.0 _, ← c.u2_at-from.ensures.0) (search calls)

pub returns-then-not-is_start-2 : goal.returns-then-not-is_start-2
returns-then-not-is_start-2 c = rw (range_is _ _ _ c.requires.0 _, ← c.u2_at-from.ensures.0, ← c.u2_at.ensures.0) (search calls)

pub returns-then-is_start : goal.returns-then-is_start
returns-then-is_start c = range_start _ _ _ c.requires.0 _ _ _ _ c.u2_at-from.ensures.0 c.u2_at-to.ensures.0 c.u2_at.ensures.0 _ _ _ c.is_start.ensures (ap not c.if-not-is_start.false) c.is_start-2.ensures (ap not c.if-not-is_start-2.false) c.is_start-3.ensures c.if-is_start.true

pub returns-then-to-x : goal.returns-then-to-x
returns-then-to-x c = range_last _ _ _ c.requires.0 _ _ _ _ c.u2_at-from.ensures.0 c.u2_at-to.ensures.0 c.u2_at.ensures.0 _ _ _ c.is_start.ensures (ap not c.if-not-is_start.false) c.is_start-2.ensures (ap not c.if-not-is_start-2.false) c.is_start-3.ensures c.if-is_start.false c.if-to-x.true

pub returns : goal.returns
returns c = range_none _ _ _ c.requires.0 _ _ _ _ c.u2_at-from.ensures.0 c.u2_at-to.ensures.0 c.u2_at.ensures.0 _ _ _ c.is_start.ensures (ap not c.if-not-is_start.false) c.is_start-2.ensures (ap not c.if-not-is_start-2.false) c.is_start-3.ensures c.if-is_start.false c.if-to-x.false
