use Rattle.shaping.specs.MarkLaws.{new_past, new_read}
use Rattle.shaping.proofs.marks.is_new_at.Goals as goal

pub returns-then-x-o : goal.returns-then-x-o
returns-then-x-o c = new_past _ _ _ _ c.requires.marks c.if-x-o.true

pub returns : goal.returns
returns c = new_read _ _ _ _ c.requires.marks _ c.byte.ensures.0 c.if-x-o.false
