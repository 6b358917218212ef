use Rattle.shaping.specs.MarkLaws.{start_past, start_read}
use Rattle.shaping.proofs.marks.is_start.Goals as goal

pub returns-then-x-o : goal.returns-then-x-o
returns-then-x-o c = start_past _ _ _ _ c.requires.marks c.if-x-o.true

pub returns : goal.returns
returns c = start_read _ _ _ _ c.requires.marks _ c.byte.ensures.0 c.if-x-o.false
