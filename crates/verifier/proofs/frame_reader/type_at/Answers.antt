use Rattle.verifier.specs.FrameReadLaws.{at_inside, at-end}
use Rattle.verifier.proofs.frame_reader.type_at.Goals as goal

pub returns-then-q-f : goal.returns-then-q-f
returns-then-q-f c = at_inside _ _ _ c.requires _ _ _ _ _ c.if-q-f.true c.byte.ensures.0 c.tagged_type.ensures

pub returns : goal.returns
returns c = at-end _ _ _ c.requires _ _ _ c.if-q-f.false
