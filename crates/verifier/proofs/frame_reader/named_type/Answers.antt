use Rattle.verifier.specs.FrameReadLaws.{named_yes, named_no}
use Rattle.verifier.proofs.frame_reader.named_type.Goals as goal

pub returns-then-w-eq2 : goal.returns-then-w-eq2
returns-then-w-eq2 c = named_yes _ _ _ c.requires _ _ _ _ c.named_word-w.ensures _ c.if-w-eq2.true c.reference.ensures.1

pub returns : goal.returns
returns c = named_no _ _ _ c.requires _ _ _ _ c.named_word-w.ensures c.if-w-eq2.false
