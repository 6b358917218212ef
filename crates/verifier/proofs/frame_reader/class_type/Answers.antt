use Rattle.verifier.specs.FrameReadLaws.{class_yes, class-cut}
use Rattle.verifier.proofs.frame_reader.class_type.Goals as goal

pub returns-in_err-i : goal.returns-in_err-i
returns-in_err-i c = class-cut _ _ _ c.requires _ _ _ _ _ c.from_residual.ensures.1 c.in_err-i.ensures

pub returns : goal.returns
returns c = class_yes _ _ _ c.requires _ _ _ _ _ c.in_ok-i.ensures _ c.named_type.ensures
