use Rattle.rules.specs.FrameLaws.{into_none}
use Rattle.rules.proofs.frames.into_frame.Goals as goal

pub returns-in-None : goal.returns-in-None
returns-in-None c = into_none _ _ _ c.in-None.ensures.is
