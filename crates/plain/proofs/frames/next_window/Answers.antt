use Rattle.plain.specs.NextWindow.{fresh}
use Rattle.plain.proofs.frames.next_window.Goals as goal

pub returns : goal.returns
returns c = (fresh _ _ _ _ _ _ _ c.carry.ensures.0 c.wipe.ensures.0, fresh _ _ _ _ _ _ _ c.carry.ensures.1 c.wipe.ensures.1)
