use Rattle.std.proofs.Common.{arith}
use Rattle.plain.specs.NextWindow.{wipe_part}
use Rattle.plain.proofs.frames.wipe.Goals as goal

pub returns : goal.returns
returns c = (wipe_part _ _ _ _ _ c.requires.0 (omega arith) (c.fill.ensures.after (λ y e. e)), wipe_part _ _ _ _ _ c.requires.1 (omega arith) (c.fill-2.ensures.after (λ y e. e)))
