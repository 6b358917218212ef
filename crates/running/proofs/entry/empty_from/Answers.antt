use Rattle.std.proofs.Common.{refl}
use Rattle.running.specs.Entry.{emptied_part}
use Rattle.running.proofs.entry.empty_from.Goals as goal

pub returns : goal.returns
returns c = emptied_part _ _ _ _ c.requires.0 c.requires.1 refl (c.fill.ensures.after (λ y e. e))
