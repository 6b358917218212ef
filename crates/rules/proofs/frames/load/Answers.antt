use Rattle.rules.specs.Loads.{loaded_held, loaded_outside}
use Rattle.std.proofs.Common.{refl}
use Rattle.rules.proofs.frames.load.Goals as goal

pub returns : goal.returns
returns c = (loaded_held _ _ _ c.args.g _ c.requires.0 c.requires.1 c.copy.ensures c.copy-2.ensures, record { at = refl; locals = refl; depth = refl }, loaded_outside _ _ _ c.args.g _ c.requires.0 c.requires.1 c.copy.ensures c.copy-2.ensures)
