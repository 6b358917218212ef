use Rattle.stretching.specs.Quick.{quick_elsewhere}
use Rattle.stretching.proofs.quick.rare.Goals as goal

pub returns-in_default : goal.returns-in_default
returns-in_default c = quick_elsewhere _ _ _ _ _ _ _ _ _ _ _
