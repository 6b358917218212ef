use Rattle.std.proofs.Common.{refl}
use Rattle.verifier.proofs.walk.placed.Goals as goal

pub returns : goal.returns
returns c = refl
