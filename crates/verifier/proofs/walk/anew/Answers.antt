use Rattle.std.proofs.Common.{refl}
use Rattle.verifier.proofs.walk.anew.Goals as goal

pub returns : goal.returns
returns c = refl
