use Rattle.verifier.specs.Starts.{started}
use Rattle.std.proofs.Common.{refl}
use Rattle.verifier.proofs.start.start.Goals as goal

pub returns : goal.returns
returns c = started _ _ c.args.x _ c.fill.ensures refl
