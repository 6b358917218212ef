use Rattle.classfiles.specs.Descriptors.{in_name}
use Rattle.std.proofs.Common.{ap}
use Rattle.std.specs.Prelude.{eqb, not, ℕ}
use Rattle.classfiles.proofs.descriptors.in_name.Goals as goal

pub returns : goal.returns
unfolding in_name
returns c = ap (λ (n : ℕ). not (eqb n 59)) c.byte.ensures.0
