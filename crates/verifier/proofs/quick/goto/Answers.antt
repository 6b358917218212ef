use Rattle.verifier.specs.Quick.{away_on}
use Rattle.verifier.proofs.quick.goto.Goals as goal

pub returns : goal.returns
returns c = away_on _ _ _ _ _ _ _ c.in_ok-branch.ensures
