use Rattle.texts.specs.Names.{plain_at, plain_via}
use Rattle.texts.proofs.names.plain_at.Goals as goal

pub returns : goal.returns
unfolding plain_at
returns c = search (plain_via) depth 6
