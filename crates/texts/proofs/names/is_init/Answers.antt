use Rattle.kit.specs.Pick.{same}
use Rattle.texts.specs.Names.{is_init}
use Rattle.texts.proofs.names.is_init.Goals as goal

pub returns : goal.returns
unfolding is_init
returns c = search same depth 4
