use Rattle.kit.specs.Pick.{calls}
use Rattle.texts.specs.Names.{method_name}
use Rattle.texts.proofs.names.method_name.Goals as goal

pub returns-then-is_init : goal.returns-then-is_init
unfolding method_name
returns-then-is_init c = search calls depth 8

pub returns : goal.returns
unfolding method_name
returns c = search calls depth 8
