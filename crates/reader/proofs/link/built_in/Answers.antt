use Rattle.reader.specs.BuiltIns.{built_ins}
use Rattle.reader.specs.Numbers.{built_in_names}
use Rattle.reader.proofs.link.built_in.Goals as goal

pub returns : goal.returns
unfolding built_in_names built_ins
returns c = c.number_of.ensures
