use Rattle.std.proofs.Common.{arith}
use Rattle.running.specs.Entering.{way_small, way_read, way_asked, way_left, into_by}
use Rattle.running.proofs.entering.go_into.Goals as goal

pub overflow_sub-y : goal.overflow_sub-y
overflow_sub-y c = (way_small _ _ _ _ _ _ _ _ c.requires).0

pub locals_of-m-requires : goal.locals_of-m-requires
locals_of-m-requires c = ((way_small _ _ _ _ _ _ _ _ c.requires).1, (way_small _ _ _ _ _ _ _ _ c.requires).2)

pub overflow_cast-from : goal.overflow_cast-from
overflow_cast-from c = omega (arith, way_left _ _ _ _ _ _ _ _ c.requires, c.locals_of-m.ensures.1)

pub enter-requires : goal.enter-requires
enter-requires c = way_asked _ _ _ _ _ _ _ _ c.requires _ (way_read _ _ _ _ _ _ _ _ c.requires _ c.locals_of-m.ensures.0)

pub returns : goal.returns
returns c = into_by _ _ _ _ _ _ _ _ c.requires _ _ _ _ _ (way_read _ _ _ _ _ _ _ _ c.requires _ c.locals_of-m.ensures.0) c.enter.ensures
