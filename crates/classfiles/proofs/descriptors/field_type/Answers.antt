use Rattle.classfiles.specs.Past.{forms}
use Rattle.classfiles.specs.Shapes.{field_shape}
use Rattle.kit.specs.Pick.{picks}
use Rattle.classfiles.proofs.descriptors.field_type.Goals as goal

pub returns-in_err-e : goal.returns-in_err-e
unfolding field_shape
returns-in_err-e c = search (forms, picks, c.in_err-e.ensures) depth 12

pub returns-then-e-t : goal.returns-then-e-t
unfolding field_shape
returns-then-e-t c = search (forms, picks, c.in_ok-e.ensures) depth 12

pub returns : goal.returns
unfolding field_shape
returns c = search (forms, picks, c.in_ok-e.ensures) depth 12
