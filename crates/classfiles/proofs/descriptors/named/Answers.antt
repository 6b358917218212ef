use Rattle.classfiles.specs.Past.{forms}
use Rattle.classfiles.specs.Shapes.{named_shape}
use Rattle.kit.specs.Pick.{picks}
use Rattle.texts.specs.Reading.{part}
use Rattle.classfiles.proofs.descriptors.named.Goals as goal

pub returns-then-class_name : goal.returns-then-class_name
unfolding named_shape part
returns-then-class_name c = search (forms, picks) depth 12

pub returns-else-class_name : goal.returns-else-class_name
unfolding named_shape part
returns-else-class_name c = search (forms, picks) depth 12

pub returns-else-z-t : goal.returns-else-z-t
unfolding named_shape part
returns-else-z-t c = search (forms, picks) depth 12
