use Rattle.classfiles.specs.Past.{forms}
use Rattle.classfiles.specs.Shapes.{class_shape}
use Rattle.kit.specs.Pick.{picks}
use Rattle.classfiles.proofs.descriptors.class_type.Goals as goal

pub returns-then-is_at : goal.returns-then-is_at
unfolding class_shape
returns-then-is_at c = search (forms, picks) depth 12

pub returns-then-class_name : goal.returns-then-class_name
unfolding class_shape
returns-then-class_name c = search (forms, picks) depth 12

pub returns : goal.returns
unfolding class_shape
returns c = search (forms, picks) depth 12
