use Rattle.classfiles.specs.Past.{forms}
use Rattle.classfiles.specs.Shapes.{method_shape}
use Rattle.kit.specs.Pick.{picks}
use Rattle.classfiles.proofs.descriptors.method_type.Goals as goal

pub returns-then-not-is_at : goal.returns-then-not-is_at
unfolding method_shape
returns-then-not-is_at c = search (forms, picks) depth 14

pub returns-in_err-n : goal.returns-in_err-n
unfolding method_shape
returns-in_err-n c = search (forms, picks, c.in_err-n.ensures) depth 14

pub returns-in_err-m : goal.returns-in_err-m
unfolding method_shape
returns-in_err-m c = search (forms, picks, c.in_ok-n.ensures, c.in_err-m.ensures) depth 14

pub returns-then-m-t : goal.returns-then-m-t
unfolding method_shape
returns-then-m-t c = search (forms, picks, c.in_ok-n.ensures, c.in_ok-m.ensures) depth 14

pub returns : goal.returns
unfolding method_shape
returns c = search (forms, picks, c.in_ok-n.ensures, c.in_ok-m.ensures) depth 14
