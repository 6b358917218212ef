use Rattle.classfiles.specs.Past.{forms}
use Rattle.classfiles.specs.Shapes.{results_shape}
use Rattle.kit.specs.Pick.{picks}
use Rattle.classfiles.proofs.descriptors.results.Goals as goal

pub returns-then-is_at : goal.returns-then-is_at
unfolding results_shape
returns-then-is_at c = search (forms, picks) depth 12

pub returns-in_err-e : goal.returns-in_err-e
unfolding results_shape
returns-in_err-e c = search (forms, picks, c.in_err-e.ensures) depth 12

pub returns : goal.returns
unfolding results_shape
returns c = search (forms, picks, c.in_ok-e.ensures) depth 12
