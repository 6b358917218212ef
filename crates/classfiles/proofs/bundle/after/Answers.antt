use Rattle.classfiles.specs.Bundle.{class_files_at}
use Rattle.classfiles.specs.Past.{forms}
use Rattle.classfiles.proofs.bundle.after.Goals as goal

pub returns-then-q-s : goal.returns-then-q-s
unfolding class_files_at
returns-then-q-s c = search forms depth 12

pub returns-in_err-magic : goal.returns-in_err-magic
unfolding class_files_at
returns-in_err-magic c = search (forms, c.in_err-magic.ensures) depth 12

pub returns : goal.returns
unfolding class_files_at
returns c = search (forms, c.in_ok-magic.ensures) depth 12
