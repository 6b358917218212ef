use Rattle.classfiles.specs.Blocks.{names_at}
use Rattle.classfiles.specs.Opening.{names_whole}
use Rattle.classfiles.specs.Past.{forms}
use Rattle.classfiles.proofs.bundle.class_names.Goals as goal

pub returns-in_err-a : goal.returns-in_err-a
unfolding names_at
returns-in_err-a c = search (forms, c.in_err-a.ensures) depth 14

pub returns-in_err-b : goal.returns-in_err-b
unfolding names_at
returns-in_err-b c = search (forms, c.in_ok-a.ensures, c.in_err-b.ensures) depth 14

pub returns-in_err-c : goal.returns-in_err-c
unfolding names_at
returns-in_err-c c = search (forms, c.in_ok-a.ensures, c.in_ok-b.ensures, c.in_err-c.ensures) depth 14

pub returns-in_err-d : goal.returns-in_err-d
unfolding names_at
returns-in_err-d c = search (forms, c.in_ok-a.ensures, c.in_ok-b.ensures, c.in_ok-c.ensures, c.in_err-d.ensures) depth 14

pub returns : goal.returns
unfolding names_at
returns c = names_whole _ _ _ _ _ _ _ _ _ c.in_ok-a.ensures c.in_ok-b.ensures c.in_ok-c.ensures c.in_ok-d.ensures
