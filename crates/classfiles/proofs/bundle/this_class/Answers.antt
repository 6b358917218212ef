use Rattle.classfiles.specs.Bundle.{this_at}
use Rattle.classfiles.specs.Opening.{this_ok}
use Rattle.classfiles.specs.Past.{forms}
use Rattle.classfiles.proofs.bundle.this_class.Goals as goal

pub returns-in_err-i : goal.returns-in_err-i
unfolding this_at
returns-in_err-i c = search (forms, c.in_err-i.ensures) depth 12

pub returns-in_err-c : goal.returns-in_err-c
unfolding this_at
returns-in_err-c c = search (forms, c.in_ok-i.ensures, c.in_err-c.ensures) depth 12

pub returns : goal.returns
unfolding this_at
returns c = this_ok _ _ _ _ _ c.in_ok-i.ensures _ _ c.in_ok-c.ensures
