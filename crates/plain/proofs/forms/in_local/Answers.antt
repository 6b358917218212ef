use Rattle.kit.specs.Pick.{picks, if_le, if_gt}
use Rattle.plain.specs.WindowForms.{on_top, two_ints, in_local}
use Rattle.plain.proofs.forms.in_local.Goals as goal

pub returns-then-c-j : goal.returns-then-c-j
unfolding on_top two_ints in_local
returns-then-c-j c = search (picks, if_le, if_gt) depth 8

pub returns : goal.returns
unfolding on_top two_ints in_local
returns c = search (picks, if_le, if_gt) depth 8
