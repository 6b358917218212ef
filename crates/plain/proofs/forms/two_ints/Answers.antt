use Rattle.kit.specs.Pick.{picks, if_le, if_gt}
use Rattle.plain.specs.WindowForms.{on_top, two_ints, in_local}
use Rattle.plain.proofs.forms.two_ints.Goals as goal

pub returns-then-c-lt2 : goal.returns-then-c-lt2
unfolding on_top two_ints in_local
returns-then-c-lt2 c = search (picks, if_le, if_gt) depth 8

pub returns-then-g-i-ne-NUM : goal.returns-then-g-i-ne-NUM
unfolding on_top two_ints in_local
returns-then-g-i-ne-NUM c = search (picks, if_le, if_gt) depth 8

pub returns : goal.returns
unfolding on_top two_ints in_local
returns c = search (picks, if_le, if_gt) depth 8
