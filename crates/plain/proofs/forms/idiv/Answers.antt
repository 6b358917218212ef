use Rattle.plain.specs.Turns.{sized_low, decided, if_not, if_so}
use Rattle.plain.specs.WindowForms.{div_by, steps, theres}
use Rattle.plain.proofs.forms.idiv.Goals as goal

pub returns-then-not-two_ints : goal.returns-then-not-two_ints
returns-then-not-two_ints g c = if_not _ _ _ _ _ _ (div_by _ _ _ _) (search decided)

pub returns-then-b-eq0 : goal.returns-then-b-eq0
returns-then-b-eq0 g c = if_so _ _ _ _ _ _ _ _ _ (div_by _ _ _ _) (search decided) (search steps depth 6)

pub lowered-requires : goal.lowered-requires
lowered-requires g c = search theres

pub push-requires : goal.push-requires
push-requires g c = search (sized_low)

pub returns : goal.returns
returns g c = if_so _ _ _ _ _ _ _ _ _ (div_by _ _ _ _) (search decided) (search steps depth 6)
