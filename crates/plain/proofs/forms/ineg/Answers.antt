use Rattle.plain.specs.Turns.{sized_low, decided, if_not, if_so}
use Rattle.plain.specs.WindowForms.{neg_by, steps, theres}
use Rattle.plain.proofs.forms.ineg.Goals as goal

pub returns-then-not-on_top : goal.returns-then-not-on_top
returns-then-not-on_top c = if_not _ _ _ _ _ _ (neg_by _ _ _) (search decided)

pub lowered-requires : goal.lowered-requires
lowered-requires c = search theres

pub push-requires : goal.push-requires
push-requires c = search (sized_low)

pub returns : goal.returns
returns c = if_so _ _ _ _ _ _ _ _ _ (neg_by _ _ _) (search decided) (search steps depth 6)
