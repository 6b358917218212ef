use Rattle.plain.specs.Turns.{sized_low, decided, if_not, if_so}
use Rattle.plain.specs.WindowForms.{istore_by, steps, theres}
use Rattle.plain.proofs.forms.store_int.Goals as goal

pub returns-then-not-on_top : goal.returns-then-not-on_top
returns-then-not-on_top c = if_not _ _ _ _ _ _ (istore_by _ _ _ _) (search decided)

pub lowered-requires : goal.lowered-requires
lowered-requires c = search theres

pub put_local-requires : goal.put_local-requires
put_local-requires c = search (sized_low)

pub returns : goal.returns
returns c = if_so _ _ _ _ _ _ _ _ _ (istore_by _ _ _ _) (search decided) (search steps depth 6)
