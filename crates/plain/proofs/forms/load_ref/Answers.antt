use Rattle.plain.specs.Turns.{decided, if_not, if_so}
use Rattle.plain.specs.WindowForms.{aload_by, steps, theres}
use Rattle.plain.proofs.forms.load_ref.Goals as goal

pub returns-then-not-in_local : goal.returns-then-not-in_local
returns-then-not-in_local c = if_not _ _ _ _ _ _ (aload_by _ _ _ _) (search decided)

pub bounds-w-i : goal.bounds-w-i
bounds-w-i c = search theres

pub returns : goal.returns
returns c = if_so _ _ _ _ _ _ _ _ _ (aload_by _ _ _ _) (search decided) (search steps depth 6)
