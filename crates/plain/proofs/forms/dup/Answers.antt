use Rattle.plain.specs.Turns.{decided, if_not, if_so}
use Rattle.plain.specs.WindowForms.{dup_by, steps}
use Rattle.plain.proofs.forms.dup.Goals as goal

pub returns-then-c-lt1 : goal.returns-then-c-lt1
returns-then-c-lt1 c = if_not _ _ _ _ _ _ (dup_by _ _ _) (search decided)

pub returns : goal.returns
returns c = if_so _ _ _ _ _ _ _ _ _ (dup_by _ _ _) (search decided) (search steps depth 6)
