use Rattle.plain.specs.Turns.{sized_low, decided, if_not, if_so}
use Rattle.plain.specs.WindowForms.{pop_by, steps}
use Rattle.plain.proofs.forms.pop.Goals as goal

pub returns-then-c-lt1 : goal.returns-then-c-lt1
returns-then-c-lt1 c = if_not _ _ _ _ _ _ (pop_by _ _ _) (search decided)

pub go-requires : goal.go-requires
go-requires c = search (sized_low)

pub returns : goal.returns
returns c = if_so _ _ _ _ _ _ _ _ _ (pop_by _ _ _) (search decided) (search steps depth 6)
