use Rattle.plain.specs.Turns.{sized_low, decided, if_not, if_so}
use Rattle.plain.specs.WindowForms.{cmp_by, steps, theres}
use Rattle.plain.proofs.forms.if_two.Goals as goal

pub returns-then-not-two_ints : goal.returns-then-not-two_ints
returns-then-not-two_ints g c = if_not _ _ _ _ _ _ (cmp_by _ _ _ _ _) (search decided)

pub lowered-d-requires : goal.lowered-d-requires
lowered-d-requires g c = search theres

pub go-requires : goal.go-requires
go-requires g c = search (sized_low)

pub returns-then-test : goal.returns-then-test
returns-then-test g c = if_so _ _ _ _ _ _ _ _ _ (cmp_by _ _ _ _ _) (search decided) (search steps depth 6)

pub go-requires-2 : goal.go-requires-2
go-requires-2 g c = search (sized_low)

pub returns : goal.returns
returns g c = if_so _ _ _ _ _ _ _ _ _ (cmp_by _ _ _ _ _) (search decided) (search steps depth 6)
