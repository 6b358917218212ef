use Rattle.rules.specs.TypeLaws.{nest_by}
use Rattle.rules.specs.TypeWords.{nest_fits}
use Rattle.kit.specs.Pick.{calls}
use Rattle.rules.proofs.types.nest_fits.Goals as goal

pub returns-then-a-b : goal.returns-then-a-b
unfolding nest_fits
returns-then-a-b c = nest_by _ _ _ _ _ _ (search calls depth 12)

pub returns-then-b-a : goal.returns-then-b-a
unfolding nest_fits
returns-then-b-a c = nest_by _ _ _ _ _ _ (search calls depth 12)

pub returns : goal.returns
unfolding nest_fits
returns c = nest_by _ _ _ _ _ _ (search calls depth 12)
