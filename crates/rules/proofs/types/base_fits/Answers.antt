use Rattle.rules.specs.TypeLaws.{base_by}
use Rattle.rules.specs.TypeWords.{base_fits}
use Rattle.kit.specs.Pick.{calls}
use Rattle.rules.proofs.types.base_fits.Goals as goal

pub returns-then-e-eq-INT_BASE : goal.returns-then-e-eq-INT_BASE
unfolding base_fits
returns-then-e-eq-INT_BASE c = base_by _ _ _ _ (search calls depth 12)

pub returns-then-b-eq-INT_BASE : goal.returns-then-b-eq-INT_BASE
unfolding base_fits
returns-then-b-eq-INT_BASE c = base_by _ _ _ _ (search calls depth 12)

pub returns : goal.returns
unfolding base_fits
returns c = base_by _ _ _ _ (search calls depth 12)
