use Rattle.plain.specs.ValueLaws.{base_by}
use Rattle.kit.specs.Pick.{calls}
use Rattle.plain.proofs.values.base_fits.Goals as goal

pub returns-then-e-eq-INT_BASE : goal.returns-then-e-eq-INT_BASE
returns-then-e-eq-INT_BASE c = base_by _ _ _ _ (search calls depth 12)

pub returns-then-b-eq-INT_BASE : goal.returns-then-b-eq-INT_BASE
returns-then-b-eq-INT_BASE c = base_by _ _ _ _ (search calls depth 12)

pub returns : goal.returns
returns c = base_by _ _ _ _ (search calls depth 12)
