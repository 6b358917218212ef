use Rattle.rules.specs.TypeLaws.{at_kind, of_type, kinds}
use Rattle.rules.specs.Types.{fits_ref, ref_fits}
use Rattle.kit.specs.Pick.{picks}
use Rattle.rules.proofs.types.fits_class.Goals as goal

pub returns-then-k-eq-NULL : goal.returns-then-k-eq-NULL
unfolding ref_fits
returns-then-k-eq-NULL c = at_kind (fits_ref _ _) _ 2 _ (search picks) (search kinds depth 12)

pub returns-then-k-eq-CLASS : goal.returns-then-k-eq-CLASS
unfolding ref_fits
returns-then-k-eq-CLASS c = at_kind (fits_ref _ _) _ 3 _ (search picks) (search kinds depth 12)

pub returns-then-k-eq-ARRAY : goal.returns-then-k-eq-ARRAY
unfolding ref_fits
returns-then-k-eq-ARRAY c = at_kind (fits_ref _ _) _ 4 _ (search picks) (search kinds depth 12)

pub returns : goal.returns
unfolding ref_fits
returns c = of_type (fits_ref _ _) _ _ (search kinds depth 12)
