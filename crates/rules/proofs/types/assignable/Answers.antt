use Rattle.rules.specs.TypeLaws.{at_kind, kinds, fits-uninit}
use Rattle.rules.specs.Types.{fits}
use Rattle.kit.specs.Pick.{picks}
use Rattle.std.proofs.Common.{arith}
use Rattle.rules.proofs.types.assignable.Goals as goal

pub returns-then-k-eq-INT : goal.returns-then-k-eq-INT
unfolding fits
returns-then-k-eq-INT c = at_kind (fits _ _) _ 1 _ (search picks) (search kinds depth 12)

pub returns-then-k-eq-NULL : goal.returns-then-k-eq-NULL
unfolding fits
returns-then-k-eq-NULL c = at_kind (fits _ _) _ 2 _ (search picks) (search kinds depth 12)

pub returns-then-k-eq-CLASS : goal.returns-then-k-eq-CLASS
unfolding fits
returns-then-k-eq-CLASS c = at_kind (fits _ _) _ 3 _ (search picks) (search kinds depth 12)

pub returns-then-k-eq-ARRAY : goal.returns-then-k-eq-ARRAY
unfolding fits
returns-then-k-eq-ARRAY c = at_kind (fits _ _) _ 4 _ (search picks) (search kinds depth 12)

pub returns-then-k-eq-TOP : goal.returns-then-k-eq-TOP
unfolding fits
returns-then-k-eq-TOP c = at_kind (fits _ _) _ 0 _ (search picks) (search kinds depth 12)

pub returns : goal.returns
unfolding fits
returns c = fits-uninit _ _ _ _ (omega arith) c.is_uninit.ensures
