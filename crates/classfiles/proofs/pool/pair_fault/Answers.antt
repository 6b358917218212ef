use Rattle.kit.specs.Pick.{picks}
use Rattle.classfiles.specs.Pool.{pair_fault}
use Rattle.classfiles.proofs.pool.pair_fault.Goals.{else-first-via-then-first+else-second, else-first-via-else-first}
use Rattle.classfiles.proofs.pool.pair_fault.Goals as goal

pub returns-then-second : goal.returns-then-second
unfolding pair_fault
returns-then-second c = search picks depth 12

pub returns : goal.returns
unfolding pair_fault
returns c =
    elim c.else-first.branch [ else-first-via-then-first+else-second w ↦ search picks depth 8 | else-first-via-else-first w ↦ search picks depth 8 ]
