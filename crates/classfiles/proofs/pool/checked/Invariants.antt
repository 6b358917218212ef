use Rattle.std.specs.Prelude.{◌≡◌, ◌-◌}
use Rattle.kit.specs.Scan.{first_not}
use Rattle.classfiles.specs.Table.{pool_in}
use Rattle.classfiles.specs.Faults.{sound, first_fault}
use Rattle.classfiles.proofs.pool.checked.Given as goal

abbrev pub invariant-loop-k : goal.invariant-loop-k
invariant-loop-k l = first_not (sound (pool_in l.s l.tags)) (l.n - l.k) l.k ≡ first_fault (pool_in l.s l.tags)
