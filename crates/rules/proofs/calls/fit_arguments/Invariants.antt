use Rattle.std.proofs.Common.{◌≡◌, ◌-◌, ◌≤◌}
use Rattle.kit.specs.Claims.{verdict}
use Rattle.rules.specs.Slots.{stack_at, operands_of}
use Rattle.rules.specs.Walk.{operands_fit}
use Rattle.rules.specs.Ancestry.{lineage}
use Rattle.rules.proofs.calls.fit_arguments.Given as goal

abbrev pub invariant-loop-k : goal.invariant-loop-k
invariant-loop-k l = (l.k ≤ l.a.count) × (verdict (operands_fit (lineage l.t l.kin.at l.kin.count) l.k (stack_at l.t l.a.at (l.a.count - l.k)) (operands_of l.t l.h)) ≡ verdict (operands_fit (lineage l.t l.kin.at l.kin.count) 0 (stack_at l.t l.a.at l.a.count) (operands_of l.t l.h)))
