use Rattle.std.proofs.Common.{◌≡◌, ◌-◌, ◌≤◌}
use Rattle.kit.specs.Claims.{verdict}
use Rattle.rules.specs.Slots.{stack_at}
use Rattle.rules.specs.States.{slots_fit}
use Rattle.rules.specs.Ancestry.{lineage}
use Rattle.rules.proofs.slots.fit_stack.Given as goal

abbrev pub invariant-loop-i : goal.invariant-loop-i
invariant-loop-i l = (l.i ≤ l.d) × (verdict (slots_fit (lineage l.t l.kin.at l.kin.count) (stack_at l.t l.a (l.d - l.i)) (stack_at l.t l.b (l.d - l.i))) ≡ verdict (slots_fit (lineage l.t l.kin.at l.kin.count) (stack_at l.t l.a l.d) (stack_at l.t l.b l.d)))
