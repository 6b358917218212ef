use Rattle.std.proofs.Common.{◌≡◌, ◌+◌, ◌-◌, ◌≤◌}
use Rattle.rules.specs.Slots.{locals_at}
use Rattle.rules.specs.States.{no_copy}
use Rattle.rules.specs.Types.{self}
use Rattle.verifier.proofs.frame_table.no_self.Given as goal

abbrev pub invariant-loop-i : goal.invariant-loop-i
invariant-loop-i l = (l.i ≤ l.n) × (no_copy self (locals_at l.t (l.a + l.i) (l.n - l.i)) ≡ no_copy self (locals_at l.t l.a l.n))
