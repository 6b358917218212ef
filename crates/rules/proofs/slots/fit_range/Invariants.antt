use Rattle.std.proofs.Common.{is_some, ◌≡◌, ◌+◌, ◌-◌, ◌≤◌}
use Rattle.kit.specs.Claims.{verdict}
use Rattle.rules.specs.Slots.{locals_at, veil, hidden_key}
use Rattle.rules.specs.States.{slots_fit}
use Rattle.rules.specs.Ancestry.{lineage}
use Rattle.rules.proofs.slots.fit_range.Given as goal

abbrev pub invariant-loop-i : goal.invariant-loop-i
invariant-loop-i l = (l.i ≤ l.n) × (verdict (slots_fit (lineage l.t l.kin.at l.kin.count) (veil (is_some l.hidden) (hidden_key l.hidden) (locals_at l.t (l.a + l.i) (l.n - l.i))) (locals_at l.t (l.b + l.i) (l.n - l.i))) ≡ verdict (slots_fit (lineage l.t l.kin.at l.kin.count) (veil (is_some l.hidden) (hidden_key l.hidden) (locals_at l.t l.a l.n)) (locals_at l.t l.b l.n)))
