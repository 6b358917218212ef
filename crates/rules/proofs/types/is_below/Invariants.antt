use Rattle.std.proofs.Common.{◌≡◌, ◌-◌, ◌≤◌}
use Rattle.reader.specs.Program.{up_to, below}
use Rattle.rules.specs.Ancestry.{lineage}
use Rattle.rules.proofs.types.is_below.Given as goal

abbrev pub invariant-loop : goal.invariant-loop
invariant-loop l =
    (l.counter ≤ l.kin.count) × (up_to (lineage l.t l.kin.at l.kin.count) (l.kin.count - l.counter) l.at l.d ≡ below (lineage l.t l.kin.at l.kin.count) l.c l.d)
