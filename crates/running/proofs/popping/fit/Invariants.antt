use Rattle.rules.specs.Ancestry.{lineage}
use Rattle.kit.specs.Scan.{first_not}
use Rattle.std.proofs.Common.{◌≤◌, ◌-◌, ◌≡◌}
use Rattle.running.specs.Popping.{param_fits}
use Rattle.running.proofs.popping.fit.Given as goal

abbrev pub invariant-loop-i : goal.invariant-loop-i
invariant-loop-i l = (l.i ≤ l.n) × (first_not (param_fits (lineage l.t l.kin.at l.kin.count) l.t l.e l.cells l.w l.g l.left) (l.n - l.i) l.i ≡ first_not (param_fits (lineage l.t l.kin.at l.kin.count) l.t l.e l.cells l.w l.g l.left) l.n 0)
