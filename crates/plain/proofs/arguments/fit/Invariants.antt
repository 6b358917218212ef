use Rattle.std.proofs.Common.{◌≡◌, ◌-◌, ◌≤◌}
use Rattle.kit.specs.Scan.{first_not}
use Rattle.rules.specs.Ancestry.{lineage}
use Rattle.plain.specs.Arguments.{arg_fits}
use Rattle.plain.proofs.arguments.fit.Given as goal

abbrev pub invariant-loop-i : goal.invariant-loop-i
invariant-loop-i l = (l.i ≤ l.n) × (first_not (arg_fits (lineage l.t l.kin.at l.kin.count) l.t l.of l.cells l.w l.g l.left) (l.n - l.i) l.i ≡ first_not (arg_fits (lineage l.t l.kin.at l.kin.count) l.t l.of l.cells l.w l.g l.left) l.n 0)
