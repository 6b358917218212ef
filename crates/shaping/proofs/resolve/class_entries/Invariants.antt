use Rattle.shaping.specs.Resolving.{Around, Filled}
use Rattle.std.proofs.Common.{◌+◌, ◌*◌, ◌<◌, ◌≤◌}
use Rattle.shaping.proofs.resolve.class_entries.Given as goal

abbrev pub invariant-loop-i : goal.invariant-loop-i
invariant-loop-i l = Around l.initial.t l.t × Filled l.s l.n l.members (1024 * l.c + l.i) l.t × (0 < l.i) × (l.i ≤ 1024)
