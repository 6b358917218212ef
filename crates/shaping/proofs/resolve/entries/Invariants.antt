use Rattle.shaping.specs.Resolving.{Around, Filled}
use Rattle.std.proofs.Common.{◌*◌, ◌≤◌}
use Rattle.shaping.proofs.resolve.entries.Given as goal

abbrev pub invariant-loop-c : goal.invariant-loop-c
invariant-loop-c l = Around l.initial.t l.t × Filled l.s l.n l.members (1024 * l.c) l.t × (l.c ≤ l.n)
