use Rattle.std.proofs.Common.{◌≤◌}
use Rattle.plain.specs.NextWindow.{Carried}
use Rattle.plain.proofs.frames.carry.Given as goal

abbrev pub invariant-loop-i : goal.invariant-loop-i
invariant-loop-i l = (l.i ≤ l.n) × (Carried l.initial.s l.s l.from l.to l.i × Carried l.initial.g l.g l.from l.to l.i)
