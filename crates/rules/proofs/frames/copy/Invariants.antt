use Rattle.std.proofs.Common.{◌≡◌, ◌≤◌, length}
use Rattle.rules.specs.Loads.{Copied}
use Rattle.rules.proofs.frames.copy.Given as goal

abbrev pub invariant-loop-i : goal.invariant-loop-i
invariant-loop-i l = (length l.t ≡ length l.initial.t) × (l.i ≤ l.n) × Copied l.a l.b l.i l.initial.t l.t
