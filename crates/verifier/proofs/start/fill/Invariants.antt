use Rattle.verifier.specs.Starts.{Filled}
use Rattle.std.proofs.Common.{◌≡◌, ◌≤◌, length}
use Rattle.verifier.proofs.start.fill.Given as goal

abbrev pub invariant-loop-j : goal.invariant-loop-j
invariant-loop-j l = (length l.t ≡ length l.initial.t) × (l.j ≤ l.n) × Filled l.initial.t l.t l.x l.j
