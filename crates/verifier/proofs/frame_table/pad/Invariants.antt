use Rattle.std.proofs.Common.{◌≡◌, ◌≤◌, length}
use Rattle.verifier.specs.RowWrites.{Topped}
use Rattle.verifier.proofs.frame_table.pad.Given as goal

abbrev pub invariant-loop-i : goal.invariant-loop-i
invariant-loop-i l = (length l.t ≡ length l.initial.t) × (l.i ≤ l.n) × Topped l.a l.i l.initial.t l.t
