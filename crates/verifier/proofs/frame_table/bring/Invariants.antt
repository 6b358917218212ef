use Rattle.std.proofs.Common.{◌≡◌, ◌≤◌, length}
use Rattle.verifier.specs.RowWrites.{Brought}
use Rattle.verifier.proofs.frame_table.bring.Given as goal

abbrev pub invariant-loop-i : goal.invariant-loop-i
invariant-loop-i l = (length l.t ≡ length l.initial.t) × (l.i ≤ l.n) × Brought l.a l.b l.i l.initial.t l.t
