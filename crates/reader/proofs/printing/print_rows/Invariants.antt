use Rattle.reader.specs.Prints.{RowsTo}
use Rattle.std.proofs.Common.{◌≤◌}
use Rattle.reader.proofs.printing.print_rows.Given as goal

abbrev pub invariant-loop-j : goal.invariant-loop-j
invariant-loop-j l = (l.j ≤ l.n) × RowsTo l.s l.c l.method l.j l.initial.t l.t
