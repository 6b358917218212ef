use Rattle.reader.specs.Prints.{PrintsTo}
use Rattle.std.proofs.Common.{◌≤◌}
use Rattle.reader.proofs.printing.print_all.Given as goal

abbrev pub invariant-loop-c : goal.invariant-loop-c
invariant-loop-c l = (l.c ≤ l.n) × PrintsTo l.s l.c l.initial.t l.t
