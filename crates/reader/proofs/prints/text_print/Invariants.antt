use Rattle.reader.specs.Prints.{print_words}
use Rattle.std.proofs.Common.{◌-◌, ◌^◌, ◌<◌, ◌≤◌, ◌≡◌}
use Rattle.reader.proofs.prints.text_print.Given as goal

abbrev pub invariant-loop-i : goal.invariant-loop-i
invariant-loop-i l = (l.i ≤ l.n) × (l.v < 2 ^ 32) × (print_words l.v l.x (l.n - l.i) l.i ≡ print_words l.h l.x l.n 0)
