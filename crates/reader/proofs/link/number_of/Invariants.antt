use Rattle.std.proofs.Common.{◌≡◌, ◌+◌, drop}
use Rattle.reader.specs.Program.{number_in}
use Rattle.reader.specs.Numbers.{lent}
use Rattle.reader.proofs.link.number_of.Given as goal

abbrev pub invariant-loop-i : goal.invariant-loop-i
invariant-loop-i l = l.i + number_in (drop l.i (lent l.ns)) l.x ≡ number_in (lent l.ns) l.x
