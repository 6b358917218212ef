use Rattle.reader.specs.Prints.{has_word}
use Rattle.std.proofs.Common.{◌≡◌, ◌≤◌, ◌/◌, length}
use Rattle.reader.proofs.prints.has.Given as goal

abbrev pub invariant-loop-i : goal.invariant-loop-i
invariant-loop-i l = (l.i ≤ length l.w / 4) × (l.hit ≡ has_word l.w l.p l.i)
