use Rattle.running.specs.Entry.{Laid}
use Rattle.std.proofs.Common.{◌≡◌, length}
use Rattle.running.proofs.entry.lay.Given as goal

abbrev pub invariant-loop-i : goal.invariant-loop-i
invariant-loop-i l = Laid l.args l.s l.g l.i × (length l.s ≡ length l.initial.s) × (length l.g ≡ length l.initial.g)
