use Rattle.std.proofs.Common.{◌-◌}
use Rattle.shaping.specs.FillLaws.{Filling}
use Rattle.shaping.proofs.marks.fill.Given as goal

abbrev pub invariant-loop-o : goal.invariant-loop-o
invariant-loop-o l = Filling l.s l.initial.t l.x l.t l.o

abbrev pub decreases-loop-o : goal.decreases-loop-o
decreases-loop-o l = l.x.end - l.x.start - l.o
