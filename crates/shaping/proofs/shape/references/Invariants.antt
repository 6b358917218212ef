use Rattle.std.proofs.Common.{◌-◌, length}
use Rattle.shaping.specs.ShapeLaws.{Referring}
use Rattle.shaping.proofs.shape.references.Given as goal

abbrev pub invariant-loop-o : goal.invariant-loop-o
invariant-loop-o l = Referring l.s l.t l.x l.o

abbrev pub decreases-loop-o : goal.decreases-loop-o
decreases-loop-o l = length l.code - l.o
