use Rattle.std.proofs.Common.{◌-◌, length}
use Rattle.shaping.specs.ScanLaws.{Scanning}
use Rattle.shaping.proofs.marks.scan.Given as goal

abbrev pub invariant-loop-o : goal.invariant-loop-o
invariant-loop-o l = Scanning l.s l.initial.t l.x l.t l.o

abbrev pub decreases-loop-o : goal.decreases-loop-o
decreases-loop-o l = length l.code - l.o
