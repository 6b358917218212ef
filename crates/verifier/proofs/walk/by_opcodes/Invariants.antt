use Rattle.std.proofs.Common.{◌-◌, ◌≡◌, length}
use Rattle.verifier.specs.Ahead.{Level}
use Rattle.verifier.specs.Legs.{Stretching}
use Rattle.verifier.proofs.walk.by_opcodes.Given as goal

abbrev pub invariant-loop-o : goal.invariant-loop-o
invariant-loop-o l = (length l.t ≡ length l.initial.t) × Stretching l.s l.initial.t l.t l.x l.kin l.f l.h l.from l.o l.depth × Level l.s l.x l.o l.loose l.till

abbrev pub decreases-loop-o : goal.decreases-loop-o
decreases-loop-o l = length l.code - l.o
