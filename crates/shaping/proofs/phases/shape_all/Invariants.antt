use Rattle.shaping.specs.Phases.{shape_by, ClassesFrom}
use Rattle.std.proofs.Common.{◌≡◌, length}
use Rattle.shaping.proofs.phases.shape_all.Given as goal

abbrev pub invariant-loop-c : goal.invariant-loop-c
invariant-loop-c l = ClassesFrom shape_by l.s l.n l.c l.initial.t l.t × (length l.t ≡ length l.initial.t)
