use Rattle.shaping.specs.Phases.{typing_by, ClassesFrom}
use Rattle.std.proofs.Common.{◌≡◌, length}
use Rattle.verifier.proofs.typing.type_all.Given as goal

abbrev pub invariant-loop-c : goal.invariant-loop-c
invariant-loop-c l = ClassesFrom typing_by l.s l.n l.c l.initial.t l.t × (length l.t ≡ length l.initial.t)
