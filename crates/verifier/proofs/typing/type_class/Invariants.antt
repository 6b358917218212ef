use Rattle.shaping.specs.Phases.{typing_by, MethodsFrom}
use Rattle.std.proofs.Common.{◌≡◌, length}
use Rattle.verifier.proofs.typing.type_class.Given as goal

abbrev pub invariant-loop-m : goal.invariant-loop-m
invariant-loop-m l = MethodsFrom typing_by l.s l.n l.c l.m l.initial.t l.t × (length l.t ≡ length l.initial.t)
