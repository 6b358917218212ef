use Rattle.shaping.specs.Phases.{shape_by, MethodsFrom}
use Rattle.std.proofs.Common.{◌≡◌, length}
use Rattle.shaping.proofs.phases.shape_class.Given as goal

abbrev pub invariant-loop-m : goal.invariant-loop-m
invariant-loop-m l = MethodsFrom shape_by l.s l.n l.c l.m l.initial.t l.t × (length l.t ≡ length l.initial.t)
