use Rattle.machine.specs.Filling.{Filling}
use Rattle.running.specs.Dispatching.{spot_word}
use Rattle.machine.proofs.dispatch.fill_all.Given as goal

abbrev pub invariant-loop-c : goal.invariant-loop-c
invariant-loop-c l = Filling l.s l.n l.initial.t (spot_word l.c 0 0) l.t
