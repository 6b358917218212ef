use Rattle.machine.specs.Filling.{Filling}
use Rattle.running.specs.Dispatching.{spot_word}
use Rattle.machine.proofs.dispatch.rows.Given as goal

abbrev pub invariant-loop-o : goal.invariant-loop-o
invariant-loop-o l = Filling l.s l.n l.initial.t (spot_word l.c l.o 0) l.t
