use Rattle.machine.specs.Filling.{Filling}
use Rattle.running.specs.Dispatching.{spot_word}
use Rattle.machine.proofs.dispatch.row.Given as goal

abbrev pub invariant-loop-i : goal.invariant-loop-i
invariant-loop-i l = Filling l.s l.n l.initial.t (spot_word l.c l.o l.i) l.t
