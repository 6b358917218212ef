use Rattle.std.proofs.Common.{◌-◌}
use Rattle.running.specs.Throws.{Sinks}
use Rattle.shaping.specs.Phases.{program_now}
use Rattle.running.proofs.landing.land.Given as goal

abbrev pub invariant-loop-i : goal.invariant-loop-i
invariant-loop-i l = Sinks (program_now l.b l.n l.t) l.t l.d l.fn.k l.c (l.d - l.i)
