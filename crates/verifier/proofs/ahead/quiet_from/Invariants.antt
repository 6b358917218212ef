use Rattle.std.specs.Prelude.{◌+◌, ◌-◌, ◌*◌}
use Rattle.verifier.specs.Ahead.{Hushing}
use Rattle.verifier.proofs.ahead.quiet_from.Given as goal

abbrev pub invariant-loop-k : goal.invariant-loop-k
invariant-loop-k l = Hushing l.s l.x.table l.x.entries l.o (l.x.table + 8 * l.k) (l.x.entries - l.k) l.r
