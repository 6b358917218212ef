use Rattle.std.specs.Prelude.{◌+◌, ◌-◌, ◌*◌}
use Rattle.verifier.specs.Ahead.{Edging}
use Rattle.verifier.proofs.ahead.alike_from.Given as goal

abbrev pub invariant-loop-k : goal.invariant-loop-k
invariant-loop-k l = Edging l.s l.x.table l.x.entries l.o (l.x.table + 8 * l.k) (l.x.entries - l.k) l.r
