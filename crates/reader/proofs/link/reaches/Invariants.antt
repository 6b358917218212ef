use Rattle.reader.specs.Chains.{reach_in}
use Rattle.std.proofs.Common.{◌≡◌, ◌-◌}
use Rattle.reader.proofs.link.reaches.Given as goal

abbrev pub invariant-loop-i : goal.invariant-loop-i
invariant-loop-i l = reach_in l.u (l.n - l._i) l.c ≡ reach_in l.u l.n l.from
