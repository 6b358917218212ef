use Rattle.std.proofs.Common.{◌+◌, ◌-◌, ◌≡◌}
use Rattle.rules.specs.Slots.{locals_at}
use Rattle.verifier.specs.Drawing.{stack_in}
use Rattle.verifier.specs.Judging.{topless}
use Rattle.verifier.proofs.frame_forms.no_top.Given as goal

abbrev pub invariant-loop-i : goal.invariant-loop-i
invariant-loop-i l = topless (locals_at l.t (65216 + l.i) (l.n - l.i)) ≡ topless (stack_in l.t l.n)
