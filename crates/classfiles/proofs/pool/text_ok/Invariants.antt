use Rattle.std.specs.Prelude.{◌≡◌, ◌+◌, ◌-◌}
use Rattle.kit.specs.Scan.{first_not}
use Rattle.classfiles.specs.Table.{text_byte}
use Rattle.classfiles.proofs.pool.text_ok.Given as goal

abbrev pub invariant-loop-i : goal.invariant-loop-i
invariant-loop-i l = first_not (λ k. text_byte l.s (l.q + k)) (l.n - l.i) l.i ≡ first_not (λ k. text_byte l.s (l.q + k)) l.n 0
