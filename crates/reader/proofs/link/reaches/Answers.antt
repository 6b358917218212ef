use Rattle.reader.specs.Chains.{reach_in, reach_done, reach_yes, reach_up}
use Rattle.std.proofs.Common.{ℕ, ◌-◌, ◌+◌, ◌≡◌, ap, arith}
use Rattle.reader.proofs.link.reaches.Goals as goal

pub loop-i-init : goal.loop-i-init
loop-i-init c = let e : c.args.n - 0 ≡ c.args.n = omega arith in ap (λ (k : ℕ). reach_in c.args.u.now k c.args.from) e

pub returns-then-c-eq0 : goal.returns-then-c-eq0
returns-then-c-eq0 c = reach_yes _ _ _ _ c.loop-i.invariant (omega arith) c.if-c-eq0.true

pub loop-i-preserved : goal.loop-i-preserved
loop-i-preserved c =
    let e : c.args.n - c.loop-i._i - 1 ≡ c.args.n - (c.loop-i._i + 1) = omega arith in
    rw (← e) (reach_up _ _ _ _ c.loop-i.invariant (omega arith) c.if-c-eq0.false _ c.word-c.ensures)

pub returns : goal.returns
returns c = reach_done _ _ _ _ c.loop-i.invariant (omega arith)
