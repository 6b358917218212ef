use Rattle.reader.specs.Access.{layout_start, layout_out, layout_stop, layout_more}
use Rattle.std.proofs.Common.{◌-◌, ◌+◌, ◌≡◌, arith}
use Rattle.reader.proofs.access.layout_size.Goals as goal

pub loop-i-init : goal.loop-i-init
loop-i-init c =
    let e : 11 + c.args.n - 0 ≡ 11 + c.args.n = omega arith in
    (rw e (layout_start c.args.s.now c.args.n c.args.t.now c.requires.0 _), omega arith)

pub returns-then-c-eq0 : goal.returns-then-c-eq0
returns-then-c-eq0 c = (layout_stop _ _ _ _ _ c.loop-i.invariant.0 (omega arith) c.if-c-eq0.true, omega (arith, c.loop-i.invariant.1, c.requires.0))

pub loop-i-preserved : goal.loop-i-preserved
loop-i-preserved c =
    let e : 11 + c.args.n - c.loop-i._i - 1 ≡ 11 + c.args.n - (c.loop-i._i + 1) = omega arith in
    (rw (← e) (layout_more _ _ _ _ _ c.loop-i.invariant.0 (omega arith) c.if-c-eq0.false _ _ c.own_fields-total.ensures.0 c.above-c.ensures), omega (arith, c.loop-i.invariant.1, c.own_fields-total.ensures.1))

pub returns : goal.returns
returns c = (layout_out _ _ _ _ _ c.loop-i.invariant.0 (omega arith), omega (arith, c.loop-i.invariant.1, c.requires.0))
