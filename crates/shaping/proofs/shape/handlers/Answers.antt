use Rattle.std.proofs.Common.{ap, arith}
use Rattle.std.specs.Prelude.{not, ◌<◌, ◌-◌}
use Rattle.shaping.specs.ShapeLaws.{table_start, table_end, table_12, table_13, table_next, table_turn}
use Rattle.shaping.proofs.shape.handlers.Goals as goal

pub loop-k-init : goal.loop-k-init
loop-k-init c = table_start _ _ _ _ _ _

pub returns-then-not-range_ok : goal.returns-then-not-range_ok
returns-then-not-range_ok c = table_12 _ _ _ _ _ _ _ c.loop-k.invariant (omega (arith, c.loop-k-test.true)) _ c.range_ok.ensures _ c.u2_at.ensures.0 (ap not c.if-not-range_ok.true)

pub returns-then-not-catch_ok : goal.returns-then-not-catch_ok
returns-then-not-catch_ok c = table_13 _ _ _ _ _ _ _ c.loop-k.invariant (omega (arith, c.loop-k-test.true)) _ c.range_ok.ensures (ap not c.if-not-range_ok.false) _ c.catch_ok.ensures _ c.u2_at-then-not-catch_ok.ensures.0 (ap not c.if-not-catch_ok.true)

pub loop-k-preserved : goal.loop-k-preserved
loop-k-preserved c =
    let h : 0 < c.args.x.entries - c.loop-k.k = omega (arith, c.loop-k-test.true) in
    table_turn _ _ _ _ _ _ _ (table_next _ _ _ _ _ _ _ c.loop-k.invariant h _ c.range_ok.ensures (ap not c.if-not-range_ok.false) _ c.catch_ok.ensures (ap not c.if-not-catch_ok.false))

pub returns : goal.returns
returns c = table_end _ _ _ _ _ _ _ c.loop-k.invariant (omega (arith, c.loop-k-test.false))
