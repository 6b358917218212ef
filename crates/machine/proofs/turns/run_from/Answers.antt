use Rattle.std.proofs.Common.{refl, ◌∙◌, arith}
use Rattle.machine.specs.CallableLaws.{standing_callable}
use Rattle.machine.specs.Turns.{going_start, going_next, runs_closed, runs_out, site_after, site_found, site_stays}
use Rattle.machine.proofs.turns.run_from.Goals as goal
use Rattle.machine.proofs.turns.run_from.Goals.{then-not-same_method, else-not-same_method}

pub loop-left-init : goal.loop-left-init
loop-left-init c = (going_start c.args.b.now c.args.n c.args.budget c.args.from c.args.t.now c.args.s.now c.args.g.now c.args.cells.now c.args.d c.args.k c.requires.0 c.requires.1, c.requires.2, c.requires.3, refl, refl, refl, refl)

pub onward-p-requires : goal.onward-p-requires
onward-p-requires c = (c.loop-left.invariant.0.stands, c.loop-left.invariant.1, c.loop-left.invariant.2)

pub shape_of-t-then-p-eq0 : goal.shape_of-t-then-p-eq0
shape_of-t-then-p-eq0 c = c.loop-left.invariant.3

pub returns-then-p-eq0 : goal.returns-then-p-eq0
returns-then-p-eq0 c = runs_out c.args.b.now c.args.n c.args.t.now c.args.s.now c.args.g.now c.args.cells.now c.args.d c.args.k c.args.from c.args.budget c.onward-p.result.left c.onward-p.result.used c.loop-left.t _ _ _ c.loop-left.depth c.onward-p.result.call (c.onward-p.ensures.going _ _ c.loop-left.invariant.0) (omega (arith, c.if-p-eq0.true)) _ c.out_of_steps.ensures

pub step_at-requires : goal.step_at-requires
step_at-requires c = (c.onward-p.ensures.stands, c.loop-left.invariant.0.dispatch, omega (arith, c.onward-p.auto.cells, c.loop-left.invariant.1), standing_callable c.args.b.now c.args.n c.loop-left.t _ _ c.loop-left.depth c.onward-p.result.call c.onward-p.ensures.stands, c.onward-p.ensures.site c.loop-left.site c.loop-left.invariant.2)

pub closed-requires : goal.closed-requires
closed-requires c = λ z. omega (arith, c.ranges.budget, c.if-p-eq0.false, c.onward-p.ensures.most, c.loop-left.invariant.0.most)

pub returns-in-Err : goal.returns-in-Err
returns-in-Err c = runs_closed c.args.b.now c.args.n c.args.t.now c.args.s.now c.args.g.now c.args.cells.now c.args.d c.args.k c.args.from c.args.budget c.onward-p.result.left c.onward-p.result.used c.loop-left.t _ _ _ c.loop-left.depth c.onward-p.result.call (c.onward-p.ensures.going _ _ c.loop-left.invariant.0) (omega (arith, c.if-p-eq0.false)) _ _ _ _ _ c.in-Err.ensures _ c.closed.ensures

pub site_of-site-requires : goal.site_of-site-requires
site_of-site-requires c = let z = site_after c.args.b.now c.args.n c.loop-left.t _ _ _ c.loop-left.depth c.onward-p.result.call c.onward-p.result.used _ _ _ _ c.in-Ok.m c.loop-left.site c.in-Ok.ensures (c.onward-p.ensures.site c.loop-left.site c.loop-left.invariant.2) in (z.0, z.1)

pub loop-left-smaller : goal.loop-left-smaller
loop-left-smaller c = omega (arith, c.if-p-eq0.false, c.onward-p.ensures.most)

pub loop-left-preserved : goal.loop-left-preserved
loop-left-preserved c = (going_next c.args.b.now c.args.n _ c.args.budget c.onward-p.result.left c.onward-p.result.used c.loop-left.t _ _ _ c.loop-left.depth c.onward-p.result.call (c.onward-p.ensures.going _ _ c.loop-left.invariant.0) (omega (arith, c.if-p-eq0.false)) _ _ _ _ c.in-Ok.m c.in-Ok.ensures, omega (arith, c.step_at.auto.cells, c.onward-p.auto.cells, c.loop-left.invariant.1), (elim c.if-not-same_method.branch [ then-not-same_method w ↦ site_found c.args.b.now c.args.n c.loop-left.t _ _ _ c.loop-left.depth c.onward-p.result.call c.onward-p.result.used _ _ _ _ c.in-Ok.m c.loop-left.site c.in-Ok.ensures (c.onward-p.ensures.site c.loop-left.site c.loop-left.invariant.2) c.if-not-same_method.site w.site_of-site.result w.site-is w.site_of-site.ensures | else-not-same_method w ↦ site_stays c.args.b.now c.args.n c.loop-left.t _ _ _ c.loop-left.depth c.onward-p.result.call c.onward-p.result.used _ _ _ _ c.in-Ok.m c.loop-left.site c.in-Ok.ensures (c.onward-p.ensures.site c.loop-left.site c.loop-left.invariant.2) c.if-not-same_method.site w.site-is (c.same_method.ensures w.if-not-same_method.false) ]), c.step_at.auto.t ∙ c.loop-left.invariant.3, c.step_at.auto.cells ∙ c.onward-p.auto.cells ∙ c.loop-left.invariant.4, c.step_at.auto.s ∙ c.onward-p.auto.s ∙ c.loop-left.invariant.5, c.step_at.auto.g ∙ c.onward-p.auto.g ∙ c.loop-left.invariant.6)

pub shape_of-t : goal.shape_of-t
shape_of-t c = c.loop-left.invariant.3

pub shape_of-cells : goal.shape_of-cells
shape_of-cells c = c.loop-left.invariant.4

pub shape_of-s : goal.shape_of-s
shape_of-s c = c.loop-left.invariant.5

pub shape_of-g : goal.shape_of-g
shape_of-g c = c.loop-left.invariant.6

pub returns : goal.returns
returns c = runs_out c.args.b.now c.args.n c.args.t.now c.args.s.now c.args.g.now c.args.cells.now c.args.d c.args.k c.args.from c.args.budget c.loop-left.left c.loop-left.used c.loop-left.t c.loop-left.s c.loop-left.g c.loop-left.cells c.loop-left.depth c.loop-left.call c.loop-left.invariant.0 (omega (arith, c.loop-left-test.false)) _ c.out_of_steps-2.ensures
