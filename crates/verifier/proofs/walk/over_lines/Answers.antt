use Rattle.std.proofs.Common.{refl, ◌∙◌, arith, rules}
use Rattle.texts.specs.Reading.{part}
use Rattle.verifier.specs.Lineup.{walking_at}
use Rattle.verifier.specs.Ahead.{beyond_start, beyond_on, quiet_start, quiet_on}
use Rattle.verifier.specs.Walks.{mid_start, mid_out, place}
use Rattle.verifier.specs.Legs.{leg_as, leg_on, leg_off}
use Rattle.verifier.proofs.walk.over_lines.Goals as goal

pub slice_bounds-code-count : goal.slice_bounds-code-count
slice_bounds-code-count c = omega (arith, c.requires.bounded.from, c.requires.bounded.to)

pub slice_bounds-code-start : goal.slice_bounds-code-start
slice_bounds-code-start c = omega (arith, c.requires.bounded.from, c.requires.bounded.to)

pub slice_bounds-code-end : goal.slice_bounds-code-end
slice_bounds-code-end c = omega (arith, c.requires.bounded.from, c.requires.bounded.to)

pub loop-o-init : goal.loop-o-init
loop-o-init c = (refl, c.requires.depth, mid_start _ _ _ _ _ _ refl, beyond_start _ _ _, quiet_start _ _ _ _ refl)

pub scout-z-requires : goal.scout-z-requires
scout-z-requires c = (c.requires.bounded, (walking_at _ _ _ _ _ _ c.requires c.loop-o.t c.loop-o.depth c.loop-o.flag (place c.args.h c.loop-o.depth c.loop-o.flag) refl c.loop-o.invariant.1 c.loop-o.invariant.2.front c.loop-o.invariant.0).laid, c.loop-o.invariant.3, c.loop-o.invariant.4, c.loop-o-test.true, c.requires.rows)

pub placed-g-requires : goal.placed-g-requires
placed-g-requires c = search (rules, arith)

pub leg_from-requires : goal.leg_from-requires
unfolding part
leg_from-requires c = ((walking_at _ _ _ _ _ _ c.requires c.loop-o.t c.loop-o.depth c.loop-o.flag _ c.placed-g.ensures c.loop-o.invariant.1 c.loop-o.invariant.2.front c.loop-o.invariant.0), refl, c.loop-o-test.true, c.scout-z.ensures)

pub shape_of-t-in_err-r : goal.shape_of-t-in_err-r
shape_of-t-in_err-r c = c.leg_from.auto.t ∙ c.loop-o.invariant.0

pub returns-in_err-r : goal.returns-in_err-r
returns-in_err-r c = leg_off _ _ _ _ _ _ _ _ _ (leg_as _ _ _ _ _ _ (place c.args.h c.loop-o.depth c.loop-o.flag) _ c.placed-g.ensures _ _ c.in_err-r.ensures) _ c.from_residual.ensures.1 _ _ c.loop-o.invariant.2

pub loop-o-smaller : goal.loop-o-smaller
loop-o-smaller c = omega (arith, (leg_as _ _ _ _ _ _ (place c.args.h c.loop-o.depth c.loop-o.flag) _ c.placed-g.ensures _ _ c.in_ok-r.ensures).far)

pub loop-o-preserved : goal.loop-o-preserved
loop-o-preserved c = (c.leg_from.auto.t ∙ c.loop-o.invariant.0, c.in_ok-r.ensures.going.depth, leg_on _ _ _ _ _ _ _ _ _ (leg_as _ _ _ _ _ _ (place c.args.h c.loop-o.depth c.loop-o.flag) _ c.placed-g.ensures _ _ c.in_ok-r.ensures) _ _ c.loop-o.invariant.2, beyond_on _ _ _ _ _ _ c.in_ok-r.ensures.front c.requires.rows c.scout-z.ensures.beyond (omega (arith, (leg_as _ _ _ _ _ _ (place c.args.h c.loop-o.depth c.loop-o.flag) _ c.placed-g.ensures _ _ c.in_ok-r.ensures).far)), quiet_on _ _ _ _ _ _ c.scout-z.ensures.quiet (omega (arith, (leg_as _ _ _ _ _ _ (place c.args.h c.loop-o.depth c.loop-o.flag) _ c.placed-g.ensures _ _ c.in_ok-r.ensures).far)) (omega arith))

pub ended-requires : goal.ended-requires
ended-requires c = search (rules, arith)

pub shape_of-t : goal.shape_of-t
shape_of-t c = c.loop-o.invariant.0

pub returns : goal.returns
unfolding part
returns c = mid_out c.args.s.now c.args.t.now c.loop-o.t c.args.x c.args.f c.args.h c.loop-o.o c.loop-o.live (place c.args.h c.loop-o.depth c.loop-o.flag) c.loop-o.invariant.2 _ _ refl c.ended.ensures c.loop-o-test.false
