use Rattle.std.proofs.Common.{refl, ◌∙◌, arith}
use Rattle.stretching.specs.Stretch.{fit-ready, fit_next, stretch_begin, stretch_next, stretch_spent, stretch_over, stretch_stop, kept_stop}
use Rattle.stretching.proofs.stretch.stretch.Goals as goal

pub loop-spent-init : goal.loop-spent-init
loop-spent-init c = (stretch_begin _ _ _ _ _ _ _ _ c.requires.operands, c.requires, refl, refl, refl, refl)

pub shape_of-cells-then-end-at : goal.shape_of-cells-then-end-at
shape_of-cells-then-end-at c = c.loop-spent.invariant.2

pub shape_of-w-then-end-at : goal.shape_of-w-then-end-at
shape_of-w-then-end-at c = c.loop-spent.invariant.3

pub shape_of-g-then-end-at : goal.shape_of-g-then-end-at
shape_of-g-then-end-at c = c.loop-spent.invariant.4

pub returns-then-end-at : goal.returns-then-end-at
returns-then-end-at c = c.loop-spent.invariant.0

pub turn-requires : goal.turn-requires
turn-requires c = fit-ready _ _ _ _ _ _ _ c.loop-spent.invariant.1 (omega (arith, c.if-end-at.false, c.loop-spent.invariant.5))

pub returns-in_default : goal.returns-in_default
returns-in_default c = stretch_stop _ _ _ _ _ _ _ _ _ _ _ _ _ _ _ c.loop-spent.invariant.0 (kept_stop _ _ c.in_default.not-Ok c.turn.ensures.kept)

pub loop-spent-preserved : goal.loop-spent-preserved
loop-spent-preserved c = (
  stretch_spent _ _ _ _ _ _ _ _ _ _ _ _ _ _ _ (stretch_next _ _ _ _ _ _ _ _ _ _ _ _ _ _ _ _ _ _ _ c.requires.short (omega (arith, c.if-end-at.false, c.loop-spent.invariant.5)) (omega arith) c.loop-spent.invariant.0 c.in-Ok.ensures),
  fit_next _ _ _ _ _ _ _ _ _ _ c.loop-spent.invariant.1 c.turn.auto.cells c.turn.auto.w c.turn.auto.g c.in-Ok.ensures.room,
  c.turn.auto.cells ∙ c.loop-spent.invariant.2,
  c.turn.auto.w ∙ c.loop-spent.invariant.3,
  c.turn.auto.g ∙ c.loop-spent.invariant.4,
  c.loop-spent.invariant.5,
)

pub shape_of-cells : goal.shape_of-cells
shape_of-cells c = c.loop-spent.invariant.2

pub shape_of-w : goal.shape_of-w
shape_of-w c = c.loop-spent.invariant.3

pub shape_of-g : goal.shape_of-g
shape_of-g c = c.loop-spent.invariant.4

pub returns : goal.returns
returns c = stretch_over _ _ _ _ _ _ _ _ _ _ _ _ _ _ _ (omega arith) c.loop-spent.invariant.0
