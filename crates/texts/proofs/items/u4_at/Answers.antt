use native.Mathlib.Omega.{arith}
use Rattle.texts.specs.Ends.{high}
use Rattle.texts.specs.Reading.{u4_at}
use mathlib.Core.Path.{sym, ◌∙◌}
use Rattle.texts.proofs.items.u4_at.Goals as goal

pub overflow_add-q : goal.overflow_add-q
overflow_add-q c = omega (arith, c.fits_in.ensures.1 c.if-fits_in.true)

pub returns-then-fits_in : goal.returns-then-fits_in
unfolding u4_at
returns-then-fits_in c = (omega arith, omega arith)

pub returns : goal.returns
unfolding u4_at
returns c = (high _ _ _ c.u2_at-high.ensures.0 (sym c.fits_in.ensures.0 ∙ c.if-fits_in.false), omega arith)
