use Rattle.texts.specs.Ends.{cut-before, cut_by}
use Rattle.texts.proofs.items.fits_in.Goals as goal

pub returns-then-e-q : goal.returns-then-e-q
returns-then-e-q c = cut-before _ _ _ c.if-e-q.true

pub returns : goal.returns
returns c = cut_by _ _ _ c.if-e-q.false
