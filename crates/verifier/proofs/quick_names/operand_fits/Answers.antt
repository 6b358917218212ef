use Rattle.verifier.specs.QuickNames.{fits_via}
use Rattle.verifier.proofs.quick_names.operand_fits.Goals as goal

pub returns : goal.returns
returns c = fits_via _ _ _ _ _ c.same_or_assignable.ensures c.peek.ensures
