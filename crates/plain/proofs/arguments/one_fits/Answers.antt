use Rattle.std.proofs.Common.{◌∙◌}
use Rattle.plain.specs.Arguments.{arg_fits}
use Rattle.plain.proofs.arguments.one_fits.Goals as goal

pub returns : goal.returns
unfolding arg_fits
returns c = c.value_fits.ensures ∙ rw (c.described.ensures, c.word.ensures)
