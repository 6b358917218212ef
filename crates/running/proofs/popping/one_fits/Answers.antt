use Rattle.std.proofs.Common.{◌∙◌}
use Rattle.running.specs.Popping.{param_fits}
use Rattle.running.proofs.popping.one_fits.Goals as goal

pub returns : goal.returns
unfolding param_fits
returns c = c.value_fits.ensures ∙ rw (c.described.ensures, c.described-asked.ensures.0, c.param_at-c.ensures.0)
