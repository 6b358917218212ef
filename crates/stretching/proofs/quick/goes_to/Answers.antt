use Rattle.std.proofs.Common.{◌∙◌}
use Rattle.stretching.proofs.quick.goes_to.Goals as goal

pub returns : goal.returns
returns c = c.target.ensures ∙ rw c.bytes.ensures
