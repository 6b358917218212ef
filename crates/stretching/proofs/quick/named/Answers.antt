use Rattle.std.proofs.Common.{◌∙◌}
use Rattle.stretching.proofs.quick.named.Goals as goal

pub returns : goal.returns
returns c = c.named_word.ensures ∙ rw (c.first.ensures, c.second.ensures)
