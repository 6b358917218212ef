use Rattle.std.proofs.Common.{◌∙◌}
use Rattle.rules.proofs.decode.named_at.Goals as goal

pub returns : goal.returns
returns c = c.named_word.ensures ∙ rw (c.byte.ensures.0, c.byte-2.ensures.0)
