use Rattle.std.proofs.Common.{◌∙◌}
use Rattle.kit.specs.Lists.{bytes_eq_list}
use Rattle.texts.proofs.names.same_text.Goals as goal

pub returns : goal.returns
returns c = c.eq.ensures ∙ bytes_eq_list _ _
