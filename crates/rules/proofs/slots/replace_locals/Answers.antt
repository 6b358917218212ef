use Rattle.rules.specs.SlotLaws.{held-locals, outside_locals}
use Rattle.rules.proofs.slots.replace_locals.Goals as goal

pub returns : goal.returns
returns c = (held-locals _ _ _ _ _ c.requires c.swap_range.ensures, outside_locals _ _ _ _ _ c.requires c.swap_range.ensures)
