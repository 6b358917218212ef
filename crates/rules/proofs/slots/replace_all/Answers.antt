use Rattle.rules.specs.SlotLaws.{held_all, outside_all}
use Rattle.rules.proofs.slots.replace_all.Goals as goal

pub returns : goal.returns
returns c = (held_all _ _ _ _ _ _ c.requires c.swap_range.ensures c.swap_range-2.ensures, outside_all _ _ _ _ _ _ c.requires c.swap_range.ensures c.swap_range-2.ensures)
