use Rattle.running.specs.Throwing.{slot_none, slot_some}
use Rattle.running.specs.Throws.{stack_is}
use Rattle.running.proofs.throwing.has_slot.Goals as goal

pub returns-in_default : goal.returns-in_default
returns-in_default c = rw c.in_default.is (slot_none _)

pub site_of-x-requires : goal.site_of-x-requires
site_of-x-requires c = (c.requires.0, c.requires.1.of _ c.in-Some.is)

pub returns : goal.returns
returns c = rw c.in-Some.is (slot_some _ _ _ (stack_is _ _ _ c.requires.0 c.in-Some.r.call (c.requires.1.of _ c.in-Some.is) _ c.site_of-x.ensures))
