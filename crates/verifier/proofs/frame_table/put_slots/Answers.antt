use Rattle.verifier.specs.RowWrites.{slots_put}
use Rattle.verifier.proofs.frame_table.put_slots.Goals as goal

pub returns : goal.returns
returns c = slots_put _ _ _ _ _ c.requires.0 c.requires.1 c.requires.2 c.requires.3 _ _ _ c.bring.ensures c.pad.ensures c.bring-2.ensures
