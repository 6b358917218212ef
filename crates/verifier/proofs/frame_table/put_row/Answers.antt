use Rattle.verifier.specs.RowWrites.{row_put}
use Rattle.verifier.proofs.frame_table.put_row.Goals as goal

pub returns : goal.returns
returns c = row_put _ _ _ _ _ c.requires.0 c.requires.1 c.requires.2 c.requires.4 _ _ _ _ _ _ c.requires.3 c.requires.5 c.flag_word-g.ensures c.put_slots.ensures c.put_word.ensures c.put_word-2.ensures c.put_word-3.ensures
