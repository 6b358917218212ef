use Rattle.rules.specs.SlotLaws.{moved_to, put_held, put_outside}
use Rattle.std.proofs.Common.{arith}
use Rattle.rules.proofs.slots.put.Goals as goal

pub returns : goal.returns
returns c = (moved_to _ _ _ _ (omega arith) c.at_depth.ensures, put_held _ _ _ _ (omega arith) c.requires.0 _ _ _ (omega arith) (omega arith) c.put_word.ensures c.at_depth.ensures, put_outside _ _ _ _ (omega arith) c.requires.0 _ (omega arith) c.put_word.ensures)
