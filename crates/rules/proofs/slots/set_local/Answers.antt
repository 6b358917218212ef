use Rattle.rules.specs.SlotLaws.{set_past, outside_none, set-held, set_outside}
use Rattle.std.proofs.Common.{arith, rules}
use Rattle.rules.proofs.slots.set_local.Goals as goal

pub returns-then-h-j : goal.returns-then-h-j
returns-then-h-j c = (set_past _ _ _ _ (search rules), outside_none _ _)

pub returns : goal.returns
returns c = (set-held _ _ _ _ (omega arith) c.requires _ (omega arith) c.put_word.ensures, set_outside _ _ _ _ (omega arith) c.requires _ (omega arith) c.put_word.ensures)
