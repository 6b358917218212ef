use Rattle.rules.specs.KnownLaws.{after_form, emptied-held}
use Rattle.rules.specs.FormLaws.{kept_moved}
use Rattle.rules.specs.SlotLaws.{outside_none}
use Rattle.std.proofs.Common.{arith}
use Rattle.rules.proofs.dispatch.leave.Goals as goal

pub returns-in-Leaving : goal.returns-in-Leaving
returns-in-Leaving c = (kept_moved _ _ _ c.cut.ensures (omega arith), after_form _ _ _ _ _ _ c.in-Leaving.is (emptied-held _ _ _ c.cut.ensures), outside_none _ _)
