use Rattle.rules.specs.FormLaws.{kept_moved, leave-cut}
use Rattle.rules.specs.SlotLaws.{outside_none}
use Rattle.std.proofs.Common.{arith}
use Rattle.rules.proofs.forms.leave_form.Goals as goal

pub returns-in-None : goal.returns-in-None
returns-in-None c = (kept_moved _ _ _ c.cut.ensures (omega arith), leave-cut _ _ _ _ _ c.in-None.is c.cut.ensures, outside_none _ _)
