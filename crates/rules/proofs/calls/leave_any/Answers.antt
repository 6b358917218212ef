use Rattle.rules.specs.SlotLaws.{length-stack}
use Rattle.std.proofs.Common.{sym}
use Rattle.rules.specs.KnownLaws.{after_call, after_virtual, after-static}
use Rattle.rules.proofs.calls.leave_any.Goals as goal

pub returns-in-Virtual : goal.returns-in-Virtual
returns-in-Virtual c = (c.leave_form.ensures.0, after_virtual _ _ _ _ _ _ (sym (length-stack _ _ _)) c.in-Virtual.is c.leave_form.ensures.1, c.leave_form.ensures.2)

pub returns-in-Special : goal.returns-in-Special
returns-in-Special c = (c.leave_special.ensures.0, after_call _ _ _ _ _ c.in-Special.is c.leave_special.ensures.1, c.leave_special.ensures.2)

pub returns-in-Static : goal.returns-in-Static
returns-in-Static c = (c.leave_form-in-Static.ensures.0, after-static _ _ _ _ _ _ (sym (length-stack _ _ _)) c.in-Static.is c.leave_form-in-Static.ensures.1, c.leave_form-in-Static.ensures.2)
