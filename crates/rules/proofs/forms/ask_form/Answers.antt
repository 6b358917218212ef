use Rattle.std.proofs.Common.{refl, ◌∙◌}
use Rattle.kit.specs.Claims.{then_on, then_off}
use Rattle.rules.specs.FormLaws.{form-parts}
use Rattle.rules.proofs.forms.ask_form.Goals as goal

pub returns-in_err-ask_takes : goal.returns-in_err-ask_takes
returns-in_err-ask_takes c = then_off _ _ _ c.from_residual.ensures.1 _ _ c.in_err-ask_takes.ensures ∙ form-parts _ _ _ _ _ _ _ _ refl refl

pub returns : goal.returns
returns c = then_on _ _ _ c.in_ok-ask_takes.ensures c.room.ensures ∙ form-parts _ _ _ _ _ _ _ _ c.count.ensures c.given.ensures
