use Rattle.std.proofs.Common.{refl, ◌∙◌}
use Rattle.kit.specs.Claims.{then_on, then_off}
use Rattle.rules.specs.CallLaws.{length_args}
use Rattle.rules.specs.FormLaws.{form-parts}
use Rattle.rules.proofs.calls.ask_call.Goals as goal

pub returns-in_err-ask_arguments : goal.returns-in_err-ask_arguments
returns-in_err-ask_arguments c = then_off _ _ _ c.from_residual.ensures.1 _ _ c.in_err-ask_arguments.ensures ∙ form-parts _ _ _ _ _ _ _ _ refl refl

pub returns : goal.returns
returns c = then_on _ _ _ c.in_ok-ask_arguments.ensures c.room.ensures ∙ form-parts _ _ _ _ _ _ _ _ (length_args _ _ _ _ _ c.given.ensures) c.given-2.ensures
