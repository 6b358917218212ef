use Rattle.std.proofs.Common.{◌∙◌}
use Rattle.kit.specs.Claims.{then_on, then_off}
use Rattle.rules.specs.CallLaws.{args-parts}
use Rattle.rules.proofs.calls.ask_arguments.Goals as goal

pub returns-in_err-need : goal.returns-in_err-need
returns-in_err-need c = then_off _ _ _ c.from_residual.ensures.1 _ _ c.in_err-need.ensures ∙ args-parts _ _ _ _ _ _ _ _ c.given.ensures

pub returns-in_err-fit_arguments : goal.returns-in_err-fit_arguments
returns-in_err-fit_arguments c = then_on _ _ _ c.in_ok-need.ensures (then_off _ _ _ c.from_residual-in_err-fit_arguments.ensures.1 _ _ c.in_err-fit_arguments.ensures) ∙ args-parts _ _ _ _ _ _ _ _ c.given.ensures

pub returns : goal.returns
returns c = then_on _ _ _ c.in_ok-need.ensures (then_on _ _ _ c.in_ok-fit_arguments.ensures c.fit_receiver.ensures) ∙ args-parts _ _ _ _ _ _ _ _ c.given.ensures
