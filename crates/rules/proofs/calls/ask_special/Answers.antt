use Rattle.std.proofs.Common.{refl, sym, ap, ◌∙◌}
use Rattle.kit.specs.Claims.{then_on, then_off}
use Rattle.rules.specs.Known.{facts_of, init_fits}
use Rattle.rules.specs.KnownLaws.{special-parts}
use Rattle.rules.specs.SlotLaws.{length-stack}
use Rattle.rules.proofs.calls.ask_special.Goals as goal

pub returns-in_err-ask_arguments : goal.returns-in_err-ask_arguments
returns-in_err-ask_arguments c = then_off _ _ _ c.from_residual.ensures.1 _ _ c.in_err-ask_arguments.ensures ∙ special-parts _ _ _ _ _ _ c.args.k.args.count _ _ (sym (length-stack _ _ _)) c.top.ensures refl

pub returns-in_err-must : goal.returns-in_err-must
returns-in_err-must c = then_on _ _ _ c.in_ok-ask_arguments.ensures (then_off _ _ _ c.from_residual-in_err-must.ensures.1 _ _ c.in_err-must.ensures) ∙ special-parts _ _ _ _ _ _ c.args.k.args.count _ _ (sym (length-stack _ _ _)) c.top.ensures (c.init_fits.ensures ∙ ap (init_fits _ (facts_of c.args.t.now c.args.k) _) c.peek-w.ensures)

pub returns : goal.returns
returns c = then_on _ _ _ c.in_ok-ask_arguments.ensures (then_on _ _ _ c.in_ok-must.ensures c.room.ensures) ∙ special-parts _ _ _ _ _ _ c.args.k.args.count _ _ (sym (length-stack _ _ _)) c.top.ensures (c.init_fits.ensures ∙ ap (init_fits _ (facts_of c.args.t.now c.args.k) _) c.peek-w.ensures)
