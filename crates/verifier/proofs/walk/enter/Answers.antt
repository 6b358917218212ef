use Rattle.std.proofs.Common.{sym, ◌∙◌}
use Rattle.kit.specs.Claims.{pass, handed}
use Rattle.texts.specs.Faults.{number}
use Rattle.rules.specs.Loads.{meet_none, meet_fit, meet_new, merge_none, merge_frame, going_loaded}
use Rattle.rules.specs.StepClaims.{going_same}
use Rattle.rules.specs.Slots.{held}
use Rattle.rules.specs.SlotLaws.{outside_none}
use Rattle.verifier.specs.Lineup.{IfOk-never}
use Rattle.verifier.proofs.walk.enter.Goals as goal

pub returns-in_err-must : goal.returns-in_err-must
returns-in_err-must c = record { says = meet_none _ c.args.live (held c.args.t.now c.args.h) _ _ (sym c.in_default.ensures.is) (handed number _ _ c.from_residual.ensures.1 ∙ c.in_err-must.ensures); leaves = IfOk-never _ _ _ c.from_residual.ensures.1; keeps = (IfOk-never _ _ _ c.from_residual.ensures.1, outside_none _ _) }

pub returns-in_default : goal.returns-in_default
returns-in_default c = record { says = meet_none _ c.args.live (held c.args.t.now c.args.h) _ pass (sym c.in_default.ensures.is) c.in_ok-must.ensures; leaves = merge_none c.args.live (held c.args.t.now c.args.h) _ (sym c.in_default.ensures.is) c.in_ok-must.ensures; keeps = (going_same _ c.requires.1, outside_none _ _) }

pub returns-in_err-fit_states : goal.returns-in_err-fit_states
returns-in_err-fit_states c = record { says = meet_fit _ _ _ _ _ (sym c.in-Some.ensures.is) c.if-live.true _ (handed number _ _ c.from_residual-in_err-fit_states.ensures.1 ∙ c.in_err-fit_states.ensures); leaves = IfOk-never _ _ _ c.from_residual-in_err-fit_states.ensures.1; keeps = (IfOk-never _ _ _ c.from_residual-in_err-fit_states.ensures.1, outside_none _ _) }

pub returns-then-live : goal.returns-then-live
returns-then-live c = record { says = meet_fit _ _ _ _ _ (sym c.in-Some.ensures.is) c.if-live.true pass c.in_ok-fit_states.ensures; leaves = merge_frame c.args.live (held c.args.t.now c.args.h) _ _ _ (sym c.in-Some.ensures.is) c.load.ensures.0; keeps = (going_loaded _ _ _ c.load.ensures.1 (c.in-Some.ensures.lies.1.locals ∙ c.requires.3) c.in-Some.ensures.lies.0.depth, c.load.ensures.2) }

pub returns : goal.returns
returns c = record { says = meet_new _ _ _ _ _ (sym c.in-Some.ensures.is) c.if-live.false; leaves = merge_frame c.args.live (held c.args.t.now c.args.h) _ _ _ (sym c.in-Some.ensures.is) c.load-2.ensures.0; keeps = (going_loaded _ _ _ c.load-2.ensures.1 (c.in-Some.ensures.lies.1.locals ∙ c.requires.3) c.in-Some.ensures.lies.0.depth, c.load-2.ensures.2) }
