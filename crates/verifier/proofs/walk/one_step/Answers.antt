use Rattle.std.proofs.Common.{sym, inl, ◌∙◌, rules}
use Rattle.kit.specs.Claims.{pass, handed}
use Rattle.texts.specs.Faults.{number}
use Rattle.rules.specs.Known.{facts_of}
use Rattle.rules.specs.StepClaims.{step_ask, step_hand, step_jump, hand_via, jump_outside, laid_outside, going_on}
use Rattle.rules.specs.SlotLaws.{length-stack, outside_none}
use Rattle.verifier.specs.Lineup.{IfOk-never}
use Rattle.verifier.proofs.walk.one_step.Goals as goal

pub returns-in_err-ask : goal.returns-in_err-ask
returns-in_err-ask c = record { says = handed number _ _ c.from_residual.ensures.1 ∙ step_ask _ _ _ _ _ _ _ _ _ _ c.in_err-ask.ensures; leaves = IfOk-never _ _ _ c.from_residual.ensures.1; keeps = (IfOk-never _ _ _ c.from_residual.ensures.1, outside_none _ _) }

pub returns-in_err-handlers_left : goal.returns-in_err-handlers_left
returns-in_err-handlers_left c = record { says = handed number _ _ c.from_residual-in_err-handlers_left.ensures.1 ∙ step_hand _ _ _ _ _ _ _ _ _ c.in_ok-ask.ensures _ (hand_via _ _ _ _ _ _ _ _ _ (facts_of c.args.t.now c.args.k) _ _ c.args.k.args.count c.in_err-handlers_left.ensures (c.hidden-unseen.ensures _) (sym (length-stack _ _ _))); leaves = IfOk-never _ _ _ c.from_residual-in_err-handlers_left.ensures.1; keeps = (IfOk-never _ _ _ c.from_residual-in_err-handlers_left.ensures.1, outside_none _ _) }

pub jump-requires : goal.jump-requires
jump-requires c = (laid_outside _ _ _ _ (λ j l. c.leave-g.ensures.2.kept j (inl l)) c.requires.5 c.leave-g.auto.t c.requires.3, search rules)

pub returns-in_err-jump : goal.returns-in_err-jump
returns-in_err-jump c = record { says = handed number _ _ c.from_residual-in_err-jump.ensures.1 ∙ step_jump _ _ _ _ _ _ _ _ _ c.in_ok-ask.ensures _ (hand_via _ _ _ _ _ _ _ _ _ (facts_of c.args.t.now c.args.k) _ _ c.args.k.args.count c.in_ok-handlers_left.ensures (c.hidden-unseen.ensures _) (sym (length-stack _ _ _))) (jump_outside _ _ _ (λ j l. c.leave-g.ensures.2.kept j (inl l)) _ _ _ _ _ _ c.requires.4 c.requires.3.locals c.requires.5 c.in_err-jump.ensures _ c.leave-g.ensures.1); leaves = IfOk-never _ _ _ c.from_residual-in_err-jump.ensures.1; keeps = (IfOk-never _ _ _ c.from_residual-in_err-jump.ensures.1, c.leave-g.ensures.2) }

pub returns : goal.returns
returns c = record { says = step_jump _ _ _ _ _ _ _ _ _ c.in_ok-ask.ensures pass (hand_via _ _ _ _ _ _ _ _ _ (facts_of c.args.t.now c.args.k) _ _ c.args.k.args.count c.in_ok-handlers_left.ensures (c.hidden-unseen.ensures _) (sym (length-stack _ _ _))) (jump_outside _ _ _ (λ j l. c.leave-g.ensures.2.kept j (inl l)) _ _ _ _ _ _ c.requires.4 c.requires.3.locals c.requires.5 c.in_ok-jump.ensures _ c.leave-g.ensures.1); leaves = c.leave-g.ensures.1; keeps = (going_on _ _ _ _ _ _ c.in_ok-ask.ensures c.requires.7 _ _ _ c.leave-g.ensures.0 c.leave-g.ensures.1, c.leave-g.ensures.2) }
