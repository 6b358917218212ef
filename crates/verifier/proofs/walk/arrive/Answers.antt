use Rattle.kit.specs.Claims.{pass}
use Rattle.rules.specs.Loads.{meet_none, merge_none}
use Rattle.rules.specs.StepClaims.{going_same}
use Rattle.rules.specs.Slots.{held}
use Rattle.rules.specs.SlotLaws.{outside_none, claim_yes}
use Rattle.verifier.proofs.walk.arrive.Goals as goal

pub returns-then-clear : goal.returns-then-clear
returns-then-clear c = record { says = meet_none _ c.args.live (held c.args.t.now c.args.h) _ pass (c.requires.5 c.if-clear.true) (claim_yes 17 _ c.if-live.true); leaves = merge_none c.args.live (held c.args.t.now c.args.h) _ (c.requires.5 c.if-clear.true) (claim_yes 17 _ c.if-live.true); keeps = (going_same _ c.requires.1, outside_none _ _) }

pub shape_of-t : goal.shape_of-t
shape_of-t c = c.enter.auto.t

pub returns : goal.returns
returns c = record { says = c.enter.ensures.says; leaves = c.enter.ensures.leaves; keeps = c.enter.ensures.keeps }
