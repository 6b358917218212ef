use Rattle.rules.specs.StepClaims.{jump_form, no_jump, jump_branch}
use Rattle.std.proofs.Common.{refl}
use Rattle.rules.proofs.dispatch.jump.Goals as goal

pub returns-in-Simple : goal.returns-in-Simple
returns-in-Simple c = jump_form _ _ _ _ _ _ c.in-Simple.is (no_jump _ _ _)

pub returns-in-Jump : goal.returns-in-Jump
returns-in-Jump c = jump_branch _ _ _ _ _ _ _ _ c.in-Jump.is c.into_frame.ensures refl c.target.ensures

pub returns-in-OnLocal : goal.returns-in-OnLocal
returns-in-OnLocal c = jump_form _ _ _ _ _ _ c.in-OnLocal.is (no_jump _ _ _)

pub returns-in-OnStack : goal.returns-in-OnStack
returns-in-OnStack c = jump_form _ _ _ _ _ _ c.in-OnStack.is (no_jump _ _ _)

pub returns-in-Leaving : goal.returns-in-Leaving
returns-in-Leaving c = jump_form _ _ _ _ _ _ c.in-Leaving.is (no_jump _ _ _)

pub returns-in-New : goal.returns-in-New
returns-in-New c = jump_form _ _ _ _ _ _ c.in-New.is (no_jump _ _ _)

pub returns-in-Calling : goal.returns-in-Calling
returns-in-Calling c = jump_form _ _ _ _ _ _ c.in-Calling.is (no_jump _ _ _)

pub returns-in-Illegal : goal.returns-in-Illegal
returns-in-Illegal c = jump_form _ _ _ _ _ _ c.in-Illegal.is (no_jump _ _ _)

pub returns-in-Unresolved : goal.returns-in-Unresolved
returns-in-Unresolved c = jump_form _ _ _ _ _ _ c.in-Unresolved.is (no_jump _ _ _)
