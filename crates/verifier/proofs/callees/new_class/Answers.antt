use Rattle.verifier.specs.Preparing.{made_form}
use Rattle.std.proofs.Common.{refl}
use Rattle.verifier.proofs.callees.new_class.Goals as goal

pub returns-in-Simple : goal.returns-in-Simple
returns-in-Simple c = made_form _ _ _ c.in-Simple.is refl

pub returns-in-Jump : goal.returns-in-Jump
returns-in-Jump c = made_form _ _ _ c.in-Jump.is refl

pub returns-in-OnLocal : goal.returns-in-OnLocal
returns-in-OnLocal c = made_form _ _ _ c.in-OnLocal.is refl

pub returns-in-OnStack : goal.returns-in-OnStack
returns-in-OnStack c = made_form _ _ _ c.in-OnStack.is refl

pub returns-in-Leaving : goal.returns-in-Leaving
returns-in-Leaving c = made_form _ _ _ c.in-Leaving.is refl

pub returns-in-New : goal.returns-in-New
returns-in-New c = made_form _ _ _ c.in-New.is refl

pub returns-in-Calling : goal.returns-in-Calling
returns-in-Calling c = made_form _ _ _ c.in-Calling.is refl

pub returns-in-Illegal : goal.returns-in-Illegal
returns-in-Illegal c = made_form _ _ _ c.in-Illegal.is refl

pub returns-in-Unresolved : goal.returns-in-Unresolved
returns-in-Unresolved c = made_form _ _ _ c.in-Unresolved.is refl
