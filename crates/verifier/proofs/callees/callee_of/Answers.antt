use Rattle.verifier.specs.Preparing.{callee_form}
use Rattle.verifier.proofs.callees.callee_of.Goals as goal

pub returns-in-Simple : goal.returns-in-Simple
returns-in-Simple c = callee_form _ _ _ c.in-Simple.is c.no_callee.ensures

pub returns-in-Jump : goal.returns-in-Jump
returns-in-Jump c = callee_form _ _ _ c.in-Jump.is c.no_callee-in-Jump.ensures

pub returns-in-OnLocal : goal.returns-in-OnLocal
returns-in-OnLocal c = callee_form _ _ _ c.in-OnLocal.is c.no_callee-in-OnLocal.ensures

pub returns-in-OnStack : goal.returns-in-OnStack
returns-in-OnStack c = callee_form _ _ _ c.in-OnStack.is c.no_callee-in-OnStack.ensures

pub returns-in-Leaving : goal.returns-in-Leaving
returns-in-Leaving c = callee_form _ _ _ c.in-Leaving.is c.no_callee-in-Leaving.ensures

pub returns-in-New : goal.returns-in-New
returns-in-New c = callee_form _ _ _ c.in-New.is c.no_callee-in-New.ensures

pub returns-in-Calling : goal.returns-in-Calling
returns-in-Calling c = callee_form _ _ _ c.in-Calling.is c.callee.ensures

pub returns-in-Illegal : goal.returns-in-Illegal
returns-in-Illegal c = callee_form _ _ _ c.in-Illegal.is c.no_callee-in-Illegal.ensures

pub returns-in-Unresolved : goal.returns-in-Unresolved
returns-in-Unresolved c = callee_form _ _ _ c.in-Unresolved.is c.no_callee-in-Unresolved.ensures
