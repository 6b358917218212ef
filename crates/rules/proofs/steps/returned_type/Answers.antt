use Rattle.rules.specs.GroupLaws.{returned_none, returned_value}
use Rattle.rules.proofs.steps.returned_type.Goals as goal

pub returns-in-None : goal.returns-in-None
returns-in-None c = returned_none _ c.in-None.is _ c.top.ensures

pub returns-in-Some : goal.returns-in-Some
returns-in-Some c = returned_value _ _ c.in-Some.is _ c.described.ensures
