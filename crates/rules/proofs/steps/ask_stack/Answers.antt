use Rattle.rules.specs.GroupLaws.{ways}
use Rattle.rules.proofs.steps.ask_stack.Goals as goal

pub returns-in-Dup : goal.returns-in-Dup
returns-in-Dup c = search ways depth 12

pub returns-in-Dupx1 : goal.returns-in-Dupx1
returns-in-Dupx1 c = search ways depth 12

pub returns-in-Swap : goal.returns-in-Swap
returns-in-Swap c = search ways depth 12

pub returns-in-Arraylength : goal.returns-in-Arraylength
returns-in-Arraylength c = search ways depth 12

pub returns-in-Aaload : goal.returns-in-Aaload
returns-in-Aaload c = search ways depth 12
