use Rattle.rules.specs.GroupLaws.{ways}
use Rattle.rules.proofs.steps.ask_leave.Goals as goal

pub returns-in-Athrow : goal.returns-in-Athrow
returns-in-Athrow c = search ways depth 12

pub returns-in-Ireturn : goal.returns-in-Ireturn
returns-in-Ireturn c = search ways depth 12

pub returns-in-Areturn : goal.returns-in-Areturn
returns-in-Areturn c = search ways depth 12

pub returns-in-Return : goal.returns-in-Return
returns-in-Return c = search ways depth 12
