use Rattle.rules.specs.GroupLaws.{ways}
use Rattle.rules.proofs.steps.ask_local.Goals as goal

pub returns-in-Iload : goal.returns-in-Iload
returns-in-Iload c = search ways depth 12

pub returns-in-Aload : goal.returns-in-Aload
returns-in-Aload c = search ways depth 12

pub returns-in-Istore : goal.returns-in-Istore
returns-in-Istore c = search ways depth 12

pub returns-in-Astore : goal.returns-in-Astore
returns-in-Astore c = search ways depth 12

pub returns-in-Iinc : goal.returns-in-Iinc
returns-in-Iinc c = search ways depth 12
