use Rattle.rules.specs.KnownLaws.{by_call, by_virtual}
use Rattle.rules.proofs.calls.ask_any.Goals as goal

pub returns-in-Virtual : goal.returns-in-Virtual
returns-in-Virtual c = by_virtual _ _ _ _ _ _ _ _ c.in-Virtual.is c.ask_call.ensures c.class.ensures

pub returns-in-Special : goal.returns-in-Special
returns-in-Special c = by_call _ _ _ _ _ _ _ c.in-Special.is c.ask_special.ensures

pub returns-in-Static : goal.returns-in-Static
returns-in-Static c = by_call _ _ _ _ _ _ _ c.in-Static.is c.ask_call-in-Static.ensures
