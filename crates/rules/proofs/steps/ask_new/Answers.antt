use Rattle.rules.specs.GroupLaws.{ways}
use Rattle.rules.proofs.steps.ask_new.Goals as goal

pub returns : goal.returns
returns c = search ways depth 12
