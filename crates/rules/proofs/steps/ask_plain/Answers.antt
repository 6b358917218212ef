use Rattle.rules.specs.GroupLaws.{form_to}
use Rattle.rules.proofs.steps.ask_plain.Goals as goal

pub returns : goal.returns
returns c = form_to _ _ _ _ _ _ _ _ c.ask_form.ensures c.plain_takes.ensures c.plain_gives.ensures
