use Rattle.rules.specs.GroupLaws.{form_to}
use Rattle.std.proofs.Common.{refl}
use Rattle.rules.proofs.steps.ask_branch.Goals as goal

pub returns : goal.returns
returns c = form_to _ _ _ _ _ _ _ _ c.ask_form.ensures c.branch_takes.ensures refl
