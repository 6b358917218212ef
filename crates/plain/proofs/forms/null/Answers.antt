use Rattle.plain.specs.WindowForms.{steps}
use Rattle.plain.proofs.forms.null.Goals as goal

pub returns : goal.returns
returns c = search steps depth 8
