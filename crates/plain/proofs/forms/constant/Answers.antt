use Rattle.plain.specs.WindowForms.{steps}
use Rattle.plain.proofs.forms.constant.Goals as goal

pub returns : goal.returns
returns c = search steps depth 8
