use Rattle.texts.specs.Reading.{u2}
use Rattle.texts.specs.Answers.{reads}
use Rattle.texts.proofs.items.u2.Goals as goal

pub returns : goal.returns
unfolding u2
returns c = search reads depth 12
