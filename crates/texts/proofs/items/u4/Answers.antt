use Rattle.texts.specs.Reading.{u4}
use Rattle.texts.specs.Answers.{reads}
use Rattle.texts.proofs.items.u4.Goals as goal

pub returns : goal.returns
unfolding u4
returns c = search reads depth 12
