use Rattle.texts.specs.Reading.{num2_at}
use Rattle.texts.specs.Answers.{reads}
use Rattle.texts.proofs.items.num2.Goals as goal

pub returns-then-fits_in : goal.returns-then-fits_in
unfolding num2_at
returns-then-fits_in g c = search reads depth 12

pub returns : goal.returns
unfolding num2_at
returns g c = search reads depth 12
