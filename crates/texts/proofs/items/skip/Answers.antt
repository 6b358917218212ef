use Rattle.texts.specs.Reading.{skip_at}
use Rattle.texts.specs.Answers.{reads}
use Rattle.texts.proofs.items.skip.Goals as goal
use Rattle.kit.specs.Pick.{orders}

pub returns-then-fits_in : goal.returns-then-fits_in
unfolding skip_at
returns-then-fits_in g c = search (reads, orders) depth 12

pub returns : goal.returns
unfolding skip_at
returns g c = search (reads, orders) depth 12
