use Rattle.classfiles.specs.Blocks.{start_at}
use Rattle.texts.specs.Answers.{reads}
use Rattle.classfiles.proofs.bundle.start.Goals as goal

pub returns-in_err-m : goal.returns-in_err-m
unfolding start_at
returns-in_err-m c = search (reads, c.in_err-m.ensures) depth 12

pub returns : goal.returns
unfolding start_at
returns c = search (reads, c.in_ok-m.ensures) depth 12
