use Rattle.classfiles.specs.Bundle.{interfaces_at}
use Rattle.texts.specs.Answers.{reads}
use Rattle.classfiles.proofs.bundle.interfaces.Goals as goal

pub returns-in_err-n : goal.returns-in_err-n
unfolding interfaces_at
returns-in_err-n c = search (reads, c.in_err-n.ensures) depth 12

pub returns-then-n-eq0 : goal.returns-then-n-eq0
unfolding interfaces_at
returns-then-n-eq0 c = search (reads, c.in_ok-n.ensures) depth 12

pub returns : goal.returns
unfolding interfaces_at
returns c = search (reads, c.in_ok-n.ensures) depth 12
