use Rattle.classfiles.specs.Bundle.{magic_at}
use Rattle.texts.specs.Answers.{reads}
use Rattle.classfiles.proofs.bundle.magic.Goals as goal

pub returns-in_err-v : goal.returns-in_err-v
unfolding magic_at
returns-in_err-v c = search (reads, c.in_err-v.ensures) depth 12

pub returns-then-v-eq3405691582 : goal.returns-then-v-eq3405691582
unfolding magic_at
returns-then-v-eq3405691582 c = search (reads, c.in_ok-v.ensures) depth 12

pub returns : goal.returns
unfolding magic_at
returns c = search (reads, c.in_ok-v.ensures) depth 12
