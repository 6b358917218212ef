use Rattle.classfiles.specs.Bundle.{class_access_at}
use Rattle.texts.specs.Answers.{reads}
use Rattle.classfiles.proofs.bundle.class_access.Goals as goal

pub returns-in_err-v : goal.returns-in_err-v
unfolding class_access_at
returns-in_err-v c = search (reads, c.in_err-v.ensures) depth 12

pub returns-then-v-eq32 : goal.returns-then-v-eq32
unfolding class_access_at
returns-then-v-eq32 c = search (reads, c.in_ok-v.ensures) depth 12

pub returns-then-v-eq33 : goal.returns-then-v-eq33
unfolding class_access_at
returns-then-v-eq33 c = search (reads, c.in_ok-v.ensures) depth 12

pub returns : goal.returns
unfolding class_access_at
returns c = search (reads, c.in_ok-v.ensures) depth 12
