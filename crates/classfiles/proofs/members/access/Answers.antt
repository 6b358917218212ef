use Rattle.classfiles.specs.Signatures.{access_by}
use Rattle.texts.specs.Answers.{reads}
use Rattle.classfiles.proofs.members.access.Goals as goal

pub returns-in_err-v : goal.returns-in_err-v
unfolding access_by
returns-in_err-v c = search (reads, c.in_err-v.ensures) depth 12

pub returns-then-v-eq1 : goal.returns-then-v-eq1
unfolding access_by
returns-then-v-eq1 c = search (reads, c.in_ok-v.ensures) depth 12

pub returns-then-v-eq9 : goal.returns-then-v-eq9
unfolding access_by
returns-then-v-eq9 c = search (reads, c.in_ok-v.ensures) depth 12

pub returns-else-v-eq9 : goal.returns-else-v-eq9
unfolding access_by
returns-else-v-eq9 c = search (reads, c.in_ok-v.ensures) depth 12

pub returns-else-method : goal.returns-else-method
unfolding access_by
returns-else-method c = search (reads, c.in_ok-v.ensures) depth 12
