use Rattle.classfiles.specs.Members.{name_at}
use Rattle.texts.specs.Answers.{reads}
use Rattle.classfiles.proofs.members.name.Goals as goal

pub returns-in_err-i : goal.returns-in_err-i
unfolding name_at
returns-in_err-i c = search (reads, c.in_err-i.ensures) depth 12

pub returns-then-not-name_ok : goal.returns-then-not-name_ok
unfolding name_at
returns-then-not-name_ok c = search (reads, c.in_ok-i.ensures) depth 12

pub returns-then-access-eq9 : goal.returns-then-access-eq9
unfolding name_at
returns-then-access-eq9 c = let h = rw c.text_of.ensures at c.is_init.ensures in search (reads, c.in_ok-i.ensures) depth 12

pub returns-else-access-eq9 : goal.returns-else-access-eq9
unfolding name_at
returns-else-access-eq9 c = let h = rw c.text_of.ensures at c.is_init.ensures in search (reads, c.in_ok-i.ensures) depth 12

pub returns-else-is_init : goal.returns-else-is_init
unfolding name_at
returns-else-is_init c = let h = rw c.text_of.ensures at c.is_init.ensures in search (reads, c.in_ok-i.ensures) depth 12
