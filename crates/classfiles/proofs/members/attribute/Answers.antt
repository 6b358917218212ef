use Rattle.classfiles.specs.Members.{attribute_at}
use Rattle.std.proofs.Common.{arith}
use Rattle.texts.specs.Answers.{reads}
use Rattle.texts.specs.Ends.{skip_val}
use Rattle.classfiles.proofs.members.attribute.Goals as goal

pub returns-in_err-i : goal.returns-in_err-i
unfolding attribute_at
returns-in_err-i c = search (reads, c.in_err-i.ensures) depth 14

pub returns-in_err-n : goal.returns-in_err-n
unfolding attribute_at
returns-in_err-n c = search (reads, c.in_ok-i.ensures, c.in_err-n.ensures) depth 14

pub returns-in_err-c : goal.returns-in_err-c
unfolding attribute_at
returns-in_err-c c = search (reads, c.in_ok-i.ensures, c.in_ok-n.ensures, c.in_err-c.ensures) depth 14

pub body-requires : goal.body-requires
unfolding attribute_at
body-requires c = let h = skip_val _ 2 _ _ _ _ _ c.in_ok-c.ensures in (omega arith, omega arith)

pub returns-then-titled : goal.returns-then-titled
unfolding attribute_at
returns-then-titled c = search (reads, c.in_ok-i.ensures, c.in_ok-n.ensures, c.in_ok-c.ensures) depth 14

pub returns-else-titled : goal.returns-else-titled
unfolding attribute_at
returns-else-titled c = search (reads, c.in_ok-i.ensures, c.in_ok-n.ensures, c.in_ok-c.ensures) depth 14

pub returns-else-method : goal.returns-else-method
unfolding attribute_at
returns-else-method c = search (reads, c.in_ok-i.ensures, c.in_ok-n.ensures, c.in_ok-c.ensures) depth 14
