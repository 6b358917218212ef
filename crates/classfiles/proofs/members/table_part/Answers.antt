use Rattle.classfiles.specs.Attributes.{short_val, table_by}
use Rattle.std.proofs.Common.{arith}
use Rattle.texts.specs.Answers.{reads}
use Rattle.classfiles.proofs.members.table_part.Goals as goal

pub returns-in_err-n : goal.returns-in_err-n
unfolding table_by
returns-in_err-n c = search (reads, c.in_err-n.ensures) depth 12

pub overflow_mul-n : goal.overflow_mul-n
unfolding table_by
overflow_mul-n c = let h = short_val _ _ 7 _ 32 _ _ _ c.in_ok-n.ensures in omega arith

pub returns-in_err-b : goal.returns-in_err-b
unfolding table_by
returns-in_err-b c = search (reads, c.in_ok-n.ensures, c.in_err-b.ensures) depth 12

pub returns : goal.returns
unfolding table_by
returns c = search (reads, c.in_ok-n.ensures, c.in_ok-b.ensures) depth 12
