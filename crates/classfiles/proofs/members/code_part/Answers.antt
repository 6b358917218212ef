use Rattle.classfiles.specs.Attributes.{code_by}
use Rattle.texts.specs.Answers.{reads}
use Rattle.classfiles.proofs.members.code_part.Goals as goal

pub returns-in_err-n : goal.returns-in_err-n
unfolding code_by
returns-in_err-n c = search (reads, c.in_err-n.ensures) depth 12

pub returns-then-n-eq0 : goal.returns-then-n-eq0
unfolding code_by
returns-then-n-eq0 c = search (reads, c.in_ok-n.ensures) depth 12

pub returns-then-n-gt4096 : goal.returns-then-n-gt4096
unfolding code_by
returns-then-n-gt4096 c = search (reads, c.in_ok-n.ensures) depth 12

pub returns-in_err-b : goal.returns-in_err-b
unfolding code_by
returns-in_err-b c = search (reads, c.in_ok-n.ensures, c.in_err-b.ensures) depth 12

pub returns : goal.returns
unfolding code_by
returns c = search (reads, c.in_ok-n.ensures, c.in_ok-b.ensures) depth 12
