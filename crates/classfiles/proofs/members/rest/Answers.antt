use Rattle.classfiles.specs.Attributes.{rest_by}
use Rattle.texts.specs.Answers.{reads}
use Rattle.classfiles.proofs.members.rest.Goals as goal

pub returns-in_err-t : goal.returns-in_err-t
unfolding rest_by
returns-in_err-t c = search (reads, c.in_err-t.ensures) depth 12

pub returns-in_err-f : goal.returns-in_err-f
unfolding rest_by
returns-in_err-f c = search (reads, c.in_ok-t.ensures, c.in_err-f.ensures) depth 12

pub returns-then-f-e : goal.returns-then-f-e
unfolding rest_by
returns-then-f-e c = search (reads, c.in_ok-t.ensures, c.in_ok-f.ensures) depth 12

pub returns : goal.returns
unfolding rest_by
returns c = search (reads, c.in_ok-t.ensures, c.in_ok-f.ensures) depth 12
