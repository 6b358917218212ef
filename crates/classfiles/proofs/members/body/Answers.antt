use Rattle.classfiles.specs.Attributes.{body_by, body_via}
use Rattle.texts.specs.Answers.{reads}
use Rattle.classfiles.proofs.members.body.Goals as goal

pub returns-in_err-stack : goal.returns-in_err-stack
unfolding body_by
returns-in_err-stack c = search (reads, body_via, c.in_err-stack.ensures) depth 12

pub returns-in_err-locals : goal.returns-in_err-locals
unfolding body_by
returns-in_err-locals c = search (reads, body_via, c.in_ok-stack.ensures, c.in_err-locals.ensures) depth 12

pub returns-in_err-n : goal.returns-in_err-n
unfolding body_by
returns-in_err-n c = search (reads, body_via, c.in_ok-stack.ensures, c.in_ok-locals.ensures, c.in_err-n.ensures) depth 12

pub returns : goal.returns
unfolding body_by
returns c = search (reads, body_via, c.in_ok-stack.ensures, c.in_ok-locals.ensures, c.in_ok-n.ensures) depth 12
