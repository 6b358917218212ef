use Rattle.classfiles.specs.Members.{inners_at}
use Rattle.texts.specs.Answers.{reads}
use Rattle.classfiles.proofs.members.inners.Goals as goal

pub returns-in_err-n : goal.returns-in_err-n
unfolding inners_at
returns-in_err-n c = search (reads, c.in_err-n.ensures) depth 12

pub returns : goal.returns
unfolding inners_at
returns c = search (reads, c.in_ok-n.ensures) depth 12
