use Rattle.classfiles.specs.Members.{attributes_at}
use Rattle.texts.specs.Answers.{reads}
use Rattle.classfiles.proofs.members.attributes.Goals as goal

pub returns-in_err-n : goal.returns-in_err-n
unfolding attributes_at
returns-in_err-n c = search (reads, c.in_err-n.ensures) depth 12

pub returns : goal.returns
unfolding attributes_at
returns c = search (reads, c.in_ok-n.ensures) depth 12
