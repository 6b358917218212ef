use Rattle.classfiles.specs.Attributes.{content_by}
use Rattle.classfiles.specs.Members.{inner_at}
use Rattle.texts.specs.Answers.{reads}
use Rattle.classfiles.proofs.members.inner.Goals as goal

pub returns-in_err-i : goal.returns-in_err-i
unfolding inner_at content_by
returns-in_err-i c = search (reads, c.in_err-i.ensures) depth 12

pub returns-then-is_utf8 : goal.returns-then-is_utf8
unfolding inner_at content_by
returns-then-is_utf8 c = search (reads, c.in_ok-i.ensures) depth 12

pub returns : goal.returns
unfolding inner_at content_by
returns c = search (reads, c.in_ok-i.ensures) depth 12
