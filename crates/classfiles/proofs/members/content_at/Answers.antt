use Rattle.classfiles.specs.Attributes.{content_by}
use Rattle.std.proofs.Common.{arith}
use Rattle.texts.specs.Answers.{reads}
use Rattle.texts.specs.Ends.{skip_val}
use Rattle.classfiles.proofs.members.content_at.Goals as goal

pub returns-in_err-n : goal.returns-in_err-n
unfolding content_by
returns-in_err-n c = search (reads, c.in_err-n.ensures) depth 12

pub returns-in_err-c : goal.returns-in_err-c
unfolding content_by
returns-in_err-c c = search (reads, c.in_ok-n.ensures, c.in_err-c.ensures) depth 12

pub frames-requires : goal.frames-requires
unfolding content_by
frames-requires c = let h = skip_val _ 7 _ _ _ _ _ c.in_ok-c.ensures in (omega arith, omega arith)

pub returns : goal.returns
unfolding content_by
returns c = search (reads, c.in_ok-n.ensures, c.in_ok-c.ensures) depth 12
