use Rattle.classfiles.specs.Pool.{utf8_at}
use Rattle.std.proofs.Common.{arith}
use Rattle.texts.specs.Answers.{reads}
use Rattle.texts.specs.Ends.{skip_val}
use Rattle.classfiles.proofs.pool.utf8.Goals as goal

pub returns-in_err-n : goal.returns-in_err-n
unfolding utf8_at
returns-in_err-n c = search (reads, c.in_err-n.ensures) depth 14

pub returns-in_err-b : goal.returns-in_err-b
unfolding utf8_at
returns-in_err-b c = search (reads, c.in_ok-n.ensures, c.in_err-b.ensures) depth 14

pub returns-then-n-gt255 : goal.returns-then-n-gt255
unfolding utf8_at
returns-then-n-gt255 c = search (reads, c.in_ok-n.ensures, c.in_ok-b.ensures) depth 14

pub text_ok-requires : goal.text_ok-requires
unfolding utf8_at
text_ok-requires c = omega (arith, skip_val _ _ _ _ _ _ _ c.in_ok-b.ensures)

pub returns-then-text_ok : goal.returns-then-text_ok
unfolding utf8_at
returns-then-text_ok c = search (reads, c.in_ok-n.ensures, c.in_ok-b.ensures) depth 14

pub returns : goal.returns
unfolding utf8_at
returns c = search (reads, c.in_ok-n.ensures, c.in_ok-b.ensures) depth 14
