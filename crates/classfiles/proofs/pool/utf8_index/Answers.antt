use Rattle.classfiles.specs.Pool.{utf8_index_at}
use Rattle.texts.specs.Answers.{reads}
use Rattle.classfiles.proofs.pool.utf8_index.Goals as goal

pub returns-in_err-i : goal.returns-in_err-i
unfolding utf8_index_at
returns-in_err-i c = search (reads, c.in_err-i.ensures) depth 12

pub returns-then-is_utf8 : goal.returns-then-is_utf8
unfolding utf8_index_at
returns-then-is_utf8 c = search (reads, c.in_ok-i.ensures) depth 12

pub returns : goal.returns
unfolding utf8_index_at
returns c = search (reads, c.in_ok-i.ensures) depth 12
