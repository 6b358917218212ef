use Rattle.reader.specs.MemberRows.{rows_word}
use Rattle.std.proofs.Common.{arith}
use Rattle.reader.proofs.signature.rows_word.Goals as goal

pub returns-then-method : goal.returns-then-method
unfolding rows_word
returns-then-method c = (rw c.if-method.true, omega arith)

pub returns : goal.returns
unfolding rows_word
returns c = (rw c.if-method.false, omega arith)
