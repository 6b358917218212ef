use Rattle.reader.specs.MemberRows.{count-method, count-field}
use Rattle.std.proofs.Common.{arith}
use Rattle.reader.proofs.signature.row_count.Goals as goal

pub returns-then-method : goal.returns-then-method
returns-then-method c = (count-method _ _ _ c.if-method.true c.word.ensures, omega arith)

pub returns : goal.returns
returns c = (count-field _ _ _ c.if-method.false c.word-2.ensures, omega arith)
