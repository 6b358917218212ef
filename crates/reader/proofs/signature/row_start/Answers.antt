use Rattle.reader.specs.MemberRows.{start_by}
use Rattle.std.proofs.Common.{arith}
use Rattle.reader.proofs.signature.row_start.Goals as goal

pub returns : goal.returns
returns c = (start_by _ _ _ _ _ c.rows_word-w.ensures.0 c.word.ensures, omega arith)
