use Rattle.std.proofs.Common.{arith, rules}
use Rattle.verifier.specs.Ahead.{stands_behind, stands_row}
use Rattle.verifier.proofs.ahead.frame_at.Goals as goal

pub returns-then-f-row : goal.returns-then-f-row
returns-then-f-row c = stands_behind _ _ _ _ c.if-f-row.true

pub overflow_mul-row : goal.overflow_mul-row
overflow_mul-row c = search (rules, arith)

pub overflow_add-f : goal.overflow_add-f
overflow_add-f c = search (rules, arith)

pub overflow_add-f-2 : goal.overflow_add-f-2
overflow_add-f-2 c = search (rules, arith)

pub word-requires : goal.word-requires
word-requires c = search (rules, arith)

pub overflow_cast-result : goal.overflow_cast-result
overflow_cast-result c = search (rules, arith)

pub returns : goal.returns
returns c = stands_row _ _ _ _ _ c.if-f-row.false c.word.ensures
