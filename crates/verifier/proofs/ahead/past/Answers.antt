use Rattle.std.proofs.Common.{refl, arith, rules}
use Rattle.verifier.proofs.ahead.past.Goals as goal

pub returns-then-clear : goal.returns-then-clear
returns-then-clear c = rw c.if-clear.true (omega arith)

pub overflow_add-result : goal.overflow_add-result
overflow_add-result c = search (rules, arith)

pub returns : goal.returns
returns c = rw c.if-clear.false refl
