use Rattle.std.proofs.Common.{sym, ◌∙◌, arith}
use Rattle.machine.specs.Turns.{closing_end, closing_stop}
use Rattle.machine.proofs.turns.closed.Goals as goal

pub overflow_add-result : goal.overflow_add-result
overflow_add-result c = omega (arith, c.requires (sym c.is_counted.ensures ∙ c.if-is_counted.true))

pub returns-then-is_counted : goal.returns-then-is_counted
returns-then-is_counted c = closing_end _ _ _ c.is_counted.ensures c.if-is_counted.true

pub returns : goal.returns
returns c = closing_stop _ _ _ c.is_counted.ensures c.if-is_counted.false
