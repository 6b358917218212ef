use Rattle.std.proofs.Common.{arith}
use Rattle.plain.specs.HeapForms.{checks}
use Rattle.plain.proofs.memory.reach.Goals as goal

pub returns-then-not-refers_to : goal.returns-then-not-refers_to
returns-then-not-refers_to c = (search checks, tt)

pub returns-then-to_cell-eq0 : goal.returns-then-to_cell-eq0
returns-then-to_cell-eq0 c = (search checks, tt)

pub returns : goal.returns
returns c = (search checks, omega (arith, c.if-to_cell-eq0.false, c.to_cell.ensures))
