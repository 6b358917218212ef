use Rattle.std.proofs.Common.{sym}
use lib.ListN.{get_or-eq_default}
use Rattle.plain.proofs.heap.cell.Goals as goal

pub returns : goal.returns
returns c = sym (get_or-eq_default c.args.cells.now 0 c.if-i-cells.false)
