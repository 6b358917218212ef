use Rattle.std.proofs.Common.{arith, length-set}
use Rattle.plain.specs.HeapLaws.{header_put}
use Rattle.plain.proofs.heap.put_header.Goals as goal

pub bounds-cells-a-2 : goal.bounds-cells-a-2
bounds-cells-a-2 c = simp length-set (omega arith)

pub bounds-cells-a-3 : goal.bounds-cells-a-3
bounds-cells-a-3 c = simp length-set (omega arith)

pub bounds-cells-a-4 : goal.bounds-cells-a-4
bounds-cells-a-4 c = simp length-set (omega arith)

pub returns : goal.returns
returns c = header_put _ _ _ _ _ _ c.requires
