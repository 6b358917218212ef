use Rattle.std.proofs.Common.{refl, arith}
use Rattle.plain.specs.HeapLaws.{room_in, allocated}
use Rattle.plain.proofs.heap.allocate.Goals as goal

pub clear-requires : goal.clear-requires
clear-requires c = omega (arith, room_in _ _ _ c.requires.0)

pub put_header-requires : goal.put_header-requires
put_header-requires c = omega (arith, room_in _ _ _ c.requires.0)

pub overflow_add-result : goal.overflow_add-result
overflow_add-result c = omega (arith, room_in _ _ _ c.requires.0)

pub overflow_add-result-2 : goal.overflow_add-result-2
overflow_add-result-2 c =
    omega (arith, room_in _ _ _ c.requires.0, c.requires.1)

pub returns : goal.returns
returns c =
    allocated _ _ _ _ _ _ _ _ _ c.requires.0 c.clear.ensures c.put_header.ensures refl
