use Rattle.plain.specs.Heap.{has_room}
use Rattle.std.proofs.Common.{rules}
use Rattle.plain.proofs.heap.has_room.Goals as goal

pub returns : goal.returns
unfolding has_room
returns c = search rules
