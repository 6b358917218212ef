use Rattle.std.proofs.Common.{refl}
use Rattle.stepping.specs.Moves.{stops_heap, stops_depth}
use Rattle.stepping.proofs.moves.stop.Goals as goal

pub returns-in-HeapFull : goal.returns-in-HeapFull
returns-in-HeapFull c = stops_heap _ _ _ c.in-HeapFull.is refl

pub returns-in-DepthFull : goal.returns-in-DepthFull
returns-in-DepthFull c = stops_depth _ _ _ c.in-DepthFull.is refl

pub returns-in-Fault : goal.returns-in-Fault
returns-in-Fault c = rw c.in-Fault.is (record { is = refl })

pub returns-in-Stuck : goal.returns-in-Stuck
returns-in-Stuck c = rw c.in-Stuck.is (record { is = refl })
