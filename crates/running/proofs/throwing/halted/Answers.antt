use Rattle.running.specs.Throwing.{halts_full, halts_deep, halts_stuck}
use Rattle.running.proofs.throwing.halted.Goals as goal

pub returns-in-Fault : goal.returns-in-Fault
returns-in-Fault c = rw c.in-Fault.is c.fault.ensures

pub returns-in-HeapFull : goal.returns-in-HeapFull
returns-in-HeapFull c = rw c.in-HeapFull.is (halts_full _ _ _ _ _ _ _ c.requires.0 _ _)

pub returns-in-DepthFull : goal.returns-in-DepthFull
returns-in-DepthFull c = rw c.in-DepthFull.is (halts_deep _ _ _ _ _ _ _ c.requires.0 _ _)

pub returns-in-Stuck : goal.returns-in-Stuck
returns-in-Stuck c = rw c.in-Stuck.is (halts_stuck _ _ _ _ _ _ _ c.requires.0 _ _)
