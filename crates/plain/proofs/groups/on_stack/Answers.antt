use Rattle.plain.specs.GroupLaws.{heap_arm}
use Rattle.plain.specs.HeapTurns.{windowed}
use Rattle.rules.specs.InstructionWords.{stack_of}
use Rattle.plain.proofs.groups.on_stack.Goals as goal

pub returns-in-Dup : goal.returns-in-Dup
returns-in-Dup c = heap_arm stack_of _ _ c.in-Dup.is _ _ _ _ _ _ _ _ _ _ (search (windowed))

pub returns-in-Dupx1 : goal.returns-in-Dupx1
returns-in-Dupx1 c = heap_arm stack_of _ _ c.in-Dupx1.is _ _ _ _ _ _ _ _ _ _ (search (windowed))

pub returns-in-Swap : goal.returns-in-Swap
returns-in-Swap c = heap_arm stack_of _ _ c.in-Swap.is _ _ _ _ _ _ _ _ _ _ (search (windowed))

pub returns-in-Arraylength : goal.returns-in-Arraylength
returns-in-Arraylength c = heap_arm stack_of _ _ c.in-Arraylength.is _ _ _ _ _ _ _ _ _ _ (search (windowed))

pub returns-in-Aaload : goal.returns-in-Aaload
returns-in-Aaload c = heap_arm stack_of _ _ c.in-Aaload.is _ _ _ _ _ _ _ _ _ _ (search (windowed))
