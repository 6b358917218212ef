use Rattle.plain.specs.GroupLaws.{heap_arm}
use Rattle.plain.specs.HeapTurns.{windowed}
use Rattle.rules.specs.InstructionWords.{branch_of}
use Rattle.plain.proofs.groups.branch.Goals as goal

pub returns-in-Goto : goal.returns-in-Goto
returns-in-Goto c = heap_arm branch_of _ _ c.in-Goto.is _ _ _ _ _ _ _ _ _ _ (search (windowed))

pub returns-in-Ifint : goal.returns-in-Ifint
returns-in-Ifint c = heap_arm branch_of _ _ c.in-Ifint.is _ _ _ _ _ _ _ _ _ _ (search (windowed))

pub returns-in-Ificmp : goal.returns-in-Ificmp
returns-in-Ificmp c = heap_arm branch_of _ _ c.in-Ificmp.is _ _ _ _ _ _ _ _ _ _ (search (windowed))

pub returns-in-Ifacmp : goal.returns-in-Ifacmp
returns-in-Ifacmp c = heap_arm branch_of _ _ c.in-Ifacmp.is _ _ _ _ _ _ _ _ _ _ (search (windowed))

pub returns-in-Ifnull : goal.returns-in-Ifnull
returns-in-Ifnull c = heap_arm branch_of _ _ c.in-Ifnull.is _ _ _ _ _ _ _ _ _ _ (search (windowed))
