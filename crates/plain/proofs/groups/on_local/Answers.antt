use Rattle.plain.specs.GroupLaws.{window_arm}
use Rattle.rules.specs.InstructionWords.{local_of}
use Rattle.std.proofs.Common.{rules}
use Rattle.plain.proofs.groups.on_local.Goals as goal

pub returns-in-Iload : goal.returns-in-Iload
returns-in-Iload c = window_arm local_of _ _ c.in-Iload.is _ _ _ _ _ _ _ (search rules)

pub returns-in-Aload : goal.returns-in-Aload
returns-in-Aload c = window_arm local_of _ _ c.in-Aload.is _ _ _ _ _ _ _ (search rules)

pub returns-in-Istore : goal.returns-in-Istore
returns-in-Istore c = window_arm local_of _ _ c.in-Istore.is _ _ _ _ _ _ _ (search rules)

pub returns-in-Astore : goal.returns-in-Astore
returns-in-Astore c = window_arm local_of _ _ c.in-Astore.is _ _ _ _ _ _ _ (search rules)

pub returns-in-Iinc : goal.returns-in-Iinc
returns-in-Iinc c = window_arm local_of _ _ c.in-Iinc.is _ _ _ _ _ _ _ (search rules)
