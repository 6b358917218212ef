use Rattle.plain.specs.GroupLaws.{heap_arm}
use Rattle.plain.specs.HeapTurns.{windowed}
use Rattle.rules.specs.InstructionWords.{plain_of}
use Rattle.plain.proofs.groups.plain.Goals as goal

pub returns-in-Nop : goal.returns-in-Nop
returns-in-Nop c = heap_arm plain_of _ _ c.in-Nop.is _ _ _ _ _ _ _ _ _ _ (search (windowed))

pub returns-in-Aconstnull : goal.returns-in-Aconstnull
returns-in-Aconstnull c = heap_arm plain_of _ _ c.in-Aconstnull.is _ _ _ _ _ _ _ _ _ _ (search (windowed))

pub returns-in-Pop : goal.returns-in-Pop
returns-in-Pop c = heap_arm plain_of _ _ c.in-Pop.is _ _ _ _ _ _ _ _ _ _ (search (windowed))

pub returns-in-Ineg : goal.returns-in-Ineg
returns-in-Ineg c = heap_arm plain_of _ _ c.in-Ineg.is _ _ _ _ _ _ _ _ _ _ (search (windowed))

pub returns-in-Iaload : goal.returns-in-Iaload
returns-in-Iaload c = heap_arm plain_of _ _ c.in-Iaload.is _ _ _ _ _ _ _ _ _ _ (search (windowed))

pub returns-in-Iastore : goal.returns-in-Iastore
returns-in-Iastore c = heap_arm plain_of _ _ c.in-Iastore.is _ _ _ _ _ _ _ _ _ _ (search (windowed))

pub returns-in-Aastore : goal.returns-in-Aastore
returns-in-Aastore c = heap_arm plain_of _ _ c.in-Aastore.is _ _ _ _ _ _ _ _ _ _ (search (windowed))

pub returns-in-Iconst : goal.returns-in-Iconst
returns-in-Iconst c = heap_arm plain_of _ _ c.in-Iconst.is _ _ _ _ _ _ _ _ _ _ (search (windowed))

pub returns-in-Ibin : goal.returns-in-Ibin
returns-in-Ibin c = heap_arm plain_of _ _ c.in-Ibin.is _ _ _ _ _ _ _ _ _ _ (search (windowed))

pub returns-in-Idiv : goal.returns-in-Idiv
returns-in-Idiv c = heap_arm plain_of _ _ c.in-Idiv.is _ _ _ _ _ _ _ _ _ _ (search (windowed))

pub returns-in-Newarray : goal.returns-in-Newarray
returns-in-Newarray c = heap_arm plain_of _ _ c.in-Newarray.is _ _ _ _ _ _ _ _ _ _ (search (windowed))

pub returns-in-Checkcast : goal.returns-in-Checkcast
returns-in-Checkcast c = heap_arm plain_of _ _ c.in-Checkcast.is _ _ _ _ _ _ _ _ _ _ (search (windowed))

pub returns-in-Instanceof : goal.returns-in-Instanceof
returns-in-Instanceof c = heap_arm plain_of _ _ c.in-Instanceof.is _ _ _ _ _ _ _ _ _ _ (search (windowed))

pub returns-in-Getfield : goal.returns-in-Getfield
returns-in-Getfield c = heap_arm plain_of _ _ c.in-Getfield.is _ _ _ _ _ _ _ _ _ _ (search (windowed))

pub returns-in-Putfield : goal.returns-in-Putfield
returns-in-Putfield c = heap_arm plain_of _ _ c.in-Putfield.is _ _ _ _ _ _ _ _ _ _ (search (windowed))
