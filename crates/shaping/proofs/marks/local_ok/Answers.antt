use Rattle.shaping.specs.TraitLaws.{itself}
use Rattle.shaping.proofs.marks.local_ok.Goals as goal

pub returns-in-Iload : goal.returns-in-Iload
returns-in-Iload c = rw c.in-Iload.is (itself _)

pub returns-in-Aload : goal.returns-in-Aload
returns-in-Aload c = rw c.in-Aload.is (itself _)

pub returns-in-Istore : goal.returns-in-Istore
returns-in-Istore c = rw c.in-Istore.is (itself _)

pub returns-in-Astore : goal.returns-in-Astore
returns-in-Astore c = rw c.in-Astore.is (itself _)

pub returns-in-Iinc : goal.returns-in-Iinc
returns-in-Iinc c = rw c.in-Iinc.is (itself _)
