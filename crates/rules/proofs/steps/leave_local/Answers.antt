use Rattle.rules.specs.GroupLaws.{afters, kept_same, local-after}
use Rattle.rules.specs.SlotLaws.{outside_none}
use Rattle.std.proofs.Common.{refl}
use Rattle.rules.proofs.steps.leave_local.Goals as goal

pub returns-in-Iload : goal.returns-in-Iload
returns-in-Iload c = (c.push.ensures.0, search afters depth 8, c.push.ensures.2)

pub returns-in-Aload : goal.returns-in-Aload
returns-in-Aload c = (c.push-in-Aload.ensures.0, search afters depth 8, c.push-in-Aload.ensures.2)

pub returns-in-Istore : goal.returns-in-Istore
returns-in-Istore c = (c.store.ensures.0, search afters depth 8, c.store.ensures.2)

pub returns-in-Astore : goal.returns-in-Astore
returns-in-Astore c = (c.store-in-Astore.ensures.0, search afters depth 8, c.store-in-Astore.ensures.2)

pub returns-in-Iinc : goal.returns-in-Iinc
returns-in-Iinc c = (kept_same _, local-after _ _ _ _ c.in-Iinc.is refl, outside_none _ _)
