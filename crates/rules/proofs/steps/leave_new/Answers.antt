use Rattle.rules.specs.GroupLaws.{new-held}
use Rattle.rules.specs.FormLaws.{kept_moved}
use Rattle.rules.specs.SlotLaws.{outside_two}
use Rattle.std.proofs.Common.{arith}
use Rattle.rules.proofs.steps.leave_new.Goals as goal

pub returns : goal.returns
returns c = (kept_moved _ _ _ c.put.ensures.0 (omega arith), new-held c.args.t.now c.replace_locals.new.t _ c.args.h c.put.result _ c.args.o _ c.replace_locals.ensures.0 c.put.ensures.1 c.uninit-key.ensures c.top.ensures, outside_two _ _ _ _ c.replace_locals.ensures.1 c.put.ensures.2)
