use Rattle.rules.specs.GroupLaws.{store-held}
use Rattle.rules.specs.FormLaws.{kept_moved}
use Rattle.std.proofs.Common.{arith}
use Rattle.rules.proofs.steps.store.Goals as goal

pub returns : goal.returns
returns c = (kept_moved _ _ _ c.cut.ensures (omega arith), store-held c.args.t.now _ c.args.h c.cut.result c.args.j _ c.set_local.ensures.0 c.cut.ensures, c.set_local.ensures.1)
