use Rattle.rules.specs.KnownLaws.{special_made, special_own, outside_at, kept_lowered}
use Rattle.rules.specs.FormLaws.{kept_moved}
use Rattle.rules.specs.SlotLaws.{length-stack}
use Rattle.std.proofs.Common.{sym, refl, arith}
use Rattle.rules.proofs.calls.leave_special.Goals as goal

pub returns-then-key-eq-UNINIT : goal.returns-then-key-eq-UNINIT
returns-then-key-eq-UNINIT c = (kept_moved _ _ _ c.cut-m.ensures (omega arith), special_made _ _ _ _ _ c.args.k.args.count _ _ (sym (length-stack _ _ _)) c.peek-key.ensures c.cut-m.ensures c.replace_all.ensures.0 c.if-key-eq-UNINIT.true c.class.ensures, outside_at _ _ _ _ c.cut-m.ensures.at c.replace_all.ensures.1)

pub returns : goal.returns
returns c = (kept_lowered _ c.cut-m.result _ _ c.cut-m.ensures (omega arith) refl, special_own _ _ _ _ c.cut-m.result c.args.k.args.count _ _ (sym (length-stack _ _ _)) c.peek-key.ensures c.cut-m.ensures c.replace_all-2.ensures.0 c.if-key-eq-UNINIT.false c.class-2.ensures _ refl, outside_at _ _ _ _ c.cut-m.ensures.at c.replace_all-2.ensures.1)
