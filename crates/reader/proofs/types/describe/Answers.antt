use Rattle.std.proofs.Common.{◌+◌, Bool, not, cond, false, refl, sym, ap, ◌∙◌, length}
use Rattle.reader.specs.CodeLaws.{aside_none, aside_entry, result-after, method_none, method-params, method-result, method_long, method_ok, described_none, described_some}
use Rattle.reader.specs.BuiltIns.{first_class}
use Rattle.reader.specs.TypeCodes.{known_all, result_of}
use Rattle.reader.proofs.types.describe.Goals as goal

pub returns-then-not-is_at : goal.returns-then-not-is_at
returns-then-not-is_at c = described_none _ _ _ _ _ _ _ (aside_none _ _ _) _ _ (method_none _ _ _ c.is_at.ensures.0 (ap not c.if-not-is_at.true)) c.settle.ensures

pub returns-in_default : goal.returns-in_default
returns-in_default c = described_none _ _ _ _ _ _ _ (aside_entry _ _ _ c.in_default.ensures.aside) _ _ (method-params _ _ _ c.is_at.ensures.0 (ap not c.if-not-is_at.false) _ _ _ _ _ c.in_default.ensures) c.settle-in_default.ensures

pub returns-in_default-result : goal.returns-in_default-result
returns-in_default-result c = described_none _ _ _ _ _ _ _ (aside_entry _ _ _ c.in-Ok.ensures.aside) _ _ (method-result _ _ _ c.is_at.ensures.0 (ap not c.if-not-is_at.false) _ _ _ _ c.in-Ok.p c.in-Ok.ensures _ (result-after _ _ _ c.in-Ok.ensures.aside _ _ _ _ _ c.in_default-result.ensures.0)) c.settle-in_default-result.ensures

pub returns-then-p : goal.returns-then-p
returns-then-p c = described_some _ _ _ _ _ _ _ (aside_entry _ _ _ c.in-Ok.ensures.aside) _ _ _ _ _ _ _ c.in-Ok.ensures.codes (method_ok _ _ _ c.is_at.ensures.0 (ap not c.if-not-is_at.false) _ _ _ _ c.in-Ok.p c.in-Ok.ensures c.in-Ok-result.r (result-after _ _ _ c.in-Ok.ensures.aside _ _ _ _ _ c.in-Ok-result.ensures.0) (length c.args.x.now) refl c.if-r-x.true) c.settle-then-r-x.ensures c.in-Ok.ensures.known c.is_result_known.ensures (sym (ap (λ (b : Bool). cond b c.is_result_known.result false) c.if-p.true))

pub returns-else-p : goal.returns-else-p
returns-else-p c = described_some _ _ _ _ _ _ _ (aside_entry _ _ _ c.in-Ok.ensures.aside) _ _ _ _ _ _ _ c.in-Ok.ensures.codes (method_ok _ _ _ c.is_at.ensures.0 (ap not c.if-not-is_at.false) _ _ _ _ c.in-Ok.p c.in-Ok.ensures c.in-Ok-result.r (result-after _ _ _ c.in-Ok.ensures.aside _ _ _ _ _ c.in-Ok-result.ensures.0) (length c.args.x.now) refl c.if-r-x.true) c.settle-then-r-x.ensures c.in-Ok.ensures.known refl (c.if-p.false ∙ sym (ap (λ (b : Bool). cond b (known_all (first_class + c.args.n) (result_of c.in-Ok-result.r.val)) false) c.if-p.false))

pub returns : goal.returns
returns c = described_none _ _ _ _ _ _ _ (aside_entry _ _ _ c.in-Ok.ensures.aside) _ _ (method_long _ _ _ c.is_at.ensures.0 (ap not c.if-not-is_at.false) _ _ _ _ c.in-Ok.p c.in-Ok.ensures c.in-Ok-result.r (result-after _ _ _ c.in-Ok.ensures.aside _ _ _ _ _ c.in-Ok-result.ensures.0) (length c.args.x.now) refl c.if-r-x.false) c.settle-2.ensures
