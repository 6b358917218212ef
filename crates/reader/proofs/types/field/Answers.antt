use Rattle.std.proofs.Common.{◌≡◌, ◌∙◌, ◌+◌, ◌-◌, not, ap, arith}
use Rattle.reader.specs.CodeLaws.{code_start, code_last, code_here, code_next, seen-under, seen-fault, fault_as, no_value}
use Rattle.reader.proofs.types.field.Goals as goal

pub loop-d-init : goal.loop-d-init
loop-d-init c = (code_start _ _ _, omega arith)

pub returns-then-not-is_at : goal.returns-then-not-is_at
returns-then-not-is_at c =
    let e : 7 - (7 - c.loop-d.d) ≡ c.loop-d.d = omega arith in
    (code_here _ _ _ (7 - c.loop-d.d) _ (rw e c.loop-d.invariant.0) _ c.is_at.ensures.0 _ _ (ap not c.if-not-is_at.true) c.in_ok-base.ensures.0 (rw e (seen-under _ _ _ _ _ c.under.ensures.0 c.under.ensures.1)), c.under.ensures.2)

pub returns-in_err-base : goal.returns-in_err-base
returns-in_err-base c =
    let e : 7 - (7 - c.loop-d.d) ≡ c.loop-d.d = omega arith in
    (fault_as _ _ _ c.from_residual.ensures.1 ∙ code_here _ _ _ (7 - c.loop-d.d) _ (rw e c.loop-d.invariant.0) _ c.is_at.ensures.0 _ _ (ap not c.if-not-is_at.true) c.in_err-base.ensures.0 (seen-fault _ _ _), no_value _ _ _ c.from_residual.ensures.1)

pub loop-d-preserved : goal.loop-d-preserved
loop-d-preserved c =
    let e : 7 - (7 - c.loop-d.d) ≡ c.loop-d.d = omega arith in
    let f : 7 - c.loop-d.d - 1 ≡ 7 - (c.loop-d.d + 1) = omega arith in
    let h : 7 - (7 - c.loop-d.d - 1) ≡ c.loop-d.d + 1 = omega arith in
    (rw (← f, ← h) (code_next _ _ _ (7 - c.loop-d.d) _ (rw e c.loop-d.invariant.0) _ c.is_at.ensures.0 (ap not c.if-not-is_at.false) (omega arith) (omega arith)), omega arith)

pub returns : goal.returns
returns c =
    let e : 7 - (7 - c.loop-d.d) ≡ c.loop-d.d = omega arith in
    (code_last _ _ _ (7 - c.loop-d.d) _ (rw e c.loop-d.invariant.0) _ _ (omega arith) c.in_ok-base-2.ensures.0 (seen-under _ _ _ _ _ c.under-2.ensures.0 c.under-2.ensures.1), c.under-2.ensures.2)

pub returns-in_err-base-2 : goal.returns-in_err-base-2
returns-in_err-base-2 c =
    let e : 7 - (7 - c.loop-d.d) ≡ c.loop-d.d = omega arith in
    (fault_as _ _ _ c.from_residual-in_err-base-2.ensures.1 ∙ code_last _ _ _ (7 - c.loop-d.d) _ (rw e c.loop-d.invariant.0) _ _ (omega arith) c.in_err-base-2.ensures.0 (seen-fault _ _ _), no_value _ _ _ c.from_residual-in_err-base-2.ensures.1)
