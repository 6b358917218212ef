use Rattle.std.proofs.Common.{arith}
use Rattle.verifier.specs.FullLaws.{stack-cut, stack-many, stack_wrong, stack-good}
use Rattle.verifier.proofs.frame_forms.full_stack.Goals as goal

pub returns-in_err-m : goal.returns-in_err-m
returns-in_err-m c = stack-cut c.args.s.now c.args.t.now c.args.x c.args.f.now c.args.k c.args.d c.args.n c.args.q _ _ c.from_residual.ensures.1 c.in_err-m.ensures

pub returns-then-x-m : goal.returns-then-x-m
returns-then-x-m c = stack-many c.args.s.now c.args.t.now c.args.x c.args.f.now c.args.k c.args.d c.args.n c.args.q _ _ c.in_ok-m.ensures c.if-x-m.true

pub returns-in_err-at : goal.returns-in_err-at
returns-in_err-at c = stack_wrong c.args.s.now c.args.t.now c.args.x c.args.f.now c.args.k c.args.d c.args.n c.args.q _ _ c.in_ok-m.ensures _ (omega (arith, c.if-x-m.false, c.requires.0.marked.here.bounded.stack)) _ _ c.from_residual-in_err-at.ensures.1 c.in_err-at.ensures

pub returns : goal.returns
returns c = stack-good c.args.s.now c.args.t.now c.args.x c.args.f.now c.args.k c.args.d c.args.n c.args.q _ _ c.in_ok-m.ensures _ (omega (arith, c.if-x-m.false, c.requires.0.marked.here.bounded.stack)) _ c.in_ok-at.ensures _ c.sketched.ensures c.requires.1 (omega (arith, c.requires.1, c.requires.0.marked.here.bounded.locals)) c.if-x-m.false
