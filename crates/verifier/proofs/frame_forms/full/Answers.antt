use Rattle.std.proofs.Common.{arith}
use Rattle.verifier.specs.FullLaws.{full_cut, full_many, full_wrong, full_ready, full_good}
use Rattle.verifier.proofs.frame_forms.full.Goals as goal

pub returns-in_err-n : goal.returns-in_err-n
returns-in_err-n c = full_cut c.args.s.now c.args.t.now c.args.x c.args.f.now c.args.k c.args.d c.args.q _ _ c.from_residual.ensures.1 c.in_err-n.ensures

pub returns-then-x-n : goal.returns-then-x-n
returns-then-x-n c = full_many c.args.s.now c.args.t.now c.args.x c.args.f.now c.args.k c.args.d c.args.q _ _ c.in_ok-n.ensures c.if-x-n.true

pub returns-in_err-at : goal.returns-in_err-at
returns-in_err-at c = full_wrong c.args.s.now c.args.t.now c.args.x c.args.f.now c.args.k c.args.d c.args.q _ _ c.in_ok-n.ensures _ (omega (arith, c.if-x-n.false, c.requires.marked.here.bounded.locals)) _ _ c.from_residual-in_err-at.ensures.1 c.in_err-at.ensures

pub full_stack-requires : goal.full_stack-requires
full_stack-requires c = (full_ready c.args.s.now c.args.t.now c.args.x c.args.f.now c.args.k c.args.d c.args.q _ _ c.in_ok-n.ensures _ (omega (arith, c.if-x-n.false, c.requires.marked.here.bounded.locals)) _ c.in_ok-at.ensures c.requires, c.if-x-n.false)

pub returns : goal.returns
returns c = full_good c.args.s.now c.args.t.now c.args.x c.args.f.now c.args.k c.args.d c.args.q _ _ c.in_ok-n.ensures _ (omega (arith, c.if-x-n.false, c.requires.marked.here.bounded.locals)) _ c.in_ok-at.ensures _ _ c.full_stack.ensures
