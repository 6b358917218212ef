use Rattle.std.proofs.Common.{arith}
use Rattle.verifier.specs.DrawLaws.{append_none, append_bad, append-good}
use Rattle.verifier.proofs.frame_reader.append.Goals as goal

pub returns-then-x-n : goal.returns-then-x-n
returns-then-x-n c = append_none c.args.s.now c.args.t.now c.args.x c.args.f.now c.args.k c.args.d c.args.m c.args.n c.args.q c.if-x-n.true

pub returns-in_err-at : goal.returns-in_err-at
returns-in_err-at c = append_bad c.args.s.now c.args.t.now c.args.x c.args.f.now c.args.k c.args.d c.args.m c.args.n c.args.q _ (omega (arith, c.if-x-n.false, c.requires.0.marked.here.bounded.locals)) _ _ c.from_residual.ensures.1 c.in_err-at.ensures

pub returns : goal.returns
returns c = append-good c.args.s.now c.args.t.now c.args.x c.args.f.now c.args.k c.args.d c.args.m c.args.n c.args.q _ (omega (arith, c.if-x-n.false, c.requires.0.marked.here.bounded.locals)) _ c.in_ok-at.ensures _ c.sketched.ensures c.if-x-n.false
