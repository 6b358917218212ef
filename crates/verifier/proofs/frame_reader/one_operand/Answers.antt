use Rattle.std.proofs.Common.{arith}
use Rattle.verifier.specs.DrawLaws.{one_none, one_bad, one_good}
use Rattle.verifier.proofs.frame_reader.one_operand.Goals as goal

pub returns-then-x-lt1 : goal.returns-then-x-lt1
returns-then-x-lt1 c = one_none c.args.s.now c.args.t.now c.args.x c.args.f.now c.args.k c.args.d c.args.n c.args.q c.if-x-lt1.true

pub returns-in_err-v : goal.returns-in_err-v
returns-in_err-v c = one_bad c.args.s.now c.args.t.now c.args.x c.args.f.now c.args.k c.args.d c.args.n c.args.q _ _ c.from_residual.ensures.1 c.in_err-v.ensures

pub returns : goal.returns
returns c = one_good c.args.s.now c.args.t.now c.args.x c.args.f.now c.args.k c.args.d c.args.n c.args.q _ _ c.in_ok-v.ensures _ _ c.sketched.ensures c.put_word.ensures (omega arith) c.requires.1 (omega (arith, c.requires.1, c.requires.0.marked.here.bounded.locals)) (omega (arith, c.if-x-lt1.false)) c.requires.0.marked.long
