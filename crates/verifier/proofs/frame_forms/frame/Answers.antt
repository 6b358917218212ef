use Rattle.verifier.specs.JudgingLaws.{framed_end, framed_off, framed_ready, framed, framed_not}
use Rattle.verifier.proofs.frame_forms.frame.Goals as goal

pub returns-then-f-q : goal.returns-then-f-q
returns-then-f-q c = framed_end c.args.s.now c.args.t.now c.args.x c.args.f.now c.args.k c.args.from c.args.n c.args.q c.if-f-q.true

pub returns-in_err-r : goal.returns-in_err-r
returns-in_err-r c = framed_off c.args.s.now c.args.t.now c.args.x c.args.f.now c.args.k c.args.from c.args.n c.args.q c.requires.0 c.if-f-q.false _ c.byte.ensures.0 _ _ c.from_residual.ensures.1 _ c.in_err-r.ensures

pub picked-requires : goal.picked-requires
picked-requires c = (framed_ready c.args.s.now c.args.t.now c.args.x c.args.f.now c.args.k c.args.from c.args.n c.args.q c.requires.0 c.if-f-q.false _ c.byte.ensures.0 c.in_ok-r.r _ c.in_ok-r.ensures, c.requires.2, c.in_ok-r.ensures.stack)

pub returns-in_err-picked : goal.returns-in_err-picked
returns-in_err-picked c = framed_not c.args.s.now c.args.t.now c.args.x c.args.f.now c.args.k c.args.from c.args.n c.args.q c.requires.0 c.if-f-q.false _ c.byte.ensures.0 c.in_ok-r.r _ c.in_ok-r.ensures _ c.in_err-picked.ensures _ c.from_residual-in_err-picked.ensures.1

pub returns : goal.returns
returns c = framed c.args.s.now c.args.t.now c.args.x c.args.f.now c.args.k c.args.from c.args.n c.args.q c.requires.0 c.if-f-q.false _ c.byte.ensures.0 c.in_ok-r.r _ c.in_ok-r.ensures c.in_ok-picked.ensures
