use Rattle.verifier.specs.DrawLaws.{chop_none, chop_good}
use Rattle.verifier.proofs.frame_reader.chop.Goals as goal

pub returns-then-n-m : goal.returns-then-n-m
returns-then-n-m c = chop_none c.args.s.now c.args.t.now c.args.x c.args.f.now c.args.k c.args.d c.args.m c.args.n c.args.e c.if-n-m.true

pub returns : goal.returns
returns c = chop_good c.args.s.now c.args.t.now c.args.x c.args.f.now c.args.k c.args.d c.args.m c.args.n c.args.e _ c.sketched.ensures c.if-n-m.false c.requires.1
