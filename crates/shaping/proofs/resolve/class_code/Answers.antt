use Rattle.shaping.specs.Resolving.{class_bad, class_int, class_known, class_unknown}
use Rattle.shaping.proofs.resolve.class_code.Goals as goal

pub returns-in_default : goal.returns-in_default
returns-in_default c = (class_bad c.args.s.now c.args.n c.args.t.now c.requires.0 _ _ _ c.text_in-x.ensures _ _ c.in_default.ensures.0, tt)

pub returns-then-d-eq248 : goal.returns-then-d-eq248
returns-then-d-eq248 c = (class_int c.args.s.now c.args.n c.args.t.now c.requires.0 _ _ _ c.text_in-x.ensures _ _ c.in-Ok.ensures.1 c.in-Ok.ensures.0 c.if-d-eq248.true, tt)

pub returns-then-is_known : goal.returns-then-is_known
returns-then-is_known c = (class_known c.args.s.now c.args.n c.args.t.now c.requires.0 _ _ _ c.text_in-x.ensures _ _ c.in-Ok.ensures.1 c.in-Ok.ensures.0 c.if-d-eq248.false _ c.is_known.ensures c.if-is_known.true, c.in-Ok.ensures.1)

pub returns : goal.returns
returns c = (class_unknown c.args.s.now c.args.n c.args.t.now c.requires.0 _ _ _ c.text_in-x.ensures _ _ c.in-Ok.ensures.1 c.in-Ok.ensures.0 c.if-d-eq248.false _ c.is_known.ensures c.if-is_known.false, tt)
