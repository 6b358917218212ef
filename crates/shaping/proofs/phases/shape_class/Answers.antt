use Rattle.shaping.specs.Phases.{shape_by, readied_kept, method-count, row_there, methods_start, methods_next, methods_stop, methods_end}
use Rattle.std.proofs.Common.{refl, ◌∙◌, arith}
use Rattle.shaping.proofs.phases.shape_class.Goals as goal

pub loop-m-init : goal.loop-m-init
loop-m-init c = (methods_start shape_by c.args.s.now c.args.n _ _, refl)

pub shape_method-requires : goal.shape_method-requires
shape_method-requires c = (readied_kept _ _ c.args.t.now _ c.requires.0 c.loop-m.invariant.0.front c.loop-m.invariant.1, c.requires.1, row_there c.args.t.now c.loop-m.t c.args.c _ c.loop-m.m c.member_count-k.ensures.0 c.loop-m.invariant.0.front c.loop-m-test.true)

pub returns-in-Err : goal.returns-in-Err
returns-in-Err c = methods_stop shape_by c.args.s.now c.args.n c.args.c c.loop-m.m c.args.t.now c.loop-m.t _ c.loop-m.invariant.0 (omega (arith, c.loop-m-test.true, method-count _ _ c.args.t.now _ _ c.requires.0 c.requires.1 c.member_count-k.ensures.0)) _ c.in-Err.ensures

pub loop-m-preserved : goal.loop-m-preserved
loop-m-preserved c = (methods_next shape_by c.args.s.now c.args.n c.args.c c.loop-m.m c.args.t.now c.loop-m.t _ c.loop-m.invariant.0 (omega (arith, c.loop-m-test.true, method-count _ _ c.args.t.now _ _ c.requires.0 c.requires.1 c.member_count-k.ensures.0)) c.in_default.ensures, c.shape_method.auto.t ∙ c.loop-m.invariant.1)

pub returns : goal.returns
returns c = methods_end shape_by c.args.s.now c.args.n c.args.c c.loop-m.m c.args.t.now c.loop-m.t c.loop-m.invariant.0 (omega (arith, c.loop-m-test.false, method-count _ _ c.args.t.now _ _ c.requires.0 c.requires.1 c.member_count-k.ensures.0))
