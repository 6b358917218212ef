use Rattle.shaping.specs.Passing.{judged_pass}
use Rattle.verifier.specs.Typing.{passes_kept}
use Rattle.shaping.specs.Phases.{shape_by, typing_by, readied_kept, method-count, row_there, methods_start, methods_next, methods_stop, methods_end}
use Rattle.std.proofs.Common.{refl, ◌∙◌, arith}
use Rattle.verifier.proofs.typing.type_class.Goals as goal

pub slice_bounds-member_count-count : goal.slice_bounds-member_count-count
slice_bounds-member_count-count c = omega (arith, c.requires.0.long)

pub slice_bounds-member_count-start : goal.slice_bounds-member_count-start
slice_bounds-member_count-start c = omega (arith, c.requires.0.long)

pub slice_bounds-member_count-end : goal.slice_bounds-member_count-end
slice_bounds-member_count-end c = omega (arith, c.requires.0.long)

pub loop-m-init : goal.loop-m-init
loop-m-init c = (methods_start typing_by c.args.s.now c.args.n _ _, refl)

pub type_method-requires : goal.type_method-requires
type_method-requires c = let e = c.loop-m.invariant.0.front in let h = readied_kept _ _ c.args.t.now c.loop-m.t c.requires.0 e c.loop-m.invariant.1 in let g = row_there c.args.t.now c.loop-m.t c.args.c _ c.loop-m.m c.member_count-k.ensures.0 e c.loop-m-test.true in (h, c.requires.1, g, judged_pass shape_by _ _ c.loop-m.t h (passes_kept shape_by _ _ c.args.t.now c.loop-m.t e c.requires.2) c.args.c c.loop-m.m c.requires.1 g)

pub shape_of-t-in-Err : goal.shape_of-t-in-Err
shape_of-t-in-Err c = c.type_method.auto.t ∙ c.loop-m.invariant.1

pub returns-in-Err : goal.returns-in-Err
returns-in-Err c = methods_stop typing_by c.args.s.now c.args.n c.args.c c.loop-m.m c.args.t.now c.loop-m.t _ c.loop-m.invariant.0 (omega (arith, c.loop-m-test.true, method-count _ _ c.args.t.now _ _ c.requires.0 c.requires.1 c.member_count-k.ensures.0)) _ c.in-Err.ensures

pub loop-m-preserved : goal.loop-m-preserved
loop-m-preserved c = (methods_next typing_by c.args.s.now c.args.n c.args.c c.loop-m.m c.args.t.now c.loop-m.t _ c.loop-m.invariant.0 (omega (arith, c.loop-m-test.true, method-count _ _ c.args.t.now _ _ c.requires.0 c.requires.1 c.member_count-k.ensures.0)) c.in_default.ensures, c.type_method.auto.t ∙ c.loop-m.invariant.1)

pub shape_of-t : goal.shape_of-t
shape_of-t c = c.loop-m.invariant.1

pub returns : goal.returns
returns c = methods_end typing_by c.args.s.now c.args.n c.args.c c.loop-m.m c.args.t.now c.loop-m.t c.loop-m.invariant.0 (omega (arith, c.loop-m-test.false, method-count _ _ c.args.t.now _ _ c.requires.0 c.requires.1 c.member_count-k.ensures.0))
