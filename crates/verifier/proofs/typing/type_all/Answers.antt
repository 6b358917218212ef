use Rattle.verifier.specs.Typing.{passes_kept}
use Rattle.shaping.specs.Phases.{shape_by, typing_by, readied_kept, classes_start, classes_next, classes_stop, classes_end}
use Rattle.std.proofs.Common.{refl, ◌∙◌}
use Rattle.verifier.proofs.typing.type_all.Goals as goal

pub loop-c-init : goal.loop-c-init
loop-c-init c = (classes_start typing_by c.args.s.now c.args.n _, refl)

pub type_class-requires : goal.type_class-requires
type_class-requires c = (readied_kept _ _ c.args.t.now _ c.requires.0 c.loop-c.invariant.0.front c.loop-c.invariant.1, c.loop-c-test.true, passes_kept shape_by _ _ c.args.t.now c.loop-c.t c.loop-c.invariant.0.front c.requires.1)

pub shape_of-t-in_err-type_class : goal.shape_of-t-in_err-type_class
shape_of-t-in_err-type_class c = c.type_class.auto.t ∙ c.loop-c.invariant.1

pub returns-in_err-type_class : goal.returns-in_err-type_class
returns-in_err-type_class c = classes_stop typing_by c.args.s.now c.args.n c.requires.0.prepared.tables.most c.args.t.now c.loop-c.c c.loop-c.t _ c.loop-c.invariant.0 c.loop-c-test.true _ c.in_err-type_class.ensures _ c.from_residual.ensures.1

pub loop-c-preserved : goal.loop-c-preserved
loop-c-preserved c = (classes_next typing_by c.args.s.now c.args.n c.requires.0.prepared.tables.most c.args.t.now c.loop-c.c c.loop-c.t _ c.loop-c.invariant.0 c.loop-c-test.true c.in_ok-type_class.ensures, c.type_class.auto.t ∙ c.loop-c.invariant.1)

pub shape_of-t : goal.shape_of-t
shape_of-t c = c.loop-c.invariant.1

pub returns : goal.returns
returns c = classes_end typing_by c.args.s.now c.args.n c.requires.0.prepared.tables.most c.args.t.now c.loop-c.c c.loop-c.t c.loop-c.invariant.0 c.loop-c-test.false
