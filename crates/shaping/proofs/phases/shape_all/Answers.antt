use Rattle.shaping.specs.Phases.{shape_by, readied_kept, classes_start, classes_next, classes_stop, classes_end}
use Rattle.std.proofs.Common.{refl, ◌∙◌}
use Rattle.shaping.proofs.phases.shape_all.Goals as goal

pub loop-c-init : goal.loop-c-init
loop-c-init c = (classes_start shape_by c.args.s.now c.args.n _, refl)

pub shape_class-requires : goal.shape_class-requires
shape_class-requires c = (readied_kept _ _ c.args.t.now _ c.requires c.loop-c.invariant.0.front c.loop-c.invariant.1, c.loop-c-test.true)

pub returns-in_err-shape_class : goal.returns-in_err-shape_class
returns-in_err-shape_class c = classes_stop shape_by c.args.s.now c.args.n c.requires.prepared.tables.most c.args.t.now c.loop-c.c c.loop-c.t _ c.loop-c.invariant.0 c.loop-c-test.true _ c.in_err-shape_class.ensures _ c.from_residual.ensures.1

pub loop-c-preserved : goal.loop-c-preserved
loop-c-preserved c = (classes_next shape_by c.args.s.now c.args.n c.requires.prepared.tables.most c.args.t.now c.loop-c.c c.loop-c.t _ c.loop-c.invariant.0 c.loop-c-test.true c.in_ok-shape_class.ensures, c.shape_class.auto.t ∙ c.loop-c.invariant.1)

pub returns : goal.returns
returns c = classes_end shape_by c.args.s.now c.args.n c.requires.prepared.tables.most c.args.t.now c.loop-c.c c.loop-c.t c.loop-c.invariant.0 c.loop-c-test.false
