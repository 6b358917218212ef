use Rattle.std.proofs.Common.{arith, ◌∙◌}
use Rattle.classfiles.specs.Table.{class_none, class_some, zero-text}
use Rattle.classfiles.specs.Tags.{tag_there, no-class, at_name}
use Rattle.classfiles.proofs.pool.class_text_of.Goals as goal

pub overflow_add-q : goal.overflow_add-q
overflow_add-q c =
    omega (arith, tag_there c.args.s.now c.place-q.result c.byte.result c.byte.ensures.0 (omega arith), c.well_formed.0.1)

pub returns-then-byte-eq7 : goal.returns-then-byte-eq7
returns-then-byte-eq7 c =
    c.text_of.ensures ∙ class_some _ _ _ (at_name c.args.s.now c.place-q.result _ c.byte.result (c.place-q.ensures c.args.s.now c.well_formed.0.0) c.byte.ensures.0 c.u2_at.result c.if-byte-eq7.true c.u2_at.ensures.0)

pub returns : goal.returns
returns c =
    class_none _ _ (no-class c.args.s.now c.place-q.result _ c.byte.result (c.place-q.ensures c.args.s.now c.well_formed.0.0) c.byte.ensures.0 c.if-byte-eq7.false) (zero-text _ _)
