use Rattle.std.proofs.Common.{arith, ◌∙◌}
use Rattle.classfiles.specs.Table.{text_none}
use Rattle.classfiles.specs.Tags.{tag_there, no_utf8, text_some}
use Rattle.classfiles.proofs.pool.text_of.Goals as goal

pub overflow_add-q : goal.overflow_add-q
overflow_add-q c =
    omega (arith, tag_there c.args.s.now c.place-q.result c.byte.result c.byte.ensures.0 (omega arith), c.well_formed.0.1)

pub overflow_add-q-then-byte-eq1 : goal.overflow_add-q-then-byte-eq1
overflow_add-q-then-byte-eq1 c =
    omega (arith, tag_there c.args.s.now c.place-q.result c.byte.result c.byte.ensures.0 (omega arith), c.well_formed.0.1)

pub returns-then-byte-eq1 : goal.returns-then-byte-eq1
returns-then-byte-eq1 c =
    c.cut.ensures ∙ text_some c.args.s.now _ _ c.place-q.result c.byte.result c.u2_at.result (c.place-q.ensures c.args.s.now c.well_formed.0.0) c.byte.ensures.0 c.if-byte-eq1.true c.u2_at.ensures.0

pub returns : goal.returns
returns c =
    text_none _ _ (no_utf8 c.args.s.now c.place-q.result _ c.byte.result (c.place-q.ensures c.args.s.now c.well_formed.0.0) c.byte.ensures.0 c.if-byte-eq1.false)
