use Rattle.classfiles.specs.Faults.{name_none, name_other, name_some}
use Rattle.classfiles.specs.Pool.{is_utf8}
use Rattle.classfiles.specs.Table.{pool_in}
use Rattle.classfiles.specs.Tags.{at_utf8, no_utf8, text_some}
use Rattle.std.proofs.Common.{ap, ◌∙◌}
use Rattle.classfiles.proofs.pool.name_fault.Goals as goal

pub returns-then-byte-ne1 : goal.returns-then-byte-ne1
returns-then-byte-ne1 c =
    name_other _ _ (no_utf8 c.args.s.now c.place-q.result _ c.byte.result (c.place-q.ensures c.args.s.now c.well_formed.0.0) c.byte.ensures.0 c.if-byte-ne1.true)

pub returns-in-Ok : goal.returns-in-Ok
returns-in-Ok c =
    let p = (c.place-q.ensures c.args.s.now c.well_formed.0.0) in
    let u = ap is_utf8 (at_utf8 c.args.s.now c.place-q.result _ c.byte.result p c.byte.ensures.0 c.u2_at.result c.if-byte-ne1.false c.u2_at.ensures.0) in
    let t = c.cut.ensures ∙ text_some c.args.s.now (pool_in c.args.s.now c.args.tags.now) c.args.i c.place-q.result c.byte.result c.u2_at.result p c.byte.ensures.0 c.if-byte-ne1.false c.u2_at.ensures.0 in
    name_none _ _ c.cut.result.now t _ c.in-Ok.ensures u

pub returns-in-Err : goal.returns-in-Err
returns-in-Err c =
    let p = (c.place-q.ensures c.args.s.now c.well_formed.0.0) in
    let u = ap is_utf8 (at_utf8 c.args.s.now c.place-q.result _ c.byte.result p c.byte.ensures.0 c.u2_at.result c.if-byte-ne1.false c.u2_at.ensures.0) in
    let t = c.cut.ensures ∙ text_some c.args.s.now (pool_in c.args.s.now c.args.tags.now) c.args.i c.place-q.result c.byte.result c.u2_at.result p c.byte.ensures.0 c.if-byte-ne1.false c.u2_at.ensures.0 in
    name_some _ _ c.cut.result.now t _ _ c.in-Err.ensures u
