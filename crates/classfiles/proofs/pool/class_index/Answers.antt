use Rattle.std.proofs.Common.{arith, sym, ap}
use Rattle.kit.specs.Pick.{calls, picks}
use Rattle.classfiles.specs.Pool.{is_class, class_index_at}
use Rattle.classfiles.specs.Table.{class-text}
use Rattle.classfiles.specs.Tags.{tag_there, no-class, at_class, at_name}
use Rattle.classfiles.proofs.pool.class_index.Goals as goal

pub returns-then-byte-ne7 : goal.returns-then-byte-ne7
unfolding class_index_at
returns-then-byte-ne7 c =
    let z = sym (no-class c.args.s.now c.place-p.result _ c.byte.result (c.place-p.ensures c.args.s.now c.well_formed.0.0) c.byte.ensures.0 c.if-byte-ne7.true) in
    search picks depth 8

pub overflow_add-p : goal.overflow_add-p
overflow_add-p c =
    omega (arith, tag_there c.args.s.now c.place-p.result c.byte.result c.byte.ensures.0 (omega arith), c.well_formed.0.1)

pub returns-then-is_array_name : goal.returns-then-is_array_name
unfolding class_index_at
returns-then-is_array_name c =
    let z = ap is_class (at_class c.args.s.now c.place-p.result _ c.byte.result (c.place-p.ensures c.args.s.now c.well_formed.0.0) c.byte.ensures.0 c.u2_at.result c.if-byte-ne7.false c.u2_at.ensures.0) in
    let y = class-text _ c.args.i _ _ (at_name c.args.s.now c.place-p.result _ c.byte.result (c.place-p.ensures c.args.s.now c.well_formed.0.0) c.byte.ensures.0 c.u2_at.result c.if-byte-ne7.false c.u2_at.ensures.0) c.is_array_name.ensures in
    search calls depth 8

pub returns : goal.returns
unfolding class_index_at
returns c =
    let z = ap is_class (at_class c.args.s.now c.place-p.result _ c.byte.result (c.place-p.ensures c.args.s.now c.well_formed.0.0) c.byte.ensures.0 c.u2_at.result c.if-byte-ne7.false c.u2_at.ensures.0) in
    let y = class-text _ c.args.i _ _ (at_name c.args.s.now c.place-p.result _ c.byte.result (c.place-p.ensures c.args.s.now c.well_formed.0.0) c.byte.ensures.0 c.u2_at.result c.if-byte-ne7.false c.u2_at.ensures.0) c.is_array_name.ensures in
    search calls depth 8
