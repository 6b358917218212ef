use Rattle.shaping.specs.Resolving.{entry_there, own_number, own_type, own_none}
use Rattle.classfiles.specs.Tags.{tag_there}
use Rattle.std.proofs.Common.{arith}
use Rattle.shaping.proofs.resolve.own_word.Goals as goal

pub overflow_cast-result : goal.overflow_cast-result
overflow_cast-result c = omega (arith, c.requires.0, tag_there c.args.s.now c.tag_in-q.result c.byte-tag.result c.byte-tag.ensures.0 (omega (arith, c.if-tag-eq3.true)))

pub returns-then-tag-eq3 : goal.returns-then-tag-eq3
returns-then-tag-eq3 c = own_number c.args.s.now c.tag_in-q.result _ _ _ c.byte-tag.result (entry_there c.args.s.now c.args.t.now c.args.c c.args.i c.tag_in-q.result (omega (arith, c.requires.6)) (omega (arith, c.requires.2, c.requires.1)) c.requires.3 c.requires.4 c.requires.5 c.tag_in-q.ensures.0) c.byte-tag.ensures.0 c.if-tag-eq3.true

pub returns-then-tag-eq7 : goal.returns-then-tag-eq7
returns-then-tag-eq7 c = own_type c.args.s.now c.tag_in-q.result _ _ _ c.byte-tag.result (entry_there c.args.s.now c.args.t.now c.args.c c.args.i c.tag_in-q.result (omega (arith, c.requires.6)) (omega (arith, c.requires.2, c.requires.1)) c.requires.3 c.requires.4 c.requires.5 c.tag_in-q.ensures.0) c.byte-tag.ensures.0 c.u2_at.result _ c.if-tag-eq7.true c.u2_at.ensures.0 c.class_code.result c.class_code.ensures.0 c.class_code.ensures.1 c.type_bits.ensures

pub returns : goal.returns
returns c = own_none c.args.s.now c.tag_in-q.result _ _ _ c.byte-tag.result (entry_there c.args.s.now c.args.t.now c.args.c c.args.i c.tag_in-q.result (omega (arith, c.requires.6)) (omega (arith, c.requires.2, c.requires.1)) c.requires.3 c.requires.4 c.requires.5 c.tag_in-q.ensures.0) c.byte-tag.ensures.0 c.if-tag-eq3.false c.if-tag-eq7.false
