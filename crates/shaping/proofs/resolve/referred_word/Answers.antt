use Rattle.shaping.specs.Resolving.{entry_there, refers_field, refers_method, refers_none}
use Rattle.std.proofs.Common.{arith}
use Rattle.shaping.proofs.resolve.referred_word.Goals as goal

pub returns-then-tag-eq9 : goal.returns-then-tag-eq9
returns-then-tag-eq9 c = refers_field c.args.s.now c.tag_in-q.result _ _ _ c.byte-tag.result (entry_there c.args.s.now c.args.t.now c.args.c c.args.i c.tag_in-q.result (omega (arith, c.requires.5)) (omega (arith, c.requires.1, c.requires.0)) c.requires.2 c.requires.3 c.requires.4 c.tag_in-q.ensures.0) c.byte-tag.ensures.0 _ c.if-tag-eq9.true c.reference.ensures

pub returns-then-tag-eq10 : goal.returns-then-tag-eq10
returns-then-tag-eq10 c = refers_method c.args.s.now c.tag_in-q.result _ _ _ c.byte-tag.result (entry_there c.args.s.now c.args.t.now c.args.c c.args.i c.tag_in-q.result (omega (arith, c.requires.5)) (omega (arith, c.requires.1, c.requires.0)) c.requires.2 c.requires.3 c.requires.4 c.tag_in-q.ensures.0) c.byte-tag.ensures.0 _ c.if-tag-eq10.true c.reference-then-tag-eq10.ensures

pub returns : goal.returns
returns c = refers_none c.args.s.now c.tag_in-q.result _ _ _ c.byte-tag.result (entry_there c.args.s.now c.args.t.now c.args.c c.args.i c.tag_in-q.result (omega (arith, c.requires.5)) (omega (arith, c.requires.1, c.requires.0)) c.requires.2 c.requires.3 c.requires.4 c.tag_in-q.ensures.0) c.byte-tag.ensures.0 c.if-tag-eq9.false c.if-tag-eq10.false
