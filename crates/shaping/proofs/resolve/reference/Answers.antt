use Rattle.shaping.specs.Resolving.{reference_some, reference_none}
use Rattle.std.proofs.Common.{◌+◌}
use Rattle.texts.specs.Reading.{u2_at}
use Rattle.shaping.proofs.resolve.reference.Goals as goal

pub returns-then-named-lt31 : goal.returns-then-named-lt31
returns-then-named-lt31 c = reference_some c.args.s.now c.args.n c.args.t.now c.requires.0 c.requires.7 c.args.c c.requires.1 c.args.method c.u2_at.result _ _ _ c.u2_at.ensures.0 c.class_named-named.ensures.0 _ _ c.u2_at-then-named-lt31.ensures.0 c.if-named-lt31.true c.member_word.ensures

pub returns : goal.returns
returns c = reference_none c.args.s.now c.args.n c.args.t.now c.requires.0 c.requires.7 c.args.c c.requires.1 c.args.method c.u2_at.result _ (u2_at c.args.s.now (c.args.q + 3)) _ c.u2_at.ensures.0 c.class_named-named.ensures.0 c.if-named-lt31.false
