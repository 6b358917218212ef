use Rattle.std.proofs.Common.{ap, ne_eqb, eq-eqb, not}
use Rattle.shaping.specs.Located.{parts_none, parts_some}
use Rattle.shaping.proofs.locate.parts_of.Goals as goal

pub returns-then-not-codes : goal.returns-then-not-codes
returns-then-not-codes c = parts_none _ _ _ _ c.method_word-codes.ensures.0 (ap not (ne_eqb _ 1 c.if-not-codes.true))

pub returns : goal.returns
returns c = parts_some _ _ _ _ c.method_word-codes.ensures.0 (ap not (eq-eqb _ 1 c.if-not-codes.false)) _ _ _ _ _ _ _ _ c.cut_span-code.result c.cut_span-frames.result c.method_word-q.ensures.0 c.method_word-q.ensures.1 c.u4_at-size.ensures.0 c.u4_at-size.ensures.1 c.cut_span-code.ensures c.method_word-tables.ensures.0 c.method_word-a.ensures.0 c.method_word-k.ensures.0 c.cut_span-frames.ensures c.u2_at.ensures.0 c.u2_at-2.ensures.0 c.u2_at-3.ensures.0
