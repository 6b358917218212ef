use Rattle.std.proofs.Common.{ap, not}
use Rattle.reader.specs.MemberRows.{other_by_name, other_by_descriptor}
use Rattle.reader.proofs.signature.other_row.Goals as goal

pub returns-then-not-same_text : goal.returns-then-not-same_text
returns-then-not-same_text c = other_by_name c.args.s.now c.args.b.now _ _ _ _ _ c.row_start-q.ensures.0 _ c.text_at.ensures _ c.same_text.ensures (ap not c.if-not-same_text.true)

pub returns : goal.returns
returns c = other_by_descriptor c.args.s.now c.args.b.now _ _ _ _ _ c.row_start-q.ensures.0 _ c.text_at.ensures _ c.same_text.ensures (ap not c.if-not-same_text.false) _ c.text_at-2.ensures _ c.same_text-2.ensures
