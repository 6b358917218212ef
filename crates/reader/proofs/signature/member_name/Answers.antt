use Rattle.reader.specs.MemberRows.{row_sig}
use Rattle.reader.proofs.signature.member_name.Goals as goal

pub returns : goal.returns
unfolding row_sig
returns c = rw (← c.block-b.ensures, ← c.row_start.ensures.0) c.text_at.ensures
