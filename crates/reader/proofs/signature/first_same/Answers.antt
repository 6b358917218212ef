use Rattle.reader.specs.MemberRows.{index_via}
use Rattle.reader.proofs.signature.first_same.Goals as goal

pub returns : goal.returns
returns c = index_via _ _ _ _ _ _ c.member_count-n.ensures.0 c.first_of.ensures
