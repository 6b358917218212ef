use Rattle.classfiles.specs.Signatures.{many-static, many-received}
use Rattle.classfiles.proofs.members.too_many.Goals as goal

pub returns-then-access-eq9 : goal.returns-then-access-eq9
returns-then-access-eq9 c = many-static _ _ c.if-access-eq9.true

pub returns : goal.returns
returns c = many-received _ _ c.if-access-eq9.false
