use Rattle.verifier.specs.Walks.{ended_live, ended_none}
use Rattle.verifier.proofs.walk.ended.Goals as goal

pub returns-then-live : goal.returns-then-live
returns-then-live c = ended_live _ _ c.if-live.true

pub returns : goal.returns
returns c = ended_none _ _ c.if-live.false
