use Rattle.plain.specs.HeapTurns.{likewise}
use Rattle.plain.specs.HeapForms.{aaload_as}
use Rattle.plain.proofs.memory.aaload.Goals as goal

pub returns : goal.returns
returns c = likewise _ _ _ _ _ _ _ _ _ _ _ (aaload_as _ _ _ _ _ _ _) c.load.ensures
