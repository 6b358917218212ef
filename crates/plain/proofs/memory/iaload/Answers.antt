use Rattle.plain.specs.HeapTurns.{likewise}
use Rattle.plain.specs.HeapForms.{iaload_as}
use Rattle.plain.proofs.memory.iaload.Goals as goal

pub returns : goal.returns
returns c = likewise _ _ _ _ _ _ _ _ _ _ _ (iaload_as _ _ _ _ _ _ _) c.load.ensures
