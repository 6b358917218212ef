use Rattle.kit.specs.Pick.{calls}
use Rattle.plain.proofs.heap.ready_at.Goals as goal

pub returns : goal.returns
returns c = search calls
