use Rattle.plain.specs.HeapTurns.{writes_stuck, writes_on}
use Rattle.plain.proofs.memory.write.Goals as goal

pub returns-then-c-n : goal.returns-then-c-n
returns-then-c-n c = search (writes_stuck)

pub returns : goal.returns
returns c = search (writes_on)
