use Rattle.std.proofs.Common.{arith}
use Rattle.plain.specs.HeapLaws.{clear_part}
use Rattle.plain.proofs.heap.clear.Goals as goal

pub returns : goal.returns
returns c = clear_part _ _ _ _ _ c.requires (omega arith) (c.fill.ensures.after (λ y e. e))
