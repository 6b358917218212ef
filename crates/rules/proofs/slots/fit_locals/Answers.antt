use Rattle.rules.specs.SlotLaws.{leaves}
use Rattle.std.proofs.Common.{arith}
use Rattle.rules.proofs.slots.fit_locals.Goals as goal

pub returns-then-h-n : goal.returns-then-h-n
returns-then-h-n c = search (leaves, arith) depth 12
