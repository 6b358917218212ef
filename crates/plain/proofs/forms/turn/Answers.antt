use Rattle.std.proofs.Common.{arith, length-set}
use Rattle.plain.proofs.forms.turn.Goals as goal

pub bounds-w-j-2 : goal.bounds-w-j-2
bounds-w-j-2 c = rw (length-set _ _ _) (omega arith)

pub bounds-g-j-2 : goal.bounds-g-j-2
bounds-g-j-2 c = rw (length-set _ _ _) (omega arith)
