use Rattle.std.proofs.Common.{le-leb}
use Rattle.plain.specs.HeapForms.{size_as, length_as}
use Rattle.plain.specs.HeapTurns.{handed, heapsteps, likewise, guard_so, push-heap}
use Rattle.plain.specs.Turns.{decided, sized_low, num_as}
use Rattle.plain.proofs.memory.length.Goals as goal

pub returns-then-c-lt1 : goal.returns-then-c-lt1
returns-then-c-lt1 c = likewise _ _ _ _ _ _ _ _ _ _ _ (length_as _ _ _ _ _ _ _) (search (heapsteps, decided))

pub returns-in_err-found : goal.returns-in_err-found
returns-in_err-found c = likewise _ _ _ _ _ _ _ _ _ _ _ (length_as _ _ _ _ _ _ _) (guard_so _ _ _ _ _ _ _ _ _ _ _ (le-leb _ _ c.if-c-lt1.false) (handed _ _ _ _ _ _ _ _ c.from_residual.ensures.1 (c.in_err-found.ensures.0.by _ _ _)))

pub push-requires : goal.push-requires
push-requires c = sized_low _ _ _ _ _ c.requires c.lowered.ensures

pub returns : goal.returns
returns c = likewise _ _ _ _ _ _ _ _ _ _ _ (length_as _ _ _ _ _ _ _) (guard_so _ _ _ _ _ _ _ _ _ _ _ (le-leb _ _ c.if-c-lt1.false) (c.in_ok-found.ensures.0.by _ _ _ _ _ _ _ (push-heap _ _ _ _ _ _ _ _ _ _ _ _ c.lowered.ensures (search (num_as, size_as, c.num-n.ensures, c.size_at.ensures, c.to_cell.ensures)) c.push.ensures)))
