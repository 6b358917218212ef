use Rattle.std.proofs.Common.{le-leb}
use Rattle.plain.specs.HeapForms.{cell_as, from_as, getfield_as}
use Rattle.plain.specs.HeapTurns.{handed, heapsteps, likewise, guard_so, push-heap}
use Rattle.plain.specs.Turns.{decided, sized_low}
use Rattle.plain.proofs.memory.getfield.Goals as goal

pub returns-then-c-lt1 : goal.returns-then-c-lt1
returns-then-c-lt1 c = likewise _ _ _ _ _ _ _ _ _ _ _ (getfield_as _ _ _ _ _ _ _ _) (search (heapsteps, decided))

pub returns-in_err-reach : goal.returns-in_err-reach
returns-in_err-reach c = likewise _ _ _ _ _ _ _ _ _ _ _ (getfield_as _ _ _ _ _ _ _ _) (guard_so _ _ _ _ _ _ _ _ _ _ _ (le-leb _ _ c.if-c-lt1.false) (handed _ _ _ _ _ _ _ _ c.from_residual.ensures.1 (c.in_err-reach.ensures.0.by _ _ _)))

pub push-requires : goal.push-requires
push-requires c = sized_low _ _ _ _ _ c.requires c.lowered.ensures

pub returns : goal.returns
returns c = likewise _ _ _ _ _ _ _ _ _ _ _ (getfield_as _ _ _ _ _ _ _ _) (guard_so _ _ _ _ _ _ _ _ _ _ _ (le-leb _ _ c.if-c-lt1.false) (c.in_ok-reach.ensures.0.by _ _ _ _ _ _ _ (push-heap _ _ _ _ _ _ _ _ _ _ _ _ c.lowered.ensures (search (from_as, cell_as, c.from_cell-x.ensures, c.described.ensures, c.element-a.ensures, c.to_cell.ensures)) c.push.ensures)))
