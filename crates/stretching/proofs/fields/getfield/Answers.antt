use Rattle.std.proofs.Common.{ap, not, refl, arith, le-leb}
use Rattle.stretching.specs.Fields.{reached}
use Rattle.plain.specs.HeapForms.{cell_as, from_as, getfield_as}
use Rattle.plain.specs.HeapTurns.{heapsteps, likewise, guard_so, push-heap}
use Rattle.plain.specs.Turns.{decided, holds_so, sized_low}
use Rattle.stretching.proofs.fields.getfield.Goals as goal

pub returns-then-c-lt1 : goal.returns-then-c-lt1
returns-then-c-lt1 c = likewise _ _ _ _ _ _ _ _ _ _ _ (getfield_as _ _ _ _ _ _ _ _) (search (heapsteps, decided))

pub overflow_sub-to_cell : goal.overflow_sub-to_cell
overflow_sub-to_cell c = omega (arith, (c.has_just.ensures (holds_so _ _ (ap not c.if-not-has_just.false) refl)).1, c.to_cell.ensures)

pub push-requires : goal.push-requires
push-requires c = sized_low _ _ _ _ _ c.requires c.lowered.ensures

pub returns : goal.returns
returns c = let h = c.has_just.ensures (holds_so _ _ (ap not c.if-not-has_just.false) refl) in likewise _ _ _ _ _ _ _ _ _ _ _ (getfield_as _ _ _ _ _ _ _ _) (guard_so _ _ _ _ _ _ _ _ _ _ _ (le-leb _ _ c.if-c-lt1.false) (reached _ _ _ _ _ _ _ _ _ _ _ _ _ h.0 h.1 (push-heap _ _ _ _ _ _ _ _ _ _ _ _ c.lowered.ensures (search (from_as, cell_as, c.from_cell-x.ensures, c.described.ensures, c.element-a.ensures, c.to_cell.ensures)) c.push.ensures)))
