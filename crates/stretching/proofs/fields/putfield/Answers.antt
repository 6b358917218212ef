use Rattle.std.proofs.Common.{ap, not, refl, arith, le-leb}
use borrow.Author.Tests.{lt-leb}
use Rattle.plain.specs.HeapForms.{putfield_as}
use Rattle.plain.specs.HeapTurns.{likewise, guard_so, guard_not, write_stuck, writes_on, write_any}
use Rattle.plain.specs.Turns.{holds_so}
use Rattle.stretching.specs.Fields.{reached}
use Rattle.stretching.proofs.fields.putfield.Goals as goal

pub returns-then-c-lt2 : goal.returns-then-c-lt2
returns-then-c-lt2 c = likewise _ _ _ _ _ _ _ _ _ _ _ (putfield_as _ _ _ _ _ _ _ _) (guard_not _ _ _ _ _ _ _ (lt-leb _ _ c.if-c-lt2.true))

pub returns-then-c-n : goal.returns-then-c-n
returns-then-c-n c = let h = c.takes_just.ensures (holds_so _ _ (ap not c.if-not-takes_just.false) refl) in likewise _ _ _ _ _ _ _ _ _ _ _ (putfield_as _ _ _ _ _ _ _ _) (guard_so _ _ _ _ _ _ _ _ _ _ _ (le-leb _ _ c.if-c-lt2.false) (guard_so _ _ _ _ _ _ _ _ _ _ _ (h.2.always _) (reached _ _ _ _ _ _ _ _ _ _ _ _ _ h.0 h.1 (write_stuck _ _ _ _ _ _ _ _ c.if-c-n.true))))

pub overflow_sub-to_cell : goal.overflow_sub-to_cell
overflow_sub-to_cell c = omega (arith, (c.takes_just.ensures (holds_so _ _ (ap not c.if-not-takes_just.false) refl)).1, c.to_cell.ensures)

pub returns : goal.returns
returns c = let h = c.takes_just.ensures (holds_so _ _ (ap not c.if-not-takes_just.false) refl) in likewise _ _ _ _ _ _ _ _ _ _ _ (putfield_as _ _ _ _ _ _ _ _) (guard_so _ _ _ _ _ _ _ _ _ _ _ (le-leb _ _ c.if-c-lt2.false) (guard_so _ _ _ _ _ _ _ _ _ _ _ (h.2.always _) (reached _ _ _ _ _ _ _ _ _ _ _ _ _ h.0 h.1 (write_any _ _ _ _ _ _ _ _ c.to_cell.result _ _ _ _ _ (writes_on _ _ _ _ _ _ c.if-c-n.false (omega (arith, c.requires.0.operands)) c.set_element.ensures) c.to_cell.ensures refl c.to_cell-2.ensures))))
