use Rattle.std.proofs.Common.{le-leb, ap, not}
use borrow.Author.Tests.{lt-leb}
use Rattle.plain.specs.Turns.{untrue, holds_so}
use Rattle.plain.specs.HeapTurns.{handed, likewise, guard_so, guard_not, write_any, either_yes, either_no, steps_fault}
use Rattle.plain.specs.HeapForms.{aastore_as, checked_as, fits-element, depth_known}
use Rattle.plain.proofs.memory.aastore.Goals as goal

pub returns-then-c-lt3 : goal.returns-then-c-lt3
returns-then-c-lt3 c = likewise _ _ _ _ _ _ _ _ _ _ _ (aastore_as _ _ _ _ _ _ _) (guard_not _ _ _ _ _ _ _ (lt-leb _ _ c.if-c-lt3.true))

pub returns-then-not-refers_to : goal.returns-then-not-refers_to
returns-then-not-refers_to c = likewise _ _ _ _ _ _ _ _ _ _ _ (aastore_as _ _ _ _ _ _ _) (guard_so _ _ _ _ _ _ _ _ _ _ _ (le-leb _ _ c.if-c-lt3.false) (guard_not _ _ _ _ _ _ _ (untrue _ _ (ap not c.if-not-refers_to.true) c.refers_to.ensures)))

pub returns-then-not-is_num : goal.returns-then-not-is_num
returns-then-not-is_num c = likewise _ _ _ _ _ _ _ _ _ _ _ (aastore_as _ _ _ _ _ _ _) (guard_so _ _ _ _ _ _ _ _ _ _ _ (le-leb _ _ c.if-c-lt3.false) (guard_so _ _ _ _ _ _ _ _ _ _ _ (holds_so _ _ (ap not c.if-not-refers_to.false) c.refers_to.ensures) (guard_not _ _ _ _ _ _ _ (untrue _ _ (ap not c.if-not-is_num.true) c.is_num.ensures))))

pub returns-in_err-index : goal.returns-in_err-index
returns-in_err-index c = likewise _ _ _ _ _ _ _ _ _ _ _ (aastore_as _ _ _ _ _ _ _) (guard_so _ _ _ _ _ _ _ _ _ _ _ (le-leb _ _ c.if-c-lt3.false) (guard_so _ _ _ _ _ _ _ _ _ _ _ (holds_so _ _ (ap not c.if-not-refers_to.false) c.refers_to.ensures) (guard_so _ _ _ _ _ _ _ _ _ _ _ (holds_so _ _ (ap not c.if-not-is_num.false) c.is_num.ensures) (handed _ _ _ _ _ _ _ _ c.from_residual.ensures.1 ((checked_as _ _ _ _ _ _ _ _ _ c.to_cell.ensures c.in_err-index.ensures.0).by _ _ _)))))

pub element-requires : goal.element-requires
element-requires c = search (depth_known, c.in_ok-index.ensures.1.1, c.type_at-of.ensures.1, c.to_cell-a.ensures)

pub returns-then-not-value_fits : goal.returns-then-not-value_fits
returns-then-not-value_fits c = likewise _ _ _ _ _ _ _ _ _ _ _ (aastore_as _ _ _ _ _ _ _) (guard_so _ _ _ _ _ _ _ _ _ _ _ (le-leb _ _ c.if-c-lt3.false) (guard_so _ _ _ _ _ _ _ _ _ _ _ (holds_so _ _ (ap not c.if-not-refers_to.false) c.refers_to.ensures) (guard_so _ _ _ _ _ _ _ _ _ _ _ (holds_so _ _ (ap not c.if-not-is_num.false) c.is_num.ensures) ((checked_as _ _ _ _ _ _ _ _ _ c.to_cell.ensures c.in_ok-index.ensures.0).by _ _ _ _ _ _ _ (either_no _ _ _ _ _ _ _ _ _ _ _ _ (untrue c.value_fits.result _ (ap not c.if-not-value_fits.true) (search (fits-element, c.value_fits.ensures, c.element.ensures, c.type_at-of.ensures.0, c.type_at-of.ensures.1, c.to_cell-a.ensures, c.in_ok-index.ensures.1.1))) (steps_fault _ _ _ _ _ _))))))

pub returns : goal.returns
returns c = likewise _ _ _ _ _ _ _ _ _ _ _ (aastore_as _ _ _ _ _ _ _) (guard_so _ _ _ _ _ _ _ _ _ _ _ (le-leb _ _ c.if-c-lt3.false) (guard_so _ _ _ _ _ _ _ _ _ _ _ (holds_so _ _ (ap not c.if-not-refers_to.false) c.refers_to.ensures) (guard_so _ _ _ _ _ _ _ _ _ _ _ (holds_so _ _ (ap not c.if-not-is_num.false) c.is_num.ensures) ((checked_as _ _ _ _ _ _ _ _ _ c.to_cell.ensures c.in_ok-index.ensures.0).by _ _ _ _ _ _ _ (either_yes _ _ _ _ _ _ _ _ _ _ _ _ (holds_so c.value_fits.result _ (ap not c.if-not-value_fits.false) (search (fits-element, c.value_fits.ensures, c.element.ensures, c.type_at-of.ensures.0, c.type_at-of.ensures.1, c.to_cell-a.ensures, c.in_ok-index.ensures.1.1))) (write_any _ _ _ _ _ _ _ _ c.to_cell-a.result _ _ _ _ _ c.write.ensures c.to_cell-a.ensures c.to_cell-2.ensures c.to_cell-3.ensures))))))
