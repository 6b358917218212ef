use Rattle.std.proofs.Common.{le-leb, ap, not}
use borrow.Author.Tests.{lt-leb}
use Rattle.plain.specs.Turns.{untrue, holds_so}
use Rattle.plain.specs.HeapTurns.{handed, likewise, guard_so, guard_not, write_any}
use Rattle.plain.specs.HeapForms.{iastore_as, checked_as}
use Rattle.plain.proofs.memory.iastore.Goals as goal

pub returns-then-c-lt3 : goal.returns-then-c-lt3
returns-then-c-lt3 c = likewise _ _ _ _ _ _ _ _ _ _ _ (iastore_as _ _ _ _ _ _ _) (guard_not _ _ _ _ _ _ _ (lt-leb _ _ c.if-c-lt3.true))

pub returns-then-not-is_num : goal.returns-then-not-is_num
returns-then-not-is_num c = likewise _ _ _ _ _ _ _ _ _ _ _ (iastore_as _ _ _ _ _ _ _) (guard_so _ _ _ _ _ _ _ _ _ _ _ (le-leb _ _ c.if-c-lt3.false) (guard_not _ _ _ _ _ _ _ (untrue _ _ (ap not c.if-not-is_num.true) c.is_num.ensures)))

pub returns-then-not-is_num-2 : goal.returns-then-not-is_num-2
returns-then-not-is_num-2 c = likewise _ _ _ _ _ _ _ _ _ _ _ (iastore_as _ _ _ _ _ _ _) (guard_so _ _ _ _ _ _ _ _ _ _ _ (le-leb _ _ c.if-c-lt3.false) (guard_so _ _ _ _ _ _ _ _ _ _ _ (holds_so _ _ (ap not c.if-not-is_num.false) c.is_num.ensures) (guard_not _ _ _ _ _ _ _ (untrue _ _ (ap not c.if-not-is_num-2.true) c.is_num-2.ensures))))

pub returns-in_err-index : goal.returns-in_err-index
returns-in_err-index c = likewise _ _ _ _ _ _ _ _ _ _ _ (iastore_as _ _ _ _ _ _ _) (guard_so _ _ _ _ _ _ _ _ _ _ _ (le-leb _ _ c.if-c-lt3.false) (guard_so _ _ _ _ _ _ _ _ _ _ _ (holds_so _ _ (ap not c.if-not-is_num.false) c.is_num.ensures) (guard_so _ _ _ _ _ _ _ _ _ _ _ (holds_so _ _ (ap not c.if-not-is_num-2.false) c.is_num-2.ensures) (handed _ _ _ _ _ _ _ _ c.from_residual.ensures.1 ((checked_as _ _ _ _ _ _ _ _ _ c.to_cell.ensures c.in_err-index.ensures.0).by _ _ _)))))

pub returns : goal.returns
returns c = likewise _ _ _ _ _ _ _ _ _ _ _ (iastore_as _ _ _ _ _ _ _) (guard_so _ _ _ _ _ _ _ _ _ _ _ (le-leb _ _ c.if-c-lt3.false) (guard_so _ _ _ _ _ _ _ _ _ _ _ (holds_so _ _ (ap not c.if-not-is_num.false) c.is_num.ensures) (guard_so _ _ _ _ _ _ _ _ _ _ _ (holds_so _ _ (ap not c.if-not-is_num-2.false) c.is_num-2.ensures) ((checked_as _ _ _ _ _ _ _ _ _ c.to_cell.ensures c.in_ok-index.ensures.0).by _ _ _ _ _ _ _ (write_any _ _ _ _ _ _ _ _ c.to_cell-2.result _ _ _ _ _ c.write.ensures c.to_cell-2.ensures c.to_cell-3.ensures c.to_cell-4.ensures)))))
