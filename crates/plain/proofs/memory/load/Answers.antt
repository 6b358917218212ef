use Rattle.plain.specs.HeapForms.{from_element, loading, depth_known, checked_as}
use Rattle.std.proofs.Common.{le-leb, ap, not}
use borrow.Author.Tests.{lt-leb}
use Rattle.plain.specs.HeapTurns.{handed, guard_so, guard_not, push-heap}
use Rattle.plain.specs.Turns.{sized_low, untrue, holds_so}
use Rattle.plain.proofs.memory.load.Goals as goal

pub returns-then-c-lt2 : goal.returns-then-c-lt2
unfolding loading
returns-then-c-lt2 c = guard_not _ _ _ _ _ _ _ (lt-leb _ _ c.if-c-lt2.true)

pub returns-then-not-is_num : goal.returns-then-not-is_num
unfolding loading
returns-then-not-is_num c = guard_so _ _ _ _ _ _ _ _ _ _ _ (le-leb _ _ c.if-c-lt2.false) (guard_not _ _ _ _ _ _ _ (untrue _ _ (ap not c.if-not-is_num.true) c.is_num.ensures))

pub returns-in_err-index : goal.returns-in_err-index
unfolding loading
returns-in_err-index c = guard_so _ _ _ _ _ _ _ _ _ _ _ (le-leb _ _ c.if-c-lt2.false) (guard_so _ _ _ _ _ _ _ _ _ _ _ (holds_so _ _ (ap not c.if-not-is_num.false) c.is_num.ensures) (handed _ _ _ _ _ _ _ _ c.from_residual.ensures.1 ((checked_as _ _ _ _ _ _ _ _ _ c.to_cell.ensures c.in_err-index.ensures.0).by _ _ _)))

pub element-requires : goal.element-requires
element-requires c = search (depth_known, c.in_ok-index.ensures.1.1, c.type_at-of.ensures.1, c.to_cell-a.ensures)

pub lowered-requires : goal.lowered-requires
lowered-requires c = c.if-c-lt2.false

pub push-requires : goal.push-requires
push-requires c = sized_low _ _ _ _ _ c.requires c.lowered.ensures

pub returns : goal.returns
unfolding loading
returns c = guard_so _ _ _ _ _ _ _ _ _ _ _ (le-leb _ _ c.if-c-lt2.false) (guard_so _ _ _ _ _ _ _ _ _ _ _ (holds_so _ _ (ap not c.if-not-is_num.false) c.is_num.ensures) ((checked_as _ _ _ _ _ _ _ _ _ c.to_cell.ensures c.in_ok-index.ensures.0).by _ _ _ _ _ _ _ (push-heap _ _ _ _ _ _ _ _ _ _ _ _ c.lowered.ensures (search (from_element, c.from_cell-y.ensures, c.element.ensures, c.type_at-of.ensures.0, c.type_at-of.ensures.1, c.to_cell-a.ensures, c.in_ok-index.ensures.1.1, c.element-2.ensures, c.to_cell-2.ensures)) c.push.ensures)))
