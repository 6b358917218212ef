use Rattle.std.proofs.Common.{sym, ◌∙◌, le-leb, ap, not}
use borrow.Author.Tests.{lt-leb}
use Rattle.plain.specs.HeapForms.{negative_as, newarray_as}
use Rattle.plain.specs.HeapTurns.{likewise, guard_so, guard_not, either_yes, either_no, steps_fault, make_low}
use Rattle.plain.specs.Turns.{sized_low, untrue, holds_so}
use Rattle.plain.proofs.memory.newarray.Goals as goal

pub returns-then-c-lt1 : goal.returns-then-c-lt1
returns-then-c-lt1 c = likewise _ _ _ _ _ _ _ _ _ _ _ (newarray_as _ _ _ _ _ _ _ _) (guard_not _ _ _ _ _ _ _ (lt-leb _ _ c.if-c-lt1.true))

pub returns-then-not-is_num : goal.returns-then-not-is_num
returns-then-not-is_num c = likewise _ _ _ _ _ _ _ _ _ _ _ (newarray_as _ _ _ _ _ _ _ _) (guard_so _ _ _ _ _ _ _ _ _ _ _ (le-leb _ _ c.if-c-lt1.false) (guard_not _ _ _ _ _ _ _ (untrue _ _ (ap not c.if-not-is_num.true) c.is_num.ensures)))

pub returns-then-negative : goal.returns-then-negative
returns-then-negative c = likewise _ _ _ _ _ _ _ _ _ _ _ (newarray_as _ _ _ _ _ _ _ _) (guard_so _ _ _ _ _ _ _ _ _ _ _ (le-leb _ _ c.if-c-lt1.false) (guard_so _ _ _ _ _ _ _ _ _ _ _ (holds_so _ _ (ap not c.if-not-is_num.false) c.is_num.ensures) (either_yes _ _ _ _ _ _ _ _ _ _ _ _ (sym (negative_as _ _ _ c.negative.ensures c.to_cell-n.ensures) ∙ c.if-negative.true) (steps_fault _ _ _ _ _ _))))

pub make-requires : goal.make-requires
make-requires c = (sized_low _ _ _ _ _ c.requires.0 c.lowered.ensures, c.requires.1)

pub returns : goal.returns
returns c = likewise _ _ _ _ _ _ _ _ _ _ _ (newarray_as _ _ _ _ _ _ _ _) (guard_so _ _ _ _ _ _ _ _ _ _ _ (le-leb _ _ c.if-c-lt1.false) (guard_so _ _ _ _ _ _ _ _ _ _ _ (holds_so _ _ (ap not c.if-not-is_num.false) c.is_num.ensures) (either_no _ _ _ _ _ _ _ _ _ _ _ _ (sym (negative_as _ _ _ c.negative.ensures c.to_cell-n.ensures) ∙ c.if-negative.false) (make_low _ _ _ _ _ _ _ _ _ _ _ _ _ _ _ _ c.lowered.ensures c.array_of.ensures c.to_cell-n.ensures c.make.ensures))))
