use Rattle.plain.specs.HeapForms.{bit_as, kind_as, instanceof_as}
use Rattle.std.proofs.Common.{le-leb, ap, not}
use borrow.Author.Tests.{lt-leb}
use Rattle.plain.specs.HeapTurns.{likewise, guard_so, guard_not, if_zero, if_some, push-heap}
use Rattle.plain.specs.Turns.{sized_low, untrue, holds_so}
use Rattle.plain.proofs.memory.instanceof.Goals as goal

pub returns-then-c-lt1 : goal.returns-then-c-lt1
returns-then-c-lt1 c = likewise _ _ _ _ _ _ _ _ _ _ _ (instanceof_as _ _ _ _ _ _ _ _) (guard_not _ _ _ _ _ _ _ (lt-leb _ _ c.if-c-lt1.true))

pub returns-then-not-is_usable : goal.returns-then-not-is_usable
returns-then-not-is_usable c = likewise _ _ _ _ _ _ _ _ _ _ _ (instanceof_as _ _ _ _ _ _ _ _) (guard_so _ _ _ _ _ _ _ _ _ _ _ (le-leb _ _ c.if-c-lt1.false) (guard_not _ _ _ _ _ _ _ (untrue _ _ (ap not c.if-not-is_usable.true) c.is_usable.ensures)))

pub push-requires : goal.push-requires
push-requires c = sized_low _ _ _ _ _ c.requires c.lowered-d.ensures

pub returns-then-r-eq0 : goal.returns-then-r-eq0
returns-then-r-eq0 c = likewise _ _ _ _ _ _ _ _ _ _ _ (instanceof_as _ _ _ _ _ _ _ _) (guard_so _ _ _ _ _ _ _ _ _ _ _ (le-leb _ _ c.if-c-lt1.false) (guard_so _ _ _ _ _ _ _ _ _ _ _ (holds_so _ _ (ap not c.if-not-is_usable.false) c.is_usable.ensures) (if_zero _ _ _ _ _ _ _ _ _ _ _ _ _ c.if-r-eq0.true c.to_cell-r.ensures (push-heap _ _ _ _ _ _ _ _ _ _ _ _ c.lowered-d.ensures c.num.ensures c.push.ensures))))

pub push-requires-2 : goal.push-requires-2
push-requires-2 c = sized_low _ _ _ _ _ c.requires c.lowered-d.ensures

pub returns : goal.returns
returns c = likewise _ _ _ _ _ _ _ _ _ _ _ (instanceof_as _ _ _ _ _ _ _ _) (guard_so _ _ _ _ _ _ _ _ _ _ _ (le-leb _ _ c.if-c-lt1.false) (guard_so _ _ _ _ _ _ _ _ _ _ _ (holds_so _ _ (ap not c.if-not-is_usable.false) c.is_usable.ensures) (if_some _ _ _ _ _ _ _ _ _ _ _ _ _ c.if-r-eq0.false c.to_cell-r.ensures (push-heap _ _ _ _ _ _ _ _ _ _ _ _ c.lowered-d.ensures (search (kind_as, c.num-2.ensures, bit_as _ _ c.from.ensures, c.type_fits-b.ensures, c.type_at.ensures.0, c.type_at.ensures.1, c.to_cell-r.ensures, c.named.ensures)) c.push-2.ensures))))
