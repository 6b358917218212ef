use Rattle.std.proofs.Common.{refl, le-leb, ap, not}
use borrow.Author.Tests.{lt-leb}
use Rattle.plain.specs.HeapForms.{refers_as, checkcast_as}
use Rattle.plain.specs.HeapTurns.{likewise, guard_so, guard_not, either_yes, either_no, steps_fault, push-heap}
use Rattle.plain.specs.Turns.{sized_low, untrue, holds_so}
use Rattle.plain.proofs.memory.checkcast.Goals as goal

pub returns-then-c-lt1 : goal.returns-then-c-lt1
returns-then-c-lt1 c = likewise _ _ _ _ _ _ _ _ _ _ _ (checkcast_as _ _ _ _ _ _ _ _) (guard_not _ _ _ _ _ _ _ (lt-leb _ _ c.if-c-lt1.true))

pub returns-then-not-refers_to : goal.returns-then-not-refers_to
returns-then-not-refers_to c = likewise _ _ _ _ _ _ _ _ _ _ _ (checkcast_as _ _ _ _ _ _ _ _) (guard_so _ _ _ _ _ _ _ _ _ _ _ (le-leb _ _ c.if-c-lt1.false) (guard_not _ _ _ _ _ _ _ (untrue _ _ (ap not c.if-not-refers_to.true) c.refers_to.ensures)))

pub returns-then-not-refers_to-2 : goal.returns-then-not-refers_to-2
returns-then-not-refers_to-2 c = likewise _ _ _ _ _ _ _ _ _ _ _ (checkcast_as _ _ _ _ _ _ _ _) (guard_so _ _ _ _ _ _ _ _ _ _ _ (le-leb _ _ c.if-c-lt1.false) (guard_so _ _ _ _ _ _ _ _ _ _ _ (holds_so _ _ (ap not c.if-not-refers_to.false) c.refers_to.ensures) (either_no _ _ _ _ _ _ _ _ _ _ _ _ (untrue c.refers_to-2.result _ (ap not c.if-not-refers_to-2.true) (search (refers_as, c.refers_to-2.ensures, c.named.ensures))) (steps_fault _ _ _ _ _ _))))

pub push-requires : goal.push-requires
push-requires c = sized_low _ _ _ _ _ c.requires c.lowered.ensures

pub returns : goal.returns
returns c = likewise _ _ _ _ _ _ _ _ _ _ _ (checkcast_as _ _ _ _ _ _ _ _) (guard_so _ _ _ _ _ _ _ _ _ _ _ (le-leb _ _ c.if-c-lt1.false) (guard_so _ _ _ _ _ _ _ _ _ _ _ (holds_so _ _ (ap not c.if-not-refers_to.false) c.refers_to.ensures) (either_yes _ _ _ _ _ _ _ _ _ _ _ _ (holds_so c.refers_to-2.result _ (ap not c.if-not-refers_to-2.false) (search (refers_as, c.refers_to-2.ensures, c.named.ensures))) (push-heap _ _ _ _ _ _ _ _ _ _ _ _ c.lowered.ensures (refl) c.push.ensures))))
