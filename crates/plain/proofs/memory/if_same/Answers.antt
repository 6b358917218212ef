use Rattle.std.proofs.Common.{refl, ap, not}
use Rattle.plain.specs.Turns.{told, sized_low, untrue, holds_so}
use Rattle.std.proofs.Common.{le-leb}
use borrow.Author.Tests.{lt-leb}
use Rattle.plain.specs.HeapForms.{equal_as, ifacmp_as}
use Rattle.plain.specs.HeapTurns.{likewise, guard_so, guard_not, choose_so, choose_not}
use Rattle.plain.proofs.memory.if_same.Goals as goal

pub returns-then-c-lt2 : goal.returns-then-c-lt2
returns-then-c-lt2 c = likewise _ _ _ _ _ _ _ _ _ _ _ (ifacmp_as _ _ _ _ _ _ _ _ _) (guard_not _ _ _ _ _ _ _ (lt-leb _ _ c.if-c-lt2.true))

pub returns-then-not-refers_to : goal.returns-then-not-refers_to
returns-then-not-refers_to c = likewise _ _ _ _ _ _ _ _ _ _ _ (ifacmp_as _ _ _ _ _ _ _ _ _) (guard_so _ _ _ _ _ _ _ _ _ _ _ (le-leb _ _ c.if-c-lt2.false) (guard_not _ _ _ _ _ _ _ (untrue _ _ (ap not c.if-not-refers_to.true) c.refers_to.ensures)))

pub returns-then-not-refers_to-2 : goal.returns-then-not-refers_to-2
returns-then-not-refers_to-2 c = likewise _ _ _ _ _ _ _ _ _ _ _ (ifacmp_as _ _ _ _ _ _ _ _ _) (guard_so _ _ _ _ _ _ _ _ _ _ _ (le-leb _ _ c.if-c-lt2.false) (guard_so _ _ _ _ _ _ _ _ _ _ _ (holds_so _ _ (ap not c.if-not-refers_to.false) c.refers_to.ensures) (guard_not _ _ _ _ _ _ _ (untrue _ _ (ap not c.if-not-refers_to-2.true) c.refers_to-2.ensures))))

pub go-requires : goal.go-requires
go-requires c = sized_low _ _ _ _ _ c.requires c.lowered-d.ensures

pub returns-then-e-to_cell : goal.returns-then-e-to_cell
returns-then-e-to_cell c = likewise _ _ _ _ _ _ _ _ _ _ _ (ifacmp_as _ _ _ _ _ _ _ _ _) (guard_so _ _ _ _ _ _ _ _ _ _ _ (le-leb _ _ c.if-c-lt2.false) (guard_so _ _ _ _ _ _ _ _ _ _ _ (holds_so _ _ (ap not c.if-not-refers_to.false) c.refers_to.ensures) (guard_so _ _ _ _ _ _ _ _ _ _ _ (holds_so _ _ (ap not c.if-not-refers_to-2.false) c.refers_to-2.ensures) (choose_so _ _ _ _ _ _ _ _ _ _ _ _ (told _ _ _ c.if-e-to_cell.true (equal_as _ _ _ _ _ _ refl c.to_cell.ensures c.to_cell-2.ensures)) c.lowered-d.ensures c.go.ensures))))

pub go-requires-2 : goal.go-requires-2
go-requires-2 c = sized_low _ _ _ _ _ c.requires c.lowered-d.ensures

pub returns : goal.returns
returns c = likewise _ _ _ _ _ _ _ _ _ _ _ (ifacmp_as _ _ _ _ _ _ _ _ _) (guard_so _ _ _ _ _ _ _ _ _ _ _ (le-leb _ _ c.if-c-lt2.false) (guard_so _ _ _ _ _ _ _ _ _ _ _ (holds_so _ _ (ap not c.if-not-refers_to.false) c.refers_to.ensures) (guard_so _ _ _ _ _ _ _ _ _ _ _ (holds_so _ _ (ap not c.if-not-refers_to-2.false) c.refers_to-2.ensures) (choose_not _ _ _ _ _ _ _ _ _ _ _ _ (told _ _ _ c.if-e-to_cell.false (equal_as _ _ _ _ _ _ refl c.to_cell.ensures c.to_cell-2.ensures)) c.lowered-d.ensures c.go-2.ensures))))
