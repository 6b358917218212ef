use Rattle.std.proofs.Common.{ap, not}
use Rattle.running.specs.Throwing.{standing_shaped, standing-land, catching, take-asked, throw-stuck, throw-caught, throw-uncaught}
use Rattle.running.proofs.throwing.throw_object.Goals as goal

pub land-r-requires : goal.land-r-requires
land-r-requires c = standing-land _ _ _ _ _ _ _ c.requires

pub has_slot-requires : goal.has_slot-requires
has_slot-requires c = (standing_shaped _ _ _ _ _ _ _ c.requires, catching _ _ _ _ _ _ _ c.requires _ _ c.land-r.ensures)

pub returns-then-not-has_slot : goal.returns-then-not-has_slot
returns-then-not-has_slot c = throw-stuck _ _ _ _ _ _ _ c.requires _ _ c.land-r.ensures _ c.has_slot.ensures _ _ (ap not c.if-not-has_slot.true)

pub take-requires : goal.take-requires
take-requires c = take-asked _ _ _ _ _ _ _ c.requires _ _ c.in-Some.ensures

pub returns-in-Some : goal.returns-in-Some
returns-in-Some c = throw-caught _ _ _ _ _ _ _ c.requires _ _ c.in-Some.ensures _ (rw c.in-Some.is at c.has_slot.ensures) (ap not c.if-not-has_slot.false) _ _ _ _ _ c.take.ensures

pub returns-in-None : goal.returns-in-None
returns-in-None c = throw-uncaught _ _ _ _ _ _ _ c.requires _ c.in-None.ensures _ (rw c.in-None.is at c.has_slot.ensures) (ap not c.if-not-has_slot.false) _ _
