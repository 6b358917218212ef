use Rattle.std.proofs.Common.{ap, not, arith}
use Rattle.running.specs.Throwing.{standing_shaped, standing-land, catching, take-asked, room_there, fault-stuck, fault_full, fault-caught, fault-uncaught}
use Rattle.plain.specs.HeapLaws.{room_in}
use Rattle.running.proofs.throwing.fault.Goals as goal

pub land-r-requires : goal.land-r-requires
land-r-requires c = standing-land _ _ _ _ _ _ _ c.requires.0

pub has_slot-requires : goal.has_slot-requires
has_slot-requires c = (standing_shaped _ _ _ _ _ _ _ c.requires.0, catching _ _ _ _ _ _ _ c.requires.0 _ _ c.land-r.ensures)

pub returns-then-not-has_slot : goal.returns-then-not-has_slot
returns-then-not-has_slot c = fault-stuck _ _ _ _ _ _ _ c.requires.0 _ _ c.land-r.ensures _ c.has_slot.ensures _ _ (ap not c.if-not-has_slot.true)

pub returns-then-not-has_room : goal.returns-then-not-has_room
returns-then-not-has_room c = fault_full _ _ _ _ _ _ _ c.requires.0 _ _ c.land-r.ensures _ c.has_slot.ensures _ _ (ap not c.if-not-has_slot.false) _ c.has_room.ensures (ap not c.if-not-has_room.true)

pub allocate-more-requires : goal.allocate-more-requires
allocate-more-requires c = (room_there _ _ _ _ _ _ _ c.requires.0 _ _ c.land-r.ensures _ c.has_slot.ensures _ _ (ap not c.if-not-has_slot.false) _ c.has_room.ensures (ap not c.if-not-has_room.false), c.requires.1)

pub overflow_add-used : goal.overflow_add-used
overflow_add-used c = omega (arith, room_in _ _ _ (room_there _ _ _ _ _ _ _ c.requires.0 _ _ c.land-r.ensures _ c.has_slot.ensures _ _ (ap not c.if-not-has_slot.false) _ c.has_room.ensures (ap not c.if-not-has_room.false)), c.requires.1)

pub take-requires : goal.take-requires
take-requires c = take-asked _ _ _ _ _ _ _ c.requires.0 _ _ c.in-Some.ensures

pub returns-in-Some : goal.returns-in-Some
returns-in-Some c = fault-caught _ _ _ _ _ _ _ c.requires.0 _ _ c.in-Some.ensures _ (rw c.in-Some.is at c.has_slot.ensures) (ap not c.if-not-has_slot.false) _ _ (room_there _ _ _ _ _ _ _ c.requires.0 _ _ c.land-r.ensures _ c.has_slot.ensures _ _ (ap not c.if-not-has_slot.false) _ c.has_room.ensures (ap not c.if-not-has_room.false)) _ _ c.allocate-more.ensures _ _ _ c.take.ensures

pub returns-in-None : goal.returns-in-None
returns-in-None c = fault-uncaught _ _ _ _ _ _ _ c.requires.0 _ c.in-None.ensures _ (rw c.in-None.is at c.has_slot.ensures) (ap not c.if-not-has_slot.false) _ _ (room_there _ _ _ _ _ _ _ c.requires.0 _ _ c.land-r.ensures _ c.has_slot.ensures _ _ (ap not c.if-not-has_slot.false) _ c.has_room.ensures (ap not c.if-not-has_room.false)) _ _ c.allocate-more.ensures
