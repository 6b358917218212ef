use Rattle.std.proofs.Common.{arith, ap, not}
use Rattle.plain.specs.HeapLaws.{room_in}
use Rattle.plain.specs.HeapTurns.{make_full, make-stuck, make_on}
use Rattle.plain.specs.Turns.{untrue, holds_so}
use Rattle.plain.proofs.memory.make.Goals as goal

pub returns-then-not-has_room : goal.returns-then-not-has_room
returns-then-not-has_room c = make_full _ _ _ _ _ _ _ _ _ (untrue _ _ (ap not c.if-not-has_room.true) c.has_room.ensures)

pub returns-then-c : goal.returns-then-c
returns-then-c c = make-stuck _ _ _ _ _ _ _ _ _ (holds_so _ _ (ap not c.if-not-has_room.false) c.has_room.ensures) c.if-c.true

pub allocate-u-requires : goal.allocate-u-requires
allocate-u-requires c = (holds_so _ _ (ap not c.if-not-has_room.false) c.has_room.ensures, c.requires.1)

pub overflow_add-w : goal.overflow_add-w
overflow_add-w c = omega (arith, room_in _ _ _ (holds_so _ _ (ap not c.if-not-has_room.false) c.has_room.ensures), c.requires.1)

pub returns : goal.returns
returns c = make_on _ _ _ _ _ _ _ _ _ _ _ (holds_so _ _ (ap not c.if-not-has_room.false) c.has_room.ensures) c.if-c.false c.requires.0 c.allocate-u.ensures
