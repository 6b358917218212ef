use Rattle.stretching.proofs.quick.turn.Goals as goal

pub constants-requires : goal.constants-requires
constants-requires c = (c.requires, c.byte-op.ensures.0)
