use Rattle.stretching.proofs.quick.bytes.Goals as goal

pub returns : goal.returns
returns c = rw (c.byte-op.ensures.0, c.first.ensures, c.second.ensures)
