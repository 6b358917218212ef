use Rattle.verifier.specs.FrameTable.{RowsRead}
use Rattle.verifier.proofs.frame_table.over_frames.Given as goal

abbrev pub invariant-loop-k : goal.invariant-loop-k
invariant-loop-k l = RowsRead l.s l.initial.t l.x l.f l.n l.m l.q l.t l.k l.from l.locals l.at
