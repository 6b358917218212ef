use Rattle.verifier.specs.FrameTypes.{TypesRead}
use Rattle.verifier.proofs.frame_reader.types.Given as goal

abbrev pub invariant-loop-i : goal.invariant-loop-i
invariant-loop-i l = TypesRead l.s l.initial.t l.x l.f l.k l.n l.w l.q l.t l.at l.i
