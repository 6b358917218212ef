use Rattle.plain.specs.CallSteps.{resumed_at, back-with}
use Rattle.std.proofs.Common.{refl, ap, arith}
use Rattle.plain.specs.declared.frames.Frame.{Frame}
use Rattle.plain.proofs.calls.back_with.Goals as goal

pub bounds-s-i : goal.bounds-s-i
unfolding resumed_at
bounds-s-i c = omega (arith, ap (λ (y : Frame). y.operands) c.resumed-k.ensures, c.requires.0.words, c.requires.4)

pub bounds-g-i : goal.bounds-g-i
unfolding resumed_at
bounds-g-i c = omega (arith, ap (λ (y : Frame). y.operands) c.resumed-k.ensures, c.requires.0.tags, c.requires.4)

pub returns : goal.returns
returns c = back-with _ _ _ _ _ _ _ _ _ _ _ _ _ c.requires.0 (omega arith) c.requires.4 c.requires.5 (omega arith) c.resumed-k.ensures refl refl refl
