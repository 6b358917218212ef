use Rattle.std.proofs.Common.{refl, arith}
use Rattle.plain.specs.CallSteps.{back_bare}
use Rattle.plain.proofs.calls.back.Goals as goal

pub resumed-requires : goal.resumed-requires
resumed-requires c = (omega arith, c.requires.0.records, c.requires.3, omega (arith, c.requires.4))

pub returns : goal.returns
returns c = back_bare _ _ _ _ _ _ _ _ _ (omega arith) c.resumed.ensures refl
