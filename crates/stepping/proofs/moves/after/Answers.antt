use Rattle.std.proofs.Common.{refl}
use Rattle.stepping.specs.Moves.{after_on, after_halt, lands_halt}
use Rattle.stepping.proofs.moves.after.Goals as goal

pub returns-in-Ok : goal.returns-in-Ok
returns-in-Ok c = after_on _ _ _ _ _ _ _ _ _ _ _ _ c.in-Ok.is refl

pub halted-requires : goal.halted-requires
halted-requires c = lands_halt _ _ _ _ _ _ _ _ _ _ c.in-Err.is c.requires

pub returns-in-Err : goal.returns-in-Err
returns-in-Err c = after_halt _ _ _ _ _ _ _ _ _ _ _ _ _ _ _ c.in-Err.is c.halted.ensures
