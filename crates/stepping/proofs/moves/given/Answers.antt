use Rattle.std.proofs.Common.{refl}
use Rattle.stepping.specs.Moves.{given_stop}
use Rattle.stepping.proofs.moves.given.Goals as goal

pub returns-in-Back : goal.returns-in-Back
returns-in-Back c = rw (c.in-Ok.is, c.in-Back.is) (record { is = refl })

pub returns-in-Out : goal.returns-in-Out
returns-in-Out c = rw (c.in-Ok.is, c.in-Out.is, c.cell.ensures) (record { is = refl })

pub returns-in-Err : goal.returns-in-Err
returns-in-Err c = given_stop _ _ _ _ c.in-Err.is c.stop.ensures
