use Rattle.running.specs.Athrow.{athrow-asked, athrow_throws, athrow_halts}
use Rattle.running.proofs.athrow.athrow.Goals as goal

pub to_throw-requires : goal.to_throw-requires
to_throw-requires c = athrow-asked _ _ _ _ _ _ _ c.requires.0

pub returns-in-Ok : goal.returns-in-Ok
returns-in-Ok c = athrow_throws _ _ _ _ _ _ _ _ _ c.requires.0 _ c.in-Ok.ensures _ _ _ c.throw_object.ensures

pub returns-in-Err : goal.returns-in-Err
returns-in-Err c = athrow_halts _ _ _ _ _ _ _ _ _ c.requires.0 _ c.in-Err.ensures _ _ _ _ c.halted.ensures
