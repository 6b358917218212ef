use Rattle.stepping.specs.CallMoves.{call_lands, call_does}
use Rattle.stepping.proofs.sending.call.Goals as goal

pub after-requires : goal.after-requires
after-requires c = call_lands _ _ _ _ _ _ _ _ _ _ _ _ _ _ _ _ c.requires.0 c.requires.1 c.call-r.auto.cells c.call-r.ensures c.onto.ensures

pub returns : goal.returns
returns c = call_does _ _ _ _ _ _ _ _ _ _ _ _ _ _ _ _ _ _ _ _ c.call-r.ensures c.onto.ensures c.after.ensures
