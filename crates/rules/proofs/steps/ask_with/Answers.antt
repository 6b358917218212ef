use Rattle.std.proofs.Common.{sym, ap}
use Rattle.kit.specs.Claims.{ruled, then_on, then_off}
use Rattle.texts.specs.Faults.{number}
use Rattle.rules.proofs.steps.ask_with.Goals as goal

pub returns-in_err-ask_takes : goal.returns-in_err-ask_takes
returns-in_err-ask_takes c = then_off _ _ _ c.from_residual.ensures.1 _ _ c.in_err-ask_takes.ensures

pub returns-in_err-own : goal.returns-in_err-own
returns-in_err-own c = then_on _ _ _ c.in_ok-ask_takes.ensures (then_off _ _ _ c.from_residual-in_err-own.ensures.1 _ _ (ap (ruled number) (sym c.in_err-own.was)))

pub returns : goal.returns
returns c = then_on _ _ _ c.in_ok-ask_takes.ensures (then_on _ _ _ (ap (ruled number) (sym c.in_ok-own.was)) c.room.ensures)
