use Rattle.std.proofs.Common.{rules}
use Rattle.rules.specs.SlotLaws.{states, fit_no_slot}
use Rattle.rules.proofs.slots.fit_states.Goals as goal

pub returns-then-h-f : goal.returns-then-h-f
returns-then-h-f c = search (states, rules) depth 12

pub returns-then-h-d : goal.returns-then-h-d
returns-then-h-d c = search (states, rules) depth 12

pub returns-in_err-fit_locals : goal.returns-in_err-fit_locals
returns-in_err-fit_locals c = fit_no_slot _ _ _ _ (search rules) c.if-h-d.false _ _ _ _ c.from_residual.ensures.1 c.in_err-fit_locals.ensures

pub returns : goal.returns
returns c = search (states, rules, c.in_ok-fit_locals.ensures) depth 12
