use Rattle.rules.specs.SlotLaws.{states, caught_no}
use Rattle.rules.proofs.slots.fit_caught.Goals as goal

pub returns-then-f : goal.returns-then-f
returns-then-f c = search states depth 12

pub returns-then-f-ne1 : goal.returns-then-f-ne1
returns-then-f-ne1 c = search states depth 12

pub returns-in_err-fit_locals : goal.returns-in_err-fit_locals
returns-in_err-fit_locals c = caught_no _ _ _ _ _ c.if-f.false c.if-f-ne1.false _ _ _ c.from_residual.ensures.1 c.in_err-fit_locals.ensures

pub returns : goal.returns
returns c = search (states, c.in_ok-fit_locals.ensures) depth 12
