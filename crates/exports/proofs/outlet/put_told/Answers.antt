use Rattle.std.proofs.Common.{refl, ◌∙◌}
use Rattle.exports.proofs.outlet.put_told.Goals as goal

pub returns-in-Ok : goal.returns-in-Ok
returns-in-Ok c = rw c.in-Ok.is (c.put_nine.ensures ∙ rw (c.end_number.ensures, c.value.ensures, c.no_verdict.ensures), refl)

pub returns-in-Err : goal.returns-in-Err
returns-in-Err c = rw c.in-Err.is (c.put_nine-in-Err.ensures ∙ rw (c.number-code.ensures, c.verdict.ensures), c.number-code.ensures)
