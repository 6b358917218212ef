use Rattle.shaping.specs.Asks.{said, mark_good, mark_bad}
use Rattle.shaping.proofs.marks.decoded_mark.Goals as goal

pub returns-then-form_ok : goal.returns-then-form_ok
returns-then-form_ok c = said _ _ _ _ _ _ _ _ c.instruction-i.ensures (mark_good _ _ _ _ c.form_ok.ensures c.if-form_ok.true c.mark_of.ensures)

pub returns : goal.returns
returns c = said _ _ _ _ _ _ _ _ c.instruction-i.ensures (mark_bad _ _ _ c.form_ok.ensures c.if-form_ok.false)
