use Rattle.std.proofs.Common.{sym, ◌∙◌}
use Rattle.verifier.specs.Quick.{easy_none}
use Rattle.verifier.specs.QuickNames.{stores_element}
use Rattle.verifier.proofs.quick_names.store_element.Goals as goal

pub returns-then-h-lt3 : goal.returns-then-h-lt3
returns-then-h-lt3 c = λ fs o. easy_none _ fs _ _ _ o _

pub returns-then-not-operand_fits : goal.returns-then-not-operand_fits
returns-then-not-operand_fits c = λ fs o. easy_none _ fs _ _ _ o _

pub returns-then-not-operand_fits-2 : goal.returns-then-not-operand_fits-2
returns-then-not-operand_fits-2 c = λ fs o. easy_none _ fs _ _ _ o _

pub returns-then-not-operand_fits-3 : goal.returns-then-not-operand_fits-3
returns-then-not-operand_fits-3 c = λ fs o. easy_none _ fs _ _ _ o _

pub returns-then-is_err : goal.returns-then-is_err
returns-then-is_err c = λ fs o. easy_none _ fs _ _ _ o _

pub returns : goal.returns
returns c = stores_element _ _ _ _ _ _ _ c.int-w.ensures c.array.ensures c.if-h-lt3.false (sym c.operand_fits.ensures ∙ c.if-not-operand_fits.false) (sym c.operand_fits-2.ensures ∙ c.if-not-operand_fits-2.false) (sym c.operand_fits-3.ensures ∙ c.if-not-operand_fits-3.false) c.room.ensures c.if-is_err.ensures.value
