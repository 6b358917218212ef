use Rattle.std.proofs.Common.{sym, ◌∙◌}
use Rattle.verifier.specs.Quick.{easy_none}
use Rattle.verifier.specs.QuickNames.{loads_element}
use Rattle.verifier.proofs.quick_names.load_element.Goals as goal

pub returns-then-h-lt2 : goal.returns-then-h-lt2
returns-then-h-lt2 c = λ fs o. easy_none _ fs _ _ _ o _

pub returns-then-not-operand_fits : goal.returns-then-not-operand_fits
returns-then-not-operand_fits c = λ fs o. easy_none _ fs _ _ _ o _

pub returns-then-not-operand_fits-2 : goal.returns-then-not-operand_fits-2
returns-then-not-operand_fits-2 c = λ fs o. easy_none _ fs _ _ _ o _

pub returns-then-is_err : goal.returns-then-is_err
returns-then-is_err c = λ fs o. easy_none _ fs _ _ _ o _

pub returns : goal.returns
returns c = loads_element _ _ _ _ _ _ _ c.int.ensures c.array.ensures _ c.put-g.result _ c.int-2.ensures c.if-h-lt2.false (sym c.operand_fits.ensures ∙ c.if-not-operand_fits.false) (sym c.operand_fits-2.ensures ∙ c.if-not-operand_fits-2.false) c.room.ensures c.if-is_err.ensures.value c.put-g.ensures.0 c.put-g.ensures.1 c.put-g.ensures.2
