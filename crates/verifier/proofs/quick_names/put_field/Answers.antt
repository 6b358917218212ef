use Rattle.std.proofs.Common.{sym, ◌∙◌}
use Rattle.verifier.specs.QuickNames.{named_none, puts_field}
use Rattle.verifier.proofs.quick_names.put_field.Goals as goal

pub returns-then-w-ne3 : goal.returns-then-w-ne3
returns-then-w-ne3 c = λ o. named_none _ _ _ _ _ o _

pub returns-then-h-lt2 : goal.returns-then-h-lt2
returns-then-h-lt2 c = λ o. named_none _ _ _ _ _ o _

pub returns-then-not-operand_fits : goal.returns-then-not-operand_fits
returns-then-not-operand_fits c = λ o. named_none _ _ _ _ _ o _

pub returns-then-not-operand_fits-2 : goal.returns-then-not-operand_fits-2
returns-then-not-operand_fits-2 c = λ o. named_none _ _ _ _ _ o _

pub returns-then-is_err : goal.returns-then-is_err
returns-then-is_err c = λ o. named_none _ _ _ _ _ o _

pub returns : goal.returns
returns c = puts_field _ _ _ _ _ c.described-of.result _ c.if-w-ne3.false c.described-of.ensures c.class.ensures _ c.if-h-lt2.false (sym c.operand_fits.ensures ∙ c.if-not-operand_fits.false) (sym c.operand_fits-2.ensures ∙ c.if-not-operand_fits-2.false) c.room.ensures c.if-is_err.ensures.value
