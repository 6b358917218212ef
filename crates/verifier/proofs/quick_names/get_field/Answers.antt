use Rattle.std.proofs.Common.{sym, ◌∙◌}
use Rattle.verifier.specs.QuickNames.{named_none, gets_field}
use Rattle.verifier.proofs.quick_names.get_field.Goals as goal

pub returns-then-w-ne3 : goal.returns-then-w-ne3
returns-then-w-ne3 c = λ o. named_none _ _ _ _ _ o _

pub returns-then-h-lt1 : goal.returns-then-h-lt1
returns-then-h-lt1 c = λ o. named_none _ _ _ _ _ o _

pub returns-then-not-operand_fits : goal.returns-then-not-operand_fits
returns-then-not-operand_fits c = λ o. named_none _ _ _ _ _ o _

pub returns-then-is_err : goal.returns-then-is_err
returns-then-is_err c = λ o. named_none _ _ _ _ _ o _

pub returns : goal.returns
returns c = gets_field _ _ _ _ _ c.described-of.result _ c.if-w-ne3.false c.described-of.ensures c.class.ensures _ c.put-g.result _ c.if-h-lt1.false (sym c.operand_fits.ensures ∙ c.if-not-operand_fits.false) c.room.ensures c.if-is_err.ensures.value c.put-g.ensures.0 c.put-g.ensures.1 c.put-g.ensures.2
