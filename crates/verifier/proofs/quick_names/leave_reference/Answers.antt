use Rattle.std.proofs.Common.{sym, ◌∙◌}
use Rattle.verifier.specs.QuickNames.{leaves_none, leaves_reference}
use Rattle.verifier.proofs.quick_names.leave_reference.Goals as goal

pub returns-then-h : goal.returns-then-h
returns-then-h c = leaves_none _ _ _ _ _

pub returns-then-back-eq256 : goal.returns-then-back-eq256
returns-then-back-eq256 c = leaves_none _ _ _ _ _

pub returns-then-h-lt1 : goal.returns-then-h-lt1
returns-then-h-lt1 c = leaves_none _ _ _ _ _

pub returns-then-is_int : goal.returns-then-is_int
returns-then-is_int c = leaves_none _ _ _ _ _

pub returns-then-operand_fits : goal.returns-then-operand_fits
returns-then-operand_fits c = leaves_reference _ _ _ _ c.if-h.false c.if-back-eq256.false c.if-h-lt1.false _ c.described-w.ensures.1 (sym c.is_int.ensures ∙ c.if-is_int.false) (sym c.operand_fits.ensures ∙ c.if-operand_fits.true)

pub returns : goal.returns
returns c = leaves_none _ _ _ _ _
