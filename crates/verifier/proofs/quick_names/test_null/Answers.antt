use Rattle.std.proofs.Common.{sym, ◌∙◌}
use Rattle.verifier.specs.Quick.{easy_none}
use Rattle.verifier.specs.QuickNames.{tests_null}
use Rattle.verifier.proofs.quick_names.test_null.Goals as goal

pub returns-then-h-lt1 : goal.returns-then-h-lt1
returns-then-h-lt1 c = λ o b. easy_none _ _ _ _ _ o _

pub returns-then-not-operand_fits : goal.returns-then-not-operand_fits
returns-then-not-operand_fits c = λ o b. easy_none _ _ _ _ _ o _

pub returns : goal.returns
returns c = tests_null _ _ _ _ _ _ _ _ c.if-h-lt1.false c.class.ensures (sym c.operand_fits.ensures ∙ c.if-not-operand_fits.false) c.branch-t.ensures
