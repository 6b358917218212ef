use Rattle.std.proofs.Common.{◌∙◌, ap}
use Rattle.rules.specs.Instruction.{iconst}
use Rattle.rules.specs.DecodeLaws.{number_yes, number_no}
use Rattle.rules.proofs.decode.number_of.Goals as goal

pub returns-then-w-eq1 : goal.returns-then-w-eq1
returns-then-w-eq1 c = ap iconst c.u4_at.ensures.0 ∙ number_yes _ _ c.if-w-eq1.true

pub returns : goal.returns
returns c = number_no _ _ c.if-w-eq1.false
