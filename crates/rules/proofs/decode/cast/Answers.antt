use Rattle.rules.specs.Instruction.{checkcast}
use Rattle.std.proofs.Common.{refl, ap}
use Rattle.rules.specs.DecodeLaws.{type_yes, type_no}
use Rattle.rules.proofs.decode.cast.Goals as goal

pub returns-then-w-eq2 : goal.returns-then-w-eq2
returns-then-w-eq2 c = type_yes _ _ (λ r. checkcast r) c.if-w-eq2.true (ap checkcast c.reference.ensures.0)

pub returns : goal.returns
returns c = type_no _ _ (λ r. checkcast r) c.if-w-eq2.false refl
