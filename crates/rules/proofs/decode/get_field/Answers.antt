use Rattle.rules.specs.Instruction.{getfield}
use Rattle.std.proofs.Common.{refl}
use Rattle.rules.specs.DecodeLaws.{field_yes, field_no}
use Rattle.rules.proofs.decode.get_field.Goals as goal

pub returns-then-w-eq3 : goal.returns-then-w-eq3
returns-then-w-eq3 c = field_yes _ _ getfield _ c.if-w-eq3.true c.field.ensures refl

pub returns : goal.returns
returns c = field_no _ _ getfield c.if-w-eq3.false refl
