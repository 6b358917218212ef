use Rattle.rules.specs.Instruction.{putfield}
use Rattle.std.proofs.Common.{refl}
use Rattle.rules.specs.DecodeLaws.{field_yes, field_no}
use Rattle.rules.proofs.decode.put_field.Goals as goal

pub returns-then-w-eq3 : goal.returns-then-w-eq3
returns-then-w-eq3 c = field_yes _ _ putfield _ c.if-w-eq3.true c.field.ensures refl

pub returns : goal.returns
returns c = field_no _ _ putfield c.if-w-eq3.false refl
