use Rattle.std.proofs.Common.{arith}
use Rattle.reader.specs.CodeLaws.{field_bad, field_short, field_ok}
use Rattle.reader.proofs.types.field_type.Goals as goal

pub returns-in_default : goal.returns-in_default
returns-in_default c = (field_bad _ _ _ _ c.in_default.ensures.0, omega arith)

pub returns-then-d-x : goal.returns-then-d-x
returns-then-d-x c = (field_ok _ _ _ _ c.in-Ok.ensures.0 c.if-d-x.true, c.in-Ok.ensures.1)

pub returns : goal.returns
returns c = (field_short _ _ _ _ c.in-Ok.ensures.0 c.if-d-x.false, omega arith)
