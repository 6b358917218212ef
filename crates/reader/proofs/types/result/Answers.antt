use Rattle.std.proofs.Common.{arith}
use Rattle.reader.specs.CodeLaws.{result_none, result_some, below_none}
use Rattle.reader.proofs.types.result.Goals as goal

pub returns-then-is_at : goal.returns-then-is_at
returns-then-is_at c = (search result_none, omega arith)

pub returns : goal.returns
returns c = (result_some _ _ _ _ c.is_at.ensures.0 c.if-is_at.false c.field.result c.field.ensures.0 c.field.ensures.1, below_none _ c.field.ensures.1)
