use Rattle.std.proofs.Common.{arith}
use Rattle.kit.specs.Pick.{calls, if_ge}
use Rattle.plain.proofs.integers.magnitude.Goals as goal

pub returns-then-a-lt2147483648 : goal.returns-then-a-lt2147483648
returns-then-a-lt2147483648 c = (search calls, omega arith)

pub returns : goal.returns
returns c = (if_ge _ _ _ _ _ c.if-a-lt2147483648.false (omega arith), omega arith)
