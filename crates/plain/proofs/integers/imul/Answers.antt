use Rattle.plain.specs.IntegerLaws.{integers}
use Rattle.plain.specs.Integers.{compute}
use Rattle.std.proofs.Common.{rules}
use Rattle.plain.proofs.integers.imul.Goals as goal

pub overflow_mul-result : goal.overflow_mul-result
overflow_mul-result c = search integers

pub returns : goal.returns
unfolding compute
returns c = search rules
