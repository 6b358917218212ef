use Rattle.plain.specs.Integers.{compute}
use Rattle.std.proofs.Common.{rules}
use Rattle.plain.proofs.integers.iushr.Goals as goal

pub returns : goal.returns
unfolding compute
returns c = search rules
