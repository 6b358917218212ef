use Rattle.plain.specs.Integers.{negated}
use Rattle.std.proofs.Common.{rules}
use Rattle.plain.proofs.integers.ineg.Goals as goal

pub returns : goal.returns
unfolding negated
returns c = search rules
