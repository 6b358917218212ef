use Rattle.reader.specs.Chains.{built_in_parent}
use Rattle.std.proofs.Common.{arith}
use Rattle.kit.specs.Pick.{picks}
use Rattle.reader.proofs.link.built_in_parent.Goals as goal

pub returns-then-c-lt2 : goal.returns-then-c-lt2
unfolding built_in_parent
returns-then-c-lt2 c = (search picks depth 12, omega arith)

pub returns-then-c-eq2 : goal.returns-then-c-eq2
unfolding built_in_parent
returns-then-c-eq2 c = (search picks depth 12, omega arith)

pub returns-then-c-eq3 : goal.returns-then-c-eq3
unfolding built_in_parent
returns-then-c-eq3 c = (search picks depth 12, omega arith)

pub returns-then-c-eq8 : goal.returns-then-c-eq8
unfolding built_in_parent
returns-then-c-eq8 c = (search picks depth 12, omega arith)

pub returns : goal.returns
unfolding built_in_parent
returns c = (search picks depth 12, omega arith)
