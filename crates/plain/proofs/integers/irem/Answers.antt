use Rattle.plain.specs.IntegerLaws.{integers}
use Rattle.plain.proofs.integers.irem.Goals as goal

pub nonzero_rem-m : goal.nonzero_rem-m
nonzero_rem-m c = search integers

pub returns-then-a-lt2147483648 : goal.returns-then-a-lt2147483648
returns-then-a-lt2147483648 c = search integers

pub returns : goal.returns
returns c = search integers
