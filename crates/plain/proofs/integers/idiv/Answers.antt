use Rattle.plain.specs.IntegerLaws.{integers}
use Rattle.plain.proofs.integers.idiv.Goals as goal

pub nonzero_div-q : goal.nonzero_div-q
nonzero_div-q c = search integers

pub returns-then-b-lt2147483648 : goal.returns-then-b-lt2147483648
returns-then-b-lt2147483648 c = search integers

pub returns-then-a-lt2147483648 : goal.returns-then-a-lt2147483648
returns-then-a-lt2147483648 c = search integers

pub returns-then-b-lt2147483648-2 : goal.returns-then-b-lt2147483648-2
returns-then-b-lt2147483648-2 c = search integers

pub returns : goal.returns
returns c = search integers
