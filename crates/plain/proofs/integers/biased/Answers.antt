use Rattle.kit.specs.Pick.{calls}
use Rattle.plain.proofs.integers.biased.Goals as goal

pub returns-then-a-lt2147483648 : goal.returns-then-a-lt2147483648
returns-then-a-lt2147483648 c = search calls

pub returns : goal.returns
returns c = search calls
