use Rattle.std.proofs.Common.{◌-◌, ◌%◌, arith}
use lib.Pow.{shr_le}
use Rattle.plain.specs.IntegerLaws.{integers}
use Rattle.plain.proofs.integers.ishr.Goals as goal

pub returns-then-a-lt2147483648 : goal.returns-then-a-lt2147483648
returns-then-a-lt2147483648 c = search integers

pub overflow_sub-result-2 : goal.overflow_sub-result-2
overflow_sub-result-2 c = omega (arith, shr_le (4294967295 - c.args.a) (c.args.b % 32))

pub returns : goal.returns
returns c = search integers
