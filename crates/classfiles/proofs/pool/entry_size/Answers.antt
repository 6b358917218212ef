use Rattle.classfiles.specs.Pool.{entry_size}
use Rattle.std.proofs.Common.{arith}
use Rattle.std.proofs.lemmas.Bool.Decides.{nat_tests}
use Rattle.classfiles.proofs.pool.entry_size.Goals as goal

pub returns-in-7 : goal.returns-in-7
unfolding entry_size
returns-in-7 c = (grind (arith, nat_tests), omega arith)

pub returns-in_default : goal.returns-in_default
unfolding entry_size
returns-in_default c = (grind (arith, nat_tests), tt)

pub returns-in_default-2 : goal.returns-in_default-2
unfolding entry_size
returns-in_default-2 c = (grind (arith, nat_tests), tt)

pub returns-in-3 : goal.returns-in-3
unfolding entry_size
returns-in-3 c = (grind (arith, nat_tests), omega arith)

pub returns-in-3-2 : goal.returns-in-3-2
unfolding entry_size
returns-in-3-2 c = (grind (arith, nat_tests), omega arith)
