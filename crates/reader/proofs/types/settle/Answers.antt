use Rattle.reader.specs.CodeLaws.{settle_none, settle_some}
use Rattle.std.proofs.Common.{arith, length-set}
use Rattle.reader.proofs.types.settle.Goals as goal

pub returns-then-v-eq256 : goal.returns-then-v-eq256
returns-then-v-eq256 c = search settle_none

pub bounds-t-w-3 : goal.bounds-t-w-3
bounds-t-w-3 c = simp length-set (omega arith)

pub returns : goal.returns
returns c = search settle_some
