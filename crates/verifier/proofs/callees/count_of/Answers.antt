use Rattle.verifier.specs.Callees.{count_none, count_some}
use Rattle.std.proofs.Common.{arith}
use Rattle.verifier.proofs.callees.count_of.Goals as goal

pub returns-then-k-ge1024 : goal.returns-then-k-ge1024
returns-then-k-ge1024 c = (count_none _ _ c.if-k-ge1024.true, omega arith)

pub returns : goal.returns
returns c = (count_some _ _ _ c.if-k-ge1024.false c.param_count.ensures.0, c.param_count.ensures.1)
