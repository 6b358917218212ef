use Rattle.classfiles.specs.Shapes.{parameters}
use Rattle.kit.specs.Pick.{same}
use Rattle.std.proofs.Common.{arith}
use Rattle.classfiles.proofs.descriptors.params.Goals as goal

pub returns-then-is_at : goal.returns-then-is_at
returns-then-is_at c = search (parameters, same, arith) depth 8

pub returns-in_err-at : goal.returns-in_err-at
returns-in_err-at c = search (parameters, arith, c.in_err-at.ensures) depth 8

pub loop-count-preserved : goal.loop-count-preserved
loop-count-preserved c = search (parameters, same, arith) depth 8

pub returns : goal.returns
returns c = search (parameters, same, arith) depth 8
