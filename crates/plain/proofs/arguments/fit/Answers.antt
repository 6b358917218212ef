use Rattle.std.proofs.Common.{arith}
use Rattle.kit.specs.Pick.{calls}
use Rattle.kit.specs.Scan.{alls}
use Rattle.plain.proofs.arguments.fit.Goals as goal

pub loop-i-init : goal.loop-i-init
loop-i-init c = search (alls, calls, arith) depth 12

pub one_fits-requires : goal.one_fits-requires
one_fits-requires c = search (alls, calls, arith) depth 12

pub returns-then-not-one_fits : goal.returns-then-not-one_fits
returns-then-not-one_fits c = search (alls, calls, arith) depth 12

pub loop-i-preserved : goal.loop-i-preserved
loop-i-preserved c = search (alls, calls, arith) depth 12

pub returns : goal.returns
returns c = search (alls, calls, arith) depth 12
