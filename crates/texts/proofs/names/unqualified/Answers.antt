use Rattle.kit.specs.Pick.{calls}
use Rattle.kit.specs.Scan.{alls}
use Rattle.std.proofs.Common.{arith}
use Rattle.texts.specs.Names.{unqualified}
use Rattle.texts.proofs.names.unqualified.Goals as goal

pub returns-then-t-eq0 : goal.returns-then-t-eq0
unfolding unqualified
returns-then-t-eq0 c = search (alls, calls, arith) depth 12

pub loop-i-init : goal.loop-i-init
unfolding unqualified
loop-i-init c = search (alls, calls, arith) depth 12

pub plain_at-requires : goal.plain_at-requires
unfolding unqualified
plain_at-requires c = search (alls, calls, arith) depth 12

pub returns-then-not-plain_at : goal.returns-then-not-plain_at
unfolding unqualified
returns-then-not-plain_at c = search (alls, calls, arith) depth 12

pub loop-i-preserved : goal.loop-i-preserved
unfolding unqualified
loop-i-preserved c = search (alls, calls, arith) depth 12

pub returns : goal.returns
unfolding unqualified
returns c = search (alls, calls, arith) depth 12
