use Rattle.kit.specs.Pick.{calls}
use Rattle.kit.specs.Scan.{alls}
use Rattle.std.proofs.Common.{arith}
use Rattle.texts.specs.Names.{class_name}
use Rattle.texts.proofs.names.class_name.Goals as goal

pub returns-then-t-eq0 : goal.returns-then-t-eq0
unfolding class_name
returns-then-t-eq0 c = search (alls, calls, arith) depth 12

pub loop-i-init : goal.loop-i-init
unfolding class_name
loop-i-init c = search (alls, calls, arith) depth 12

pub class_byte-requires : goal.class_byte-requires
unfolding class_name
class_byte-requires c = search (alls, calls, arith) depth 12

pub returns-then-not-class_byte : goal.returns-then-not-class_byte
unfolding class_name
returns-then-not-class_byte c = search (alls, calls, arith) depth 12

pub loop-i-preserved : goal.loop-i-preserved
unfolding class_name
loop-i-preserved c = search (alls, calls, arith) depth 12

pub returns : goal.returns
unfolding class_name
returns c = search (alls, calls, arith) depth 12
