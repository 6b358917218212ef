use Rattle.shaping.specs.Resolving.{class_here, class-nowhere}
use Rattle.std.proofs.Common.{arith}
use Rattle.shaping.proofs.resolve.class_named.Goals as goal

pub returns-then-w-eq2 : goal.returns-then-w-eq2
returns-then-w-eq2 c = (class_here _ _ c.named_word-w.ensures c.if-w-eq2.true, omega arith)

pub returns : goal.returns
returns c = (class-nowhere _ _ c.named_word-w.ensures c.if-w-eq2.false, omega arith)
