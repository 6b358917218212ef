use Rattle.std.proofs.Common.{eqb-true}
use Rattle.kit.specs.Bools.{not_so}
use Rattle.machine.proofs.turns.same_method.Goals as goal

pub returns-then-j-k : goal.returns-then-j-k
returns-then-j-k c = λ e. (c.if-j-k.true, eqb-true _ _ e)

pub returns : goal.returns
returns c = λ e. absurd (not_so e)
