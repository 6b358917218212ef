use Rattle.rules.specs.TypeLaws.{element_array, element-int, element-class}
use Rattle.std.proofs.Common.{arith, ◌∙◌, rules}
use Rattle.rules.proofs.types.Ty.inner.Goals as goal

pub returns-then-self-gt0 : goal.returns-then-self-gt0
returns-then-self-gt0 c = element_array _ c.requires (omega arith)

pub returns-then-self-eq-INT_BASE : goal.returns-then-self-eq-INT_BASE
returns-then-self-eq-INT_BASE c = c.int.ensures ∙ element-int _ c.requires (omega arith) (search rules)

pub returns : goal.returns
returns c = element-class _ c.requires (omega arith) (search rules)
