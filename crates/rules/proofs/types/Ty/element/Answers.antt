use Rattle.rules.specs.TypeLaws.{element-null, element_none}
use Rattle.std.proofs.Common.{◌∙◌, rules}
use Rattle.rules.proofs.types.Ty.element.Goals as goal

pub returns-then-k-eq-NULL : goal.returns-then-k-eq-NULL
returns-then-k-eq-NULL c = element-null _ (search rules)

pub returns : goal.returns
returns c = c.top.ensures ∙ element_none _ (search rules) (search rules)
