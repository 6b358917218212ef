use Rattle.kit.specs.Pick.{if_eq, if_ne}
use Rattle.std.proofs.Common.{refl, ◌∙◌}
use Rattle.rules.specs.TypeLaws.{array_kind}
use Rattle.rules.proofs.types.Ty.is_array.Goals as goal

pub returns-then-self-eq-NULL : goal.returns-then-self-eq-NULL
returns-then-self-eq-NULL c = if_eq _ _ _ _ _ c.if-self-eq-NULL.true refl ∙ array_kind _

pub returns : goal.returns
returns c = if_ne _ _ _ _ _ c.if-self-eq-NULL.false refl ∙ array_kind _
