use Rattle.std.proofs.Common.{sym, ◌∙◌, eqb-true}
use Rattle.rules.specs.Ancestry.{fits_one}
use Rattle.rules.proofs.types.same_or_assignable.Goals as goal

pub returns-then-eq : goal.returns-then-eq
returns-then-eq c = fits_one _ _ _ (eqb-true _ _ (sym c.eq.ensures ∙ c.if-eq.true))
