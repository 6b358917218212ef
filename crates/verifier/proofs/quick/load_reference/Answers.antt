use Rattle.std.proofs.Common.{sym, ◌∙◌}
use Rattle.rules.specs.GroupLaws.{reference_via}
use Rattle.verifier.specs.Quick.{easy_none, loads_reference}
use Rattle.verifier.proofs.quick.load_reference.Goals as goal

pub returns-then-not-is_reference : goal.returns-then-not-is_reference
returns-then-not-is_reference c = λ L fs o. easy_none L fs _ _ _ o _

pub returns : goal.returns
returns c = λ L fs o. loads_reference L fs _ _ _ _ o _ _ _ (sym (reference_via _ _ _ c.is_reference.ensures c.local-w.ensures) ∙ c.if-not-is_reference.false) c.local-w.ensures c.push.ensures
