use Rattle.std.proofs.Common.{sym, ◌∙◌}
use Rattle.rules.specs.GroupLaws.{int_via}
use Rattle.verifier.specs.Quick.{easy_none, loads_int}
use Rattle.verifier.proofs.quick.load_int.Goals as goal

pub returns-then-not-is_int : goal.returns-then-not-is_int
returns-then-not-is_int c = λ L fs o. easy_none L fs _ _ _ o _

pub returns : goal.returns
returns c = λ L fs o. loads_int L fs _ _ _ _ o _ _ _ (sym (int_via _ _ _ c.is_int.ensures c.local-w.ensures) ∙ c.if-not-is_int.false) c.int.ensures c.push.ensures
