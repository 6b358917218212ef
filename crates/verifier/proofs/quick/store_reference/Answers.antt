use Rattle.std.proofs.Common.{sym, ◌∙◌}
use Rattle.rules.specs.GroupLaws.{reference_via}
use Rattle.verifier.specs.Quick.{easy_none, stores_reference}
use Rattle.verifier.proofs.quick.store_reference.Goals as goal

pub returns-then-h-lt1 : goal.returns-then-h-lt1
returns-then-h-lt1 c = λ L fs o. easy_none L fs _ _ _ o _

pub returns-then-not-is_reference : goal.returns-then-not-is_reference
returns-then-not-is_reference c = λ L fs o. easy_none L fs _ _ _ o _

pub returns-then-is_err : goal.returns-then-is_err
returns-then-is_err c = λ L fs o. easy_none L fs _ _ _ o _

pub returns : goal.returns
returns c = λ L fs o. stores_reference L fs _ _ _ _ o _ _ _ c.if-h-lt1.false (sym (reference_via _ _ _ c.is_reference.ensures c.peek-w.ensures) ∙ c.if-not-is_reference.false) c.room.ensures c.if-is_err.ensures.value c.peek-w.ensures c.set_local.ensures.0 c.set_local.ensures.1
