use Rattle.std.proofs.Common.{sym, ◌∙◌}
use Rattle.rules.specs.GroupLaws.{int_via}
use Rattle.verifier.specs.Quick.{easy_none, stores_int}
use Rattle.verifier.proofs.quick.store_int.Goals as goal

pub returns-then-h-lt1 : goal.returns-then-h-lt1
returns-then-h-lt1 c = λ L fs o. easy_none L fs _ _ _ o _

pub returns-then-not-is_int : goal.returns-then-not-is_int
returns-then-not-is_int c = λ L fs o. easy_none L fs _ _ _ o _

pub returns-then-is_err : goal.returns-then-is_err
returns-then-is_err c = λ L fs o. easy_none L fs _ _ _ o _

pub returns : goal.returns
returns c = λ L fs o. stores_int L fs _ _ _ _ o _ _ _ (record { depth = c.if-h-lt1.false; first = sym (int_via _ _ _ c.is_int.ensures c.peek-w.ensures) ∙ c.if-not-is_int.false }) c.room.ensures c.if-is_err.ensures.value c.int.ensures c.set_local.ensures.0 c.set_local.ensures.1
