use Rattle.std.proofs.Common.{refl, sym, ◌∙◌}
use Rattle.rules.specs.GroupLaws.{int_via}
use Rattle.verifier.specs.Quick.{easy_none, adds}
use Rattle.verifier.proofs.quick.increment.Goals as goal

pub returns-then-not-is_int : goal.returns-then-not-is_int
returns-then-not-is_int c = λ L fs o k. easy_none L fs _ _ _ o _

pub returns-then-is_err : goal.returns-then-is_err
returns-then-is_err c = λ L fs o k. easy_none L fs _ _ _ o _

pub returns : goal.returns
returns c = λ L fs o k. adds L fs _ _ _ _ o _ k _ (sym (int_via _ _ _ c.is_int.ensures c.local-w.ensures) ∙ c.if-not-is_int.false) c.room.ensures c.if-is_err.ensures.value refl
