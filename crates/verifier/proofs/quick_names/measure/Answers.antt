use Rattle.std.proofs.Common.{sym, ◌∙◌}
use Rattle.rules.specs.GroupLaws.{array_via}
use Rattle.verifier.specs.Quick.{easy_none}
use Rattle.verifier.specs.QuickNames.{measures}
use Rattle.verifier.proofs.quick_names.measure.Goals as goal

pub returns-then-h-lt1 : goal.returns-then-h-lt1
returns-then-h-lt1 c = λ L fs o. easy_none L fs _ _ _ o _

pub returns-then-not-is_array : goal.returns-then-not-is_array
returns-then-not-is_array c = λ L fs o. easy_none L fs _ _ _ o _

pub returns-then-is_err : goal.returns-then-is_err
returns-then-is_err c = λ L fs o. easy_none L fs _ _ _ o _

pub returns : goal.returns
returns c = measures _ _ _ _ c.put-g.result _ _ c.if-h-lt1.false (sym (array_via _ _ _ c.is_array.ensures c.peek-w.ensures) ∙ c.if-not-is_array.false) c.room.ensures c.if-is_err.ensures.value c.put-g.ensures.0 c.put-g.ensures.1 c.int.ensures c.put-g.ensures.2
