use Rattle.verifier.specs.Quick.{easy_none}
use Rattle.verifier.specs.QuickNames.{pops}
use Rattle.verifier.proofs.quick.pop.Goals as goal

pub returns-then-h-lt1 : goal.returns-then-h-lt1
returns-then-h-lt1 c = λ L fs o. easy_none L fs _ _ _ o _

pub returns-then-is_err : goal.returns-then-is_err
returns-then-is_err c = λ L fs o. easy_none L fs _ _ _ o _

pub returns : goal.returns
returns c = pops _ _ _ _ c.if-h-lt1.false c.room.ensures c.if-is_err.ensures.value
