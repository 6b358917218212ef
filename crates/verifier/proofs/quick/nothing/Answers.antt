use Rattle.verifier.specs.Quick.{easy_none}
use Rattle.verifier.specs.QuickNames.{idles}
use Rattle.verifier.proofs.quick.nothing.Goals as goal

pub returns-then-is_err : goal.returns-then-is_err
returns-then-is_err c = λ L fs o. easy_none L fs _ _ _ o _

pub returns : goal.returns
returns c = idles _ _ _ _ c.room.ensures c.if-is_err.ensures.value
