use Rattle.verifier.specs.Quick.{easy_none, doubles}
use Rattle.verifier.proofs.quick.dup.Goals as goal

pub returns-then-h-lt1 : goal.returns-then-h-lt1
returns-then-h-lt1 c = λ L fs o. easy_none L fs _ _ _ o _

pub returns : goal.returns
returns c = λ L fs o. doubles L fs _ _ _ _ o _ _ c.if-h-lt1.false c.peek.ensures c.push.ensures
