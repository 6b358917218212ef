use Rattle.verifier.specs.Quick.{easy_none, compares_on}
use Rattle.verifier.proofs.quick.compare.Goals as goal

pub returns-then-not-two_ints : goal.returns-then-not-two_ints
returns-then-not-two_ints c = λ o k. easy_none _ _ _ _ _ o _

pub returns : goal.returns
returns c = compares_on _ _ _ _ _ _ _ (c.two_ints.ensures c.if-not-two_ints.false) c.branch-t.ensures
