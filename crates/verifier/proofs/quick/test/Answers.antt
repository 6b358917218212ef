use Rattle.verifier.specs.Quick.{easy_none, tests_on}
use Rattle.verifier.proofs.quick.test.Goals as goal

pub returns-then-not-one_int : goal.returns-then-not-one_int
returns-then-not-one_int c = λ o k. easy_none _ _ _ _ _ o _

pub returns : goal.returns
returns c = tests_on _ _ _ _ _ _ _ (c.one_int.ensures c.if-not-one_int.false) c.branch-t.ensures
