use Rattle.verifier.specs.Quick.{numbers_none, numbers_on}
use Rattle.verifier.proofs.quick.numbers.Goals as goal

pub returns-then-not-two_ints : goal.returns-then-not-two_ints
returns-then-not-two_ints c = numbers_none _ _ _

pub returns-then-is_err : goal.returns-then-is_err
returns-then-is_err c = numbers_none _ _ _

pub returns : goal.returns
returns c = numbers_on _ _ _ _ _ _ _ (c.two_ints.ensures c.if-not-two_ints.false) c.room.ensures c.if-is_err.ensures.value c.put-g.ensures.0 c.put-g.ensures.1 c.int.ensures c.put-g.ensures.2
