use Rattle.verifier.specs.QuickCalls.{back_none, back_cut, back_put}
use Rattle.verifier.proofs.quick_calls.give_back.Goals as goal

pub returns-then-is_err : goal.returns-then-is_err
returns-then-is_err c = back_none _ _ _ _ _

pub returns-then-back-eq256 : goal.returns-then-back-eq256
returns-then-back-eq256 c = back_cut _ _ _ _ _ _ c.if-back-eq256.true c.room.ensures c.if-is_err.ensures.value

pub returns-then-is_err-2 : goal.returns-then-is_err-2
returns-then-is_err-2 c = back_none _ _ _ _ _

pub returns : goal.returns
returns c = back_put _ _ _ _ _ _ _ c.put-g.result _ c.if-back-eq256.false c.described.ensures.1 c.room-2.ensures c.if-is_err-2.ensures.value c.put-g.ensures.0 c.put-g.ensures.1 c.put-g.ensures.2
