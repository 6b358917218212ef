use Rattle.verifier.specs.Quick.{pushed_none, pushed_on}
use Rattle.verifier.proofs.quick.push.Goals as goal

pub returns-then-is_err : goal.returns-then-is_err
returns-then-is_err c = pushed_none _ _ _ _

pub returns : goal.returns
returns c = pushed_on _ _ _ _ _ _ _ c.room.ensures c.if-is_err.ensures.value c.put-g.ensures.0 c.put-g.ensures.1 c.put-g.ensures.2
