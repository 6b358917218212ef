use Rattle.verifier.specs.Starts.{local_static, local_receiver, local_param}
use Rattle.verifier.proofs.start.local_type.Goals as goal

pub returns-then-x : goal.returns-then-x
returns-then-x c = local_static _ _ _ _ c.if-x.true c.param_type.ensures

pub returns-then-j-eq0 : goal.returns-then-j-eq0
returns-then-j-eq0 c = local_receiver _ _ _ _ c.if-x.false c.if-j-eq0.true c.receiver.ensures

pub returns : goal.returns
returns c = local_param _ _ _ _ c.if-x.false c.if-j-eq0.false c.param_type-2.ensures
