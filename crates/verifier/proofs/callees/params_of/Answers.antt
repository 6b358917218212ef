use Rattle.verifier.specs.Callees.{ready_none, ready_some}
use Rattle.std.proofs.Common.{refl}
use Rattle.verifier.proofs.callees.params_of.Goals as goal

pub returns-then-k-ge1024 : goal.returns-then-k-ge1024
returns-then-k-ge1024 c = ready_none _ _ _ refl c.if-k-ge1024.true

pub returns : goal.returns
returns c = ready_some _ _ _ _ _ refl c.if-k-ge1024.false c.param_count-n.ensures.0 c.param_count-n.ensures.1 c.write_params.ensures.0 c.write_params.ensures.1
