use Rattle.plain.specs.declared.frames.Frame.{Frame}
use Rattle.plain.specs.CallSteps.{resumed_at}
use Rattle.std.proofs.Common.{ap, arith}
use Rattle.plain.proofs.calls.resumed.Goals as goal

pub overflow_add-result : goal.overflow_add-result
overflow_add-result c = omega (arith, ap (λ (y : Frame). y.offset) c.saved-k.ensures, c.requires.2)

pub overflow_add-result-2 : goal.overflow_add-result-2
overflow_add-result-2 c = omega (arith, ap (λ (y : Frame). y.operands) c.saved-k.ensures, c.requires.3)

pub returns : goal.returns
unfolding resumed_at
returns c = rw c.saved-k.ensures
