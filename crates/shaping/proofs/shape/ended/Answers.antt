use Rattle.shaping.specs.ShapeWhole.{ended_first, ended-second}
use Rattle.shaping.proofs.shape.ended.Goals as goal

pub returns-in_err-references : goal.returns-in_err-references
returns-in_err-references c = ended_first c.args.s.now c.args.t.now c.args.x _ _ c.in_err-references.ensures c.from_residual.ensures.1

pub returns : goal.returns
returns c = ended-second c.args.s.now c.args.t.now c.args.x _ c.in_ok-references.ensures c.handlers.ensures
