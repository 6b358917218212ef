use Rattle.shaping.specs.Verified.{wrong_result, right_result}
use Rattle.verifier.proofs.verify.flosquedo_verify.Goals as goal

pub returns-then-res-ne64 : goal.returns-then-res-ne64
returns-then-res-ne64 c = wrong_result c.args.bundle.now c.args.scratch.now c.args.res.now c.if-res-ne64.true

pub returns : goal.returns
returns c = right_result c.args.bundle.now c.args.scratch.now c.verify-a.new.t c.args.res.now _ c.verify-a.result c.if-res-ne64.false c.verify-a.ensures c.put_result.ensures
