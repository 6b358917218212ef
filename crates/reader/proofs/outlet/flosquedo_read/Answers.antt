use Rattle.reader.specs.Outlet.{wrong_result, right_result}
use Rattle.reader.proofs.outlet.flosquedo_read.Goals as goal

pub returns-then-res-ne64 : goal.returns-then-res-ne64
returns-then-res-ne64 c = wrong_result c.args.bundle.now c.args.scratch.now c.args.res.now c.if-res-ne64.true

pub returns : goal.returns
returns c = right_result c.args.bundle.now c.args.scratch.now c.judge-a.new.t c.args.res.now _ c.judge-a.result c.if-res-ne64.false c.judge-a.ensures c.put_result.ensures
