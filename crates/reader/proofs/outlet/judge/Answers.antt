use Rattle.reader.specs.Outlet.{too_short, read_pass, read_fail}
use Rattle.reader.proofs.outlet.judge.Goals as goal

pub returns-then-t-lt262144 : goal.returns-then-t-lt262144
returns-then-t-lt262144 c = too_short c.args.s.now c.args.t.now c.if-t-lt262144.true

pub returns-in-Ok : goal.returns-in-Ok
returns-in-Ok c = read_pass c.args.s.now c.args.t.now c.read-r.new.t _ c.if-t-lt262144.false c.read-r.auto.t c.clear.ensures _ c.in-Ok.ensures

pub returns-in-Err : goal.returns-in-Err
returns-in-Err c = read_fail c.args.s.now c.args.t.now c.read-r.new.t _ c.if-t-lt262144.false c.read-r.auto.t c.clear.ensures _ c.in-Err.ensures _ c.from.ensures
