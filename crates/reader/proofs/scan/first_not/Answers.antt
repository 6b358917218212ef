use Rattle.std.proofs.Common.{◌≡◌, ◌∙◌, sym, arith}
use Rattle.kit.specs.Scan.{scans, hit_by, next_by, past}
use Rattle.reader.proofs.scan.first_not.Goals as goal

pub loop-i-init : goal.loop-i-init
loop-i-init g c = λ f h. search scans depth 6

pub returns-then-not-test : goal.returns-then-not-test
returns-then-not-test g c = λ f h. hit_by f c.args.n c.loop-i.i _ c.test.result (c.loop-i.invariant f h) c.loop-i-test.true c.if-not-test.true (h c.loop-i.i c.test.result c.loop-i-test.true c.test.ensures)

pub loop-i-preserved : goal.loop-i-preserved
loop-i-preserved g c = λ f h. next_by f c.args.n c.loop-i.i _ c.test.result (c.loop-i.invariant f h) c.loop-i-test.true c.if-not-test.false (h c.loop-i.i c.test.result c.loop-i-test.true c.test.ensures)

pub returns : goal.returns
returns g c = λ f h. let e : c.loop-i.i ≡ c.args.n = omega arith in sym e ∙ past f c.args.n c.loop-i.i _ (c.loop-i.invariant f h) c.loop-i-test.false
