use Rattle.verifier.specs.JudgingLaws.{topless_start, topless_end, topless_stop, topless_next}
use Rattle.verifier.proofs.frame_forms.no_top.Goals as goal

pub loop-i-init : goal.loop-i-init
loop-i-init c = topless_start c.args.t.now 65216 c.args.n

pub returns-then-is_top : goal.returns-then-is_top
returns-then-is_top c = topless_stop c.args.t.now 65216 c.args.n c.loop-i.i _ c.loop-i.invariant c.loop-i-test.true _ c.word.ensures _ c.is_top.ensures c.if-is_top.true

pub loop-i-preserved : goal.loop-i-preserved
loop-i-preserved c = topless_next c.args.t.now 65216 c.args.n c.loop-i.i _ c.loop-i.invariant c.loop-i-test.true _ c.word.ensures _ c.is_top.ensures c.if-is_top.false

pub returns : goal.returns
returns c = topless_end c.args.t.now 65216 c.args.n c.loop-i.i _ c.loop-i.invariant c.loop-i-test.false
