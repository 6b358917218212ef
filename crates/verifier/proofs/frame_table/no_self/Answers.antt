use Rattle.std.proofs.Common.{arith}
use Rattle.verifier.specs.RowWrites.{self_start, self_end, self_hit, self_more}
use Rattle.verifier.proofs.frame_table.no_self.Goals as goal

pub loop-i-init : goal.loop-i-init
loop-i-init c = (omega arith, self_start _ _ _)

pub overflow_add-a : goal.overflow_add-a
overflow_add-a c = omega arith

pub returns-then-is_uninit : goal.returns-then-is_uninit
returns-then-is_uninit c = self_hit _ _ _ _ _ c.loop-i.invariant.1 c.loop-i-test.true _ _ _ c.word.ensures c.uninit_this.ensures c.is_uninit.ensures c.if-is_uninit.true

pub loop-i-preserved : goal.loop-i-preserved
loop-i-preserved c = (omega arith, self_more _ _ _ _ _ c.loop-i.invariant.1 c.loop-i-test.true _ _ _ c.word.ensures c.uninit_this.ensures c.is_uninit.ensures c.if-is_uninit.false)

pub returns : goal.returns
returns c = self_end _ _ _ _ _ c.loop-i.invariant.1 c.loop-i-test.false
