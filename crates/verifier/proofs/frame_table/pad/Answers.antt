use Rattle.std.proofs.Common.{arith, ◌≡◌, refl, ◌∙◌}
use Rattle.verifier.specs.RowWrites.{topped_none, topped_more}
use Rattle.verifier.proofs.frame_table.pad.Goals as goal

pub loop-i-init : goal.loop-i-init
loop-i-init c = (refl, omega arith, topped_none _ _)

pub overflow_add-a : goal.overflow_add-a
overflow_add-a c = omega arith

pub loop-i-preserved : goal.loop-i-preserved
loop-i-preserved c = (c.put_word.auto.s ∙ c.loop-i.invariant.0, omega arith, topped_more _ _ _ _ _ c.loop-i.invariant.2 (omega arith) c.put_word.ensures)

pub returns : goal.returns
returns c = let e : c.loop-i.i ≡ c.args.n = omega arith in rw e at c.loop-i.invariant.2
