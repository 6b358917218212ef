use Rattle.running.specs.Entry.{laid_none, laid_more}
use Rattle.std.proofs.Common.{refl, ◌∙◌, arith, length-set}
use Rattle.running.proofs.entry.lay.Goals as goal

pub loop-i-init : goal.loop-i-init
loop-i-init c = (laid_none _ _ _, refl, refl)

pub loop-i-preserved : goal.loop-i-preserved
loop-i-preserved c = (laid_more c.args.args.now c.loop-i.s c.loop-i.g c.loop-i.i _ (omega (arith, c.loop-i-test.true, c.loop-i.invariant.1, c.requires)) (omega (arith, c.loop-i-test.true, c.loop-i.invariant.2, c.requires)) refl c.loop-i.invariant.0, length-set c.loop-i.s c.loop-i.i _ ∙ c.loop-i.invariant.1, length-set c.loop-i.g c.loop-i.i _ ∙ c.loop-i.invariant.2)
