use Rattle.std.proofs.Common.{refl, subst, arith}
use Rattle.plain.specs.NextWindow.{Carried, carry_none, carry_more}
use Rattle.plain.proofs.frames.carry.Goals as goal

pub loop-i-init : goal.loop-i-init
loop-i-init c = (omega arith, (carry_none _ _ _, carry_none _ _ _))

pub loop-i-preserved : goal.loop-i-preserved
loop-i-preserved c = (omega arith, (carry_more _ _ _ _ _ _ (omega arith) (omega arith) refl c.loop-i.invariant.1.0, carry_more _ _ _ _ _ _ (omega arith) (omega arith) refl c.loop-i.invariant.1.1))

pub shape_of-s : goal.shape_of-s
shape_of-s c = c.loop-i.invariant.1.0.size

pub shape_of-g : goal.shape_of-g
shape_of-g c = c.loop-i.invariant.1.1.size

pub returns : goal.returns
returns c = (subst (Carried _ _ _ _) (omega arith) c.loop-i.invariant.1.0, subst (Carried _ _ _ _) (omega arith) c.loop-i.invariant.1.1)
