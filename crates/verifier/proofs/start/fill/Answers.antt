use Rattle.verifier.specs.Starts.{filled_none, filled_more}
use Rattle.std.proofs.Common.{◌≡◌, refl, ◌∙◌, arith}
use Rattle.verifier.proofs.start.fill.Goals as goal

pub loop-j-init : goal.loop-j-init
loop-j-init c = (refl, omega arith, filled_none _ _)

pub overflow_add-j : goal.overflow_add-j
overflow_add-j c = omega arith

pub loop-j-preserved : goal.loop-j-preserved
loop-j-preserved c = (c.put_word.auto.s ∙ c.loop-j.invariant.0, omega arith, filled_more _ _ _ _ c.loop-j.invariant.2 c.requires.0 c.requires.1 _ _ c.local_type-w.ensures c.put_word.ensures (omega arith) (omega arith))

pub returns : goal.returns
returns c = let e : c.loop-j.j ≡ c.args.n = omega arith in rw e at c.loop-j.invariant.2
