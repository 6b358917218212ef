use Rattle.verifier.specs.Callees.{beside_none, beside_put, listed_none, listed_put, count_beside, type_beside}
use Rattle.std.proofs.Common.{◌≡◌, refl, ◌∙◌, arith}
use Rattle.verifier.proofs.callees.write_params.Goals as goal

pub loop-i-init : goal.loop-i-init
loop-i-init c = (refl, omega arith, beside_none _ _, listed_none _ _ _ _)

pub param_at-v-requires : goal.param_at-v-requires
param_at-v-requires c = (c.requires.0, count_beside _ _ _ c.loop-i.invariant.2 c.requires.0 _ _ c.requires.1 c.loop-i-test.true)

pub overflow_cast-v : goal.overflow_cast-v
overflow_cast-v c = omega arith

pub overflow_add-i : goal.overflow_add-i
overflow_add-i c = omega arith

pub loop-i-preserved : goal.loop-i-preserved
loop-i-preserved c = (c.put_word.auto.s ∙ c.loop-i.invariant.0, omega arith, beside_put _ _ _ _ _ _ c.loop-i.invariant.2 (omega arith) c.put_word.ensures, listed_put _ _ _ _ _ _ _ c.loop-i.invariant.3 c.put_word.ensures (omega arith) (omega arith) (type_beside _ _ _ c.loop-i.invariant.2 c.requires.0 _ _ _ c.described-w.ensures.1 c.param_at-v.ensures.0))

pub returns : goal.returns
returns c = let e : c.loop-i.i ≡ c.args.n = omega arith in (c.loop-i.invariant.2, rw e at c.loop-i.invariant.3)
