use Rattle.running.specs.Popping.{results_none, results_one}
use Rattle.running.proofs.popping.result_count.Goals as goal

pub returns-then-v-eq256 : goal.returns-then-v-eq256
returns-then-v-eq256 c = results_none _ _ _ c.result_at-v.ensures.0 c.if-v-eq256.true

pub returns : goal.returns
returns c = results_one _ _ _ c.result_at-v.ensures.0 c.if-v-eq256.false
