use Rattle.verifier.specs.Callees.{back_past, back_none, back_some, back-nothing, back_value}
use Rattle.verifier.proofs.callees.back_of.Goals as goal

pub returns-then-k-ge1024 : goal.returns-then-k-ge1024
returns-then-k-ge1024 c = back-nothing _ (back_past _ _ c.if-k-ge1024.true)

pub returns-then-v-eq256 : goal.returns-then-v-eq256
returns-then-v-eq256 c = back-nothing _ (back_none _ _ c.if-k-ge1024.false _ c.result_at-v.ensures.0 c.if-v-eq256.true)

pub returns : goal.returns
returns c = back_value _ _ _ (back_some _ _ c.if-k-ge1024.false _ c.result_at-v.ensures.0 c.if-v-eq256.false) c.described.ensures.0 c.described.ensures.1
