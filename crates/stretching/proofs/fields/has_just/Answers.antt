use Rattle.kit.specs.Bools.{not_so}
use Rattle.stretching.specs.Fields.{slot-fits, slot_some}
use Rattle.stretching.proofs.fields.has_just.Goals as goal

pub returns-then-v-ne-REF : goal.returns-then-v-ne-REF
returns-then-v-ne-REF c = λ e. absurd (not_so e)

pub returns-then-v-eq0 : goal.returns-then-v-eq0
returns-then-v-eq0 c = λ e. absurd (not_so e)

pub returns : goal.returns
returns c = λ z. (slot-fits _ _ c.if-v-ne-REF.false c.if-v-eq0.false _ _ (c.is_just.ensures z), slot_some _ _ c.if-v-ne-REF.false c.if-v-eq0.false)
