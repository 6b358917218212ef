use Rattle.kit.specs.Bools.{not_so}
use Rattle.stretching.specs.Fields.{slot-fits, number_fits, reference-fits, null-fits}
use Rattle.stretching.proofs.fields.fits_just.Goals as goal

pub returns-then-is_int : goal.returns-then-is_int
returns-then-is_int c = λ z. number_fits _ _ _ _ c.is_int.ensures _ _ c.if-is_int.true c.is_num.ensures z

pub returns-then-v-ne-REF : goal.returns-then-v-ne-REF
returns-then-v-ne-REF c = λ e. absurd (not_so e)

pub returns-then-v-eq0 : goal.returns-then-v-eq0
returns-then-v-eq0 c = λ z. null-fits _ _ _ _ c.is_int.ensures _ _ c.if-is_int.false c.if-v-ne-REF.false c.if-v-eq0.true

pub returns : goal.returns
returns c = λ z. reference-fits _ _ _ _ c.is_int.ensures _ c.if-is_int.false (slot-fits _ _ c.if-v-ne-REF.false c.if-v-eq0.false _ _ (c.is_just.ensures z))
