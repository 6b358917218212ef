use Rattle.std.proofs.Common.{refl, sym, ◌∙◌, arith}
use Rattle.rules.specs.Opcodes.{rows, row_in, row_of}
use Rattle.rules.specs.Decoding.{made}
use Rattle.stretching.specs.Quick.{ready-sized, quick_arm}
use Rattle.stretching.proofs.quick.others.Goals as goal

pub get_field-requires : goal.get_field-requires
get_field-requires c = (c.requires.0, sym c.requires.1 ∙ c.in-180.is)

pub put_field-requires : goal.put_field-requires
put_field-requires c = (c.requires.0, sym c.requires.1 ∙ c.in-181.is)

pub if_null-requires : goal.if_null-requires
if_null-requires c = ready-sized _ _ _ _ _ _ _ _ _ _ c.requires.0 c.place.ensures

pub if_null-requires-in-199 : goal.if_null-requires-in-199
if_null-requires-in-199 c = ready-sized _ _ _ _ _ _ _ _ _ _ c.requires.0 c.place-in-199.ensures

pub returns-in-198 : goal.returns-in-198
unfolding made row_of row_in rows
returns-in-198 c = quick_arm _ _ _ _ _ _ _ _ _ _ 3 _ _ _ _ _ _ _ 0xc6 (sym c.requires.1 ∙ c.in-198.is) refl (omega arith) (omega (arith, c.target.ensures)) (λ P. sym (rw (c.target.ensures, c.bytes.ensures))) c.kin.ensures c.place.ensures c.if_null.ensures

pub returns-in-199 : goal.returns-in-199
unfolding made row_of row_in rows
returns-in-199 c = quick_arm _ _ _ _ _ _ _ _ _ _ 3 _ _ _ _ _ _ _ 0xc7 (sym c.requires.1 ∙ c.in-199.is) refl (omega arith) (omega (arith, c.target-in-199.ensures)) (λ P. sym (rw (c.target-in-199.ensures, c.bytes-in-199.ensures))) c.kin-in-199.ensures c.place-in-199.ensures c.if_null-in-199.ensures
