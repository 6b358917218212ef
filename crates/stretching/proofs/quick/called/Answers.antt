use Rattle.std.proofs.Common.{refl, sym, ◌∙◌, arith}
use Rattle.rules.specs.Opcodes.{rows, row_in, row_of}
use Rattle.rules.specs.Decoding.{made}
use Rattle.stretching.specs.Quick.{ready-sized, quick_arm}
use Rattle.stretching.proofs.quick.called.Goals as goal

pub aastore-requires : goal.aastore-requires
aastore-requires c = (ready-sized _ _ _ _ _ _ _ _ _ _ c.requires.0 c.place.ensures, c.requires.0.size)

pub if_same-requires : goal.if_same-requires
if_same-requires c = ready-sized _ _ _ _ _ _ _ _ _ _ c.requires.0 c.place-in-165.ensures

pub if_same-requires-in-166 : goal.if_same-requires-in-166
if_same-requires-in-166 c = ready-sized _ _ _ _ _ _ _ _ _ _ c.requires.0 c.place-in-166.ensures

pub returns-in-83 : goal.returns-in-83
unfolding made row_of row_in rows
returns-in-83 c = quick_arm _ _ _ _ _ _ _ _ _ _ 1 _ _ _ _ _ _ _ 0x53 (sym c.requires.1 ∙ c.in-83.is) refl (omega arith) tt (λ P. refl) c.kin.ensures c.place.ensures c.aastore.ensures

pub returns-in-165 : goal.returns-in-165
unfolding made row_of row_in rows
returns-in-165 c = quick_arm _ _ _ _ _ _ _ _ _ _ 3 _ _ _ _ _ _ _ 0xa5 (sym c.requires.1 ∙ c.in-165.is) refl (omega arith) (omega (arith, c.target.ensures)) (λ P. sym (rw (c.target.ensures, c.bytes.ensures))) c.kin-in-165.ensures c.place-in-165.ensures c.if_same.ensures

pub returns-in-166 : goal.returns-in-166
unfolding made row_of row_in rows
returns-in-166 c = quick_arm _ _ _ _ _ _ _ _ _ _ 3 _ _ _ _ _ _ _ 0xa6 (sym c.requires.1 ∙ c.in-166.is) refl (omega arith) (omega (arith, c.target-in-166.ensures)) (λ P. sym (rw (c.target-in-166.ensures, c.bytes-in-166.ensures))) c.kin-in-166.ensures c.place-in-166.ensures c.if_same-in-166.ensures
