use Rattle.std.proofs.Common.{refl, sym, ◌∙◌, arith}
use Rattle.rules.specs.Opcodes.{rows, row_in, row_of}
use Rattle.rules.specs.Decoding.{made}
use Rattle.plain.specs.HeapTurns.{windowed}
use Rattle.stretching.specs.Quick.{ready-sized, quick_arm}
use Rattle.stretching.proofs.quick.stores.Goals as goal

pub store_int-requires : goal.store_int-requires
store_int-requires c = ready-sized _ _ _ _ _ _ _ _ _ _ c.requires.0 c.place.ensures

pub store_ref-requires : goal.store_ref-requires
store_ref-requires c = ready-sized _ _ _ _ _ _ _ _ _ _ c.requires.0 c.place-in-58.ensures

pub store_int-requires-in-59 : goal.store_int-requires-in-59
store_int-requires-in-59 c = ready-sized _ _ _ _ _ _ _ _ _ _ c.requires.0 c.place-in-59.ensures

pub store_int-requires-in-60 : goal.store_int-requires-in-60
store_int-requires-in-60 c = ready-sized _ _ _ _ _ _ _ _ _ _ c.requires.0 c.place-in-60.ensures

pub store_int-requires-in-61 : goal.store_int-requires-in-61
store_int-requires-in-61 c = ready-sized _ _ _ _ _ _ _ _ _ _ c.requires.0 c.place-in-61.ensures

pub store_int-requires-in-62 : goal.store_int-requires-in-62
store_int-requires-in-62 c = ready-sized _ _ _ _ _ _ _ _ _ _ c.requires.0 c.place-in-62.ensures

pub store_ref-requires-in-75 : goal.store_ref-requires-in-75
store_ref-requires-in-75 c = ready-sized _ _ _ _ _ _ _ _ _ _ c.requires.0 c.place-in-75.ensures

pub store_ref-requires-in-76 : goal.store_ref-requires-in-76
store_ref-requires-in-76 c = ready-sized _ _ _ _ _ _ _ _ _ _ c.requires.0 c.place-in-76.ensures

pub store_ref-requires-in-77 : goal.store_ref-requires-in-77
store_ref-requires-in-77 c = ready-sized _ _ _ _ _ _ _ _ _ _ c.requires.0 c.place-in-77.ensures

pub store_ref-requires-in-78 : goal.store_ref-requires-in-78
store_ref-requires-in-78 c = ready-sized _ _ _ _ _ _ _ _ _ _ c.requires.0 c.place-in-78.ensures

pub iastore-requires : goal.iastore-requires
iastore-requires c = (ready-sized _ _ _ _ _ _ _ _ _ _ c.requires.0 c.place-in-79.ensures, c.requires.0.size)

pub length-requires : goal.length-requires
length-requires c = ready-sized _ _ _ _ _ _ _ _ _ _ c.requires.0 c.place-in-190.ensures

pub returns-in-54 : goal.returns-in-54
unfolding made row_of row_in rows
returns-in-54 c = quick_arm _ _ _ _ _ _ _ _ _ _ 2 _ _ _ _ _ _ _ 0x36 (sym c.requires.1 ∙ c.in-54.is) refl (omega arith) tt (λ P. sym (rw c.first.ensures)) refl c.place.ensures (windowed _ _ _ _ _ _ _ _ _ c.store_int.ensures)

pub returns-in-58 : goal.returns-in-58
unfolding made row_of row_in rows
returns-in-58 c = quick_arm _ _ _ _ _ _ _ _ _ _ 2 _ _ _ _ _ _ _ 0x3a (sym c.requires.1 ∙ c.in-58.is) refl (omega arith) tt (λ P. sym (rw c.first-in-58.ensures)) refl c.place-in-58.ensures (windowed _ _ _ _ _ _ _ _ _ c.store_ref.ensures)

pub returns-in-59 : goal.returns-in-59
unfolding made row_of row_in rows
returns-in-59 c = quick_arm _ _ _ _ _ _ _ _ _ _ 1 _ _ _ _ _ _ _ 0x3b (sym c.requires.1 ∙ c.in-59.is) refl (omega arith) tt (λ P. refl) refl c.place-in-59.ensures (windowed _ _ _ _ _ _ _ _ _ c.store_int-in-59.ensures)

pub returns-in-60 : goal.returns-in-60
unfolding made row_of row_in rows
returns-in-60 c = quick_arm _ _ _ _ _ _ _ _ _ _ 1 _ _ _ _ _ _ _ 0x3c (sym c.requires.1 ∙ c.in-60.is) refl (omega arith) tt (λ P. refl) refl c.place-in-60.ensures (windowed _ _ _ _ _ _ _ _ _ c.store_int-in-60.ensures)

pub returns-in-61 : goal.returns-in-61
unfolding made row_of row_in rows
returns-in-61 c = quick_arm _ _ _ _ _ _ _ _ _ _ 1 _ _ _ _ _ _ _ 0x3d (sym c.requires.1 ∙ c.in-61.is) refl (omega arith) tt (λ P. refl) refl c.place-in-61.ensures (windowed _ _ _ _ _ _ _ _ _ c.store_int-in-61.ensures)

pub returns-in-62 : goal.returns-in-62
unfolding made row_of row_in rows
returns-in-62 c = quick_arm _ _ _ _ _ _ _ _ _ _ 1 _ _ _ _ _ _ _ 0x3e (sym c.requires.1 ∙ c.in-62.is) refl (omega arith) tt (λ P. refl) refl c.place-in-62.ensures (windowed _ _ _ _ _ _ _ _ _ c.store_int-in-62.ensures)

pub returns-in-75 : goal.returns-in-75
unfolding made row_of row_in rows
returns-in-75 c = quick_arm _ _ _ _ _ _ _ _ _ _ 1 _ _ _ _ _ _ _ 0x4b (sym c.requires.1 ∙ c.in-75.is) refl (omega arith) tt (λ P. refl) refl c.place-in-75.ensures (windowed _ _ _ _ _ _ _ _ _ c.store_ref-in-75.ensures)

pub returns-in-76 : goal.returns-in-76
unfolding made row_of row_in rows
returns-in-76 c = quick_arm _ _ _ _ _ _ _ _ _ _ 1 _ _ _ _ _ _ _ 0x4c (sym c.requires.1 ∙ c.in-76.is) refl (omega arith) tt (λ P. refl) refl c.place-in-76.ensures (windowed _ _ _ _ _ _ _ _ _ c.store_ref-in-76.ensures)

pub returns-in-77 : goal.returns-in-77
unfolding made row_of row_in rows
returns-in-77 c = quick_arm _ _ _ _ _ _ _ _ _ _ 1 _ _ _ _ _ _ _ 0x4d (sym c.requires.1 ∙ c.in-77.is) refl (omega arith) tt (λ P. refl) refl c.place-in-77.ensures (windowed _ _ _ _ _ _ _ _ _ c.store_ref-in-77.ensures)

pub returns-in-78 : goal.returns-in-78
unfolding made row_of row_in rows
returns-in-78 c = quick_arm _ _ _ _ _ _ _ _ _ _ 1 _ _ _ _ _ _ _ 0x4e (sym c.requires.1 ∙ c.in-78.is) refl (omega arith) tt (λ P. refl) refl c.place-in-78.ensures (windowed _ _ _ _ _ _ _ _ _ c.store_ref-in-78.ensures)

pub returns-in-79 : goal.returns-in-79
unfolding made row_of row_in rows
returns-in-79 c = quick_arm _ _ _ _ _ _ _ _ _ _ 1 _ _ _ _ _ _ _ 0x4f (sym c.requires.1 ∙ c.in-79.is) refl (omega arith) tt (λ P. refl) c.kin.ensures c.place-in-79.ensures c.iastore.ensures

pub returns-in-190 : goal.returns-in-190
unfolding made row_of row_in rows
returns-in-190 c = quick_arm _ _ _ _ _ _ _ _ _ _ 1 _ _ _ _ _ _ _ 0xbe (sym c.requires.1 ∙ c.in-190.is) refl (omega arith) tt (λ P. refl) c.kin-in-190.ensures c.place-in-190.ensures c.length.ensures
