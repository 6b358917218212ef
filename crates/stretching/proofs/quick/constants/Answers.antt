use Rattle.std.proofs.Common.{refl, sym, ◌∙◌, arith}
use Rattle.rules.specs.Opcodes.{rows, row_in, row_of}
use Rattle.rules.specs.Decoding.{made}
use Rattle.plain.specs.HeapTurns.{windowed}
use Rattle.stretching.specs.Quick.{ready-sized, quick_arm}
use Rattle.stretching.proofs.quick.constants.Goals as goal

pub nop-requires : goal.nop-requires
nop-requires c = ready-sized _ _ _ _ _ _ _ _ _ _ c.requires.0 c.place.ensures

pub null-requires : goal.null-requires
null-requires c = ready-sized _ _ _ _ _ _ _ _ _ _ c.requires.0 c.place-in-1.ensures

pub constant-requires : goal.constant-requires
constant-requires c = ready-sized _ _ _ _ _ _ _ _ _ _ c.requires.0 c.place-in-2.ensures

pub constant-requires-in-3 : goal.constant-requires-in-3
constant-requires-in-3 c = ready-sized _ _ _ _ _ _ _ _ _ _ c.requires.0 c.place-in-3.ensures

pub constant-requires-in-4 : goal.constant-requires-in-4
constant-requires-in-4 c = ready-sized _ _ _ _ _ _ _ _ _ _ c.requires.0 c.place-in-4.ensures

pub constant-requires-in-5 : goal.constant-requires-in-5
constant-requires-in-5 c = ready-sized _ _ _ _ _ _ _ _ _ _ c.requires.0 c.place-in-5.ensures

pub constant-requires-in-6 : goal.constant-requires-in-6
constant-requires-in-6 c = ready-sized _ _ _ _ _ _ _ _ _ _ c.requires.0 c.place-in-6.ensures

pub constant-requires-in-7 : goal.constant-requires-in-7
constant-requires-in-7 c = ready-sized _ _ _ _ _ _ _ _ _ _ c.requires.0 c.place-in-7.ensures

pub constant-requires-in-8 : goal.constant-requires-in-8
constant-requires-in-8 c = ready-sized _ _ _ _ _ _ _ _ _ _ c.requires.0 c.place-in-8.ensures

pub constant-requires-in-16 : goal.constant-requires-in-16
constant-requires-in-16 c = ready-sized _ _ _ _ _ _ _ _ _ _ c.requires.0 c.place-in-16.ensures

pub constant-requires-in-17 : goal.constant-requires-in-17
constant-requires-in-17 c = ready-sized _ _ _ _ _ _ _ _ _ _ c.requires.0 c.place-in-17.ensures

pub returns-in-0 : goal.returns-in-0
unfolding made row_of row_in rows
returns-in-0 c = quick_arm _ _ _ _ _ _ _ _ _ _ 1 _ _ _ _ _ _ _ 0x00 (sym c.requires.1 ∙ c.in-0.is) refl (omega arith) tt (λ P. refl) refl c.place.ensures (windowed _ _ _ _ _ _ _ _ _ c.nop.ensures)

pub returns-in-1 : goal.returns-in-1
unfolding made row_of row_in rows
returns-in-1 c = quick_arm _ _ _ _ _ _ _ _ _ _ 1 _ _ _ _ _ _ _ 0x01 (sym c.requires.1 ∙ c.in-1.is) refl (omega arith) tt (λ P. refl) refl c.place-in-1.ensures (windowed _ _ _ _ _ _ _ _ _ c.null.ensures)

pub returns-in-2 : goal.returns-in-2
unfolding made row_of row_in rows
returns-in-2 c = quick_arm _ _ _ _ _ _ _ _ _ _ 1 _ _ _ _ _ _ _ 0x02 (sym c.requires.1 ∙ c.in-2.is) refl (omega arith) tt (λ P. refl) refl c.place-in-2.ensures (windowed _ _ _ _ _ _ _ _ _ c.constant.ensures)

pub returns-in-3 : goal.returns-in-3
unfolding made row_of row_in rows
returns-in-3 c = quick_arm _ _ _ _ _ _ _ _ _ _ 1 _ _ _ _ _ _ _ 0x03 (sym c.requires.1 ∙ c.in-3.is) refl (omega arith) tt (λ P. refl) refl c.place-in-3.ensures (windowed _ _ _ _ _ _ _ _ _ c.constant-in-3.ensures)

pub returns-in-4 : goal.returns-in-4
unfolding made row_of row_in rows
returns-in-4 c = quick_arm _ _ _ _ _ _ _ _ _ _ 1 _ _ _ _ _ _ _ 0x04 (sym c.requires.1 ∙ c.in-4.is) refl (omega arith) tt (λ P. refl) refl c.place-in-4.ensures (windowed _ _ _ _ _ _ _ _ _ c.constant-in-4.ensures)

pub returns-in-5 : goal.returns-in-5
unfolding made row_of row_in rows
returns-in-5 c = quick_arm _ _ _ _ _ _ _ _ _ _ 1 _ _ _ _ _ _ _ 0x05 (sym c.requires.1 ∙ c.in-5.is) refl (omega arith) tt (λ P. refl) refl c.place-in-5.ensures (windowed _ _ _ _ _ _ _ _ _ c.constant-in-5.ensures)

pub returns-in-6 : goal.returns-in-6
unfolding made row_of row_in rows
returns-in-6 c = quick_arm _ _ _ _ _ _ _ _ _ _ 1 _ _ _ _ _ _ _ 0x06 (sym c.requires.1 ∙ c.in-6.is) refl (omega arith) tt (λ P. refl) refl c.place-in-6.ensures (windowed _ _ _ _ _ _ _ _ _ c.constant-in-6.ensures)

pub returns-in-7 : goal.returns-in-7
unfolding made row_of row_in rows
returns-in-7 c = quick_arm _ _ _ _ _ _ _ _ _ _ 1 _ _ _ _ _ _ _ 0x07 (sym c.requires.1 ∙ c.in-7.is) refl (omega arith) tt (λ P. refl) refl c.place-in-7.ensures (windowed _ _ _ _ _ _ _ _ _ c.constant-in-7.ensures)

pub returns-in-8 : goal.returns-in-8
unfolding made row_of row_in rows
returns-in-8 c = quick_arm _ _ _ _ _ _ _ _ _ _ 1 _ _ _ _ _ _ _ 0x08 (sym c.requires.1 ∙ c.in-8.is) refl (omega arith) tt (λ P. refl) refl c.place-in-8.ensures (windowed _ _ _ _ _ _ _ _ _ c.constant-in-8.ensures)

pub returns-in-16 : goal.returns-in-16
unfolding made row_of row_in rows
returns-in-16 c = quick_arm _ _ _ _ _ _ _ _ _ _ 2 _ _ _ _ _ _ _ 0x10 (sym c.requires.1 ∙ c.in-16.is) refl (omega arith) tt (λ P. sym (rw (c.spread_byte.ensures, c.first.ensures))) refl c.place-in-16.ensures (windowed _ _ _ _ _ _ _ _ _ c.constant-in-16.ensures)

pub returns-in-17 : goal.returns-in-17
unfolding made row_of row_in rows
returns-in-17 c = quick_arm _ _ _ _ _ _ _ _ _ _ 3 _ _ _ _ _ _ _ 0x11 (sym c.requires.1 ∙ c.in-17.is) refl (omega arith) tt (λ P. sym (rw (c.spread_half.ensures, c.bytes.ensures))) refl c.place-in-17.ensures (windowed _ _ _ _ _ _ _ _ _ c.constant-in-17.ensures)
