use Rattle.std.proofs.Common.{refl, sym, ◌∙◌, arith}
use Rattle.rules.specs.Opcodes.{rows, row_in, row_of}
use Rattle.rules.specs.Decoding.{made}
use Rattle.plain.specs.HeapTurns.{windowed}
use Rattle.stretching.specs.Quick.{ready-sized, quick_arm}
use Rattle.stretching.proofs.quick.loads.Goals as goal

pub load_int-requires : goal.load_int-requires
load_int-requires c = ready-sized _ _ _ _ _ _ _ _ _ _ c.requires.0 c.place.ensures

pub load_ref-requires : goal.load_ref-requires
load_ref-requires c = ready-sized _ _ _ _ _ _ _ _ _ _ c.requires.0 c.place-in-25.ensures

pub load_int-requires-in-26 : goal.load_int-requires-in-26
load_int-requires-in-26 c = ready-sized _ _ _ _ _ _ _ _ _ _ c.requires.0 c.place-in-26.ensures

pub load_int-requires-in-27 : goal.load_int-requires-in-27
load_int-requires-in-27 c = ready-sized _ _ _ _ _ _ _ _ _ _ c.requires.0 c.place-in-27.ensures

pub load_int-requires-in-28 : goal.load_int-requires-in-28
load_int-requires-in-28 c = ready-sized _ _ _ _ _ _ _ _ _ _ c.requires.0 c.place-in-28.ensures

pub load_int-requires-in-29 : goal.load_int-requires-in-29
load_int-requires-in-29 c = ready-sized _ _ _ _ _ _ _ _ _ _ c.requires.0 c.place-in-29.ensures

pub load_ref-requires-in-42 : goal.load_ref-requires-in-42
load_ref-requires-in-42 c = ready-sized _ _ _ _ _ _ _ _ _ _ c.requires.0 c.place-in-42.ensures

pub load_ref-requires-in-43 : goal.load_ref-requires-in-43
load_ref-requires-in-43 c = ready-sized _ _ _ _ _ _ _ _ _ _ c.requires.0 c.place-in-43.ensures

pub load_ref-requires-in-44 : goal.load_ref-requires-in-44
load_ref-requires-in-44 c = ready-sized _ _ _ _ _ _ _ _ _ _ c.requires.0 c.place-in-44.ensures

pub load_ref-requires-in-45 : goal.load_ref-requires-in-45
load_ref-requires-in-45 c = ready-sized _ _ _ _ _ _ _ _ _ _ c.requires.0 c.place-in-45.ensures

pub iaload-requires : goal.iaload-requires
iaload-requires c = ready-sized _ _ _ _ _ _ _ _ _ _ c.requires.0 c.place-in-46.ensures

pub aaload-requires : goal.aaload-requires
aaload-requires c = ready-sized _ _ _ _ _ _ _ _ _ _ c.requires.0 c.place-in-50.ensures

pub returns-in-21 : goal.returns-in-21
unfolding made row_of row_in rows
returns-in-21 c = quick_arm _ _ _ _ _ _ _ _ _ _ 2 _ _ _ _ _ _ _ 0x15 (sym c.requires.1 ∙ c.in-21.is) refl (omega arith) tt (λ P. sym (rw c.first.ensures)) refl c.place.ensures (windowed _ _ _ _ _ _ _ _ _ c.load_int.ensures)

pub returns-in-25 : goal.returns-in-25
unfolding made row_of row_in rows
returns-in-25 c = quick_arm _ _ _ _ _ _ _ _ _ _ 2 _ _ _ _ _ _ _ 0x19 (sym c.requires.1 ∙ c.in-25.is) refl (omega arith) tt (λ P. sym (rw c.first-in-25.ensures)) refl c.place-in-25.ensures (windowed _ _ _ _ _ _ _ _ _ c.load_ref.ensures)

pub returns-in-26 : goal.returns-in-26
unfolding made row_of row_in rows
returns-in-26 c = quick_arm _ _ _ _ _ _ _ _ _ _ 1 _ _ _ _ _ _ _ 0x1a (sym c.requires.1 ∙ c.in-26.is) refl (omega arith) tt (λ P. refl) refl c.place-in-26.ensures (windowed _ _ _ _ _ _ _ _ _ c.load_int-in-26.ensures)

pub returns-in-27 : goal.returns-in-27
unfolding made row_of row_in rows
returns-in-27 c = quick_arm _ _ _ _ _ _ _ _ _ _ 1 _ _ _ _ _ _ _ 0x1b (sym c.requires.1 ∙ c.in-27.is) refl (omega arith) tt (λ P. refl) refl c.place-in-27.ensures (windowed _ _ _ _ _ _ _ _ _ c.load_int-in-27.ensures)

pub returns-in-28 : goal.returns-in-28
unfolding made row_of row_in rows
returns-in-28 c = quick_arm _ _ _ _ _ _ _ _ _ _ 1 _ _ _ _ _ _ _ 0x1c (sym c.requires.1 ∙ c.in-28.is) refl (omega arith) tt (λ P. refl) refl c.place-in-28.ensures (windowed _ _ _ _ _ _ _ _ _ c.load_int-in-28.ensures)

pub returns-in-29 : goal.returns-in-29
unfolding made row_of row_in rows
returns-in-29 c = quick_arm _ _ _ _ _ _ _ _ _ _ 1 _ _ _ _ _ _ _ 0x1d (sym c.requires.1 ∙ c.in-29.is) refl (omega arith) tt (λ P. refl) refl c.place-in-29.ensures (windowed _ _ _ _ _ _ _ _ _ c.load_int-in-29.ensures)

pub returns-in-42 : goal.returns-in-42
unfolding made row_of row_in rows
returns-in-42 c = quick_arm _ _ _ _ _ _ _ _ _ _ 1 _ _ _ _ _ _ _ 0x2a (sym c.requires.1 ∙ c.in-42.is) refl (omega arith) tt (λ P. refl) refl c.place-in-42.ensures (windowed _ _ _ _ _ _ _ _ _ c.load_ref-in-42.ensures)

pub returns-in-43 : goal.returns-in-43
unfolding made row_of row_in rows
returns-in-43 c = quick_arm _ _ _ _ _ _ _ _ _ _ 1 _ _ _ _ _ _ _ 0x2b (sym c.requires.1 ∙ c.in-43.is) refl (omega arith) tt (λ P. refl) refl c.place-in-43.ensures (windowed _ _ _ _ _ _ _ _ _ c.load_ref-in-43.ensures)

pub returns-in-44 : goal.returns-in-44
unfolding made row_of row_in rows
returns-in-44 c = quick_arm _ _ _ _ _ _ _ _ _ _ 1 _ _ _ _ _ _ _ 0x2c (sym c.requires.1 ∙ c.in-44.is) refl (omega arith) tt (λ P. refl) refl c.place-in-44.ensures (windowed _ _ _ _ _ _ _ _ _ c.load_ref-in-44.ensures)

pub returns-in-45 : goal.returns-in-45
unfolding made row_of row_in rows
returns-in-45 c = quick_arm _ _ _ _ _ _ _ _ _ _ 1 _ _ _ _ _ _ _ 0x2d (sym c.requires.1 ∙ c.in-45.is) refl (omega arith) tt (λ P. refl) refl c.place-in-45.ensures (windowed _ _ _ _ _ _ _ _ _ c.load_ref-in-45.ensures)

pub returns-in-46 : goal.returns-in-46
unfolding made row_of row_in rows
returns-in-46 c = quick_arm _ _ _ _ _ _ _ _ _ _ 1 _ _ _ _ _ _ _ 0x2e (sym c.requires.1 ∙ c.in-46.is) refl (omega arith) tt (λ P. refl) c.kin.ensures c.place-in-46.ensures c.iaload.ensures

pub returns-in-50 : goal.returns-in-50
unfolding made row_of row_in rows
returns-in-50 c = quick_arm _ _ _ _ _ _ _ _ _ _ 1 _ _ _ _ _ _ _ 0x32 (sym c.requires.1 ∙ c.in-50.is) refl (omega arith) tt (λ P. refl) c.kin-in-50.ensures c.place-in-50.ensures c.aaload.ensures
