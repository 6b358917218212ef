use Rattle.std.proofs.Common.{refl, sym, ◌∙◌, arith}
use Rattle.rules.specs.Opcodes.{rows, row_in, row_of}
use Rattle.rules.specs.Decoding.{made}
use Rattle.plain.specs.HeapTurns.{windowed}
use Rattle.stretching.specs.Quick.{ready-sized, quick_arm}
use Rattle.stretching.proofs.quick.arithmetic.Goals as goal

pub pop-requires : goal.pop-requires
pop-requires c = ready-sized _ _ _ _ _ _ _ _ _ _ c.requires.0 c.place.ensures

pub dup-requires : goal.dup-requires
dup-requires c = ready-sized _ _ _ _ _ _ _ _ _ _ c.requires.0 c.place-in-89.ensures

pub dup_under-requires : goal.dup_under-requires
dup_under-requires c = ready-sized _ _ _ _ _ _ _ _ _ _ c.requires.0 c.place-in-90.ensures

pub swap-requires : goal.swap-requires
swap-requires c = ready-sized _ _ _ _ _ _ _ _ _ _ c.requires.0 c.place-in-95.ensures

pub ibin-requires : goal.ibin-requires
ibin-requires c = ready-sized _ _ _ _ _ _ _ _ _ _ c.requires.0 c.place-in-96.ensures

pub ibin-requires-in-100 : goal.ibin-requires-in-100
ibin-requires-in-100 c = ready-sized _ _ _ _ _ _ _ _ _ _ c.requires.0 c.place-in-100.ensures

pub ibin-requires-in-104 : goal.ibin-requires-in-104
ibin-requires-in-104 c = ready-sized _ _ _ _ _ _ _ _ _ _ c.requires.0 c.place-in-104.ensures

pub idiv-requires : goal.idiv-requires
idiv-requires c = ready-sized _ _ _ _ _ _ _ _ _ _ c.requires.0 c.place-in-108.ensures

pub idiv-requires-in-112 : goal.idiv-requires-in-112
idiv-requires-in-112 c = ready-sized _ _ _ _ _ _ _ _ _ _ c.requires.0 c.place-in-112.ensures

pub ineg-requires : goal.ineg-requires
ineg-requires c = ready-sized _ _ _ _ _ _ _ _ _ _ c.requires.0 c.place-in-116.ensures

pub ibin-requires-in-120 : goal.ibin-requires-in-120
ibin-requires-in-120 c = ready-sized _ _ _ _ _ _ _ _ _ _ c.requires.0 c.place-in-120.ensures

pub ibin-requires-in-122 : goal.ibin-requires-in-122
ibin-requires-in-122 c = ready-sized _ _ _ _ _ _ _ _ _ _ c.requires.0 c.place-in-122.ensures

pub ibin-requires-in-124 : goal.ibin-requires-in-124
ibin-requires-in-124 c = ready-sized _ _ _ _ _ _ _ _ _ _ c.requires.0 c.place-in-124.ensures

pub ibin-requires-in-126 : goal.ibin-requires-in-126
ibin-requires-in-126 c = ready-sized _ _ _ _ _ _ _ _ _ _ c.requires.0 c.place-in-126.ensures

pub ibin-requires-in-128 : goal.ibin-requires-in-128
ibin-requires-in-128 c = ready-sized _ _ _ _ _ _ _ _ _ _ c.requires.0 c.place-in-128.ensures

pub ibin-requires-in-130 : goal.ibin-requires-in-130
ibin-requires-in-130 c = ready-sized _ _ _ _ _ _ _ _ _ _ c.requires.0 c.place-in-130.ensures

pub increment-requires : goal.increment-requires
increment-requires c = ready-sized _ _ _ _ _ _ _ _ _ _ c.requires.0 c.place-in-132.ensures

pub returns-in-87 : goal.returns-in-87
unfolding made row_of row_in rows
returns-in-87 c = quick_arm _ _ _ _ _ _ _ _ _ _ 1 _ _ _ _ _ _ _ 0x57 (sym c.requires.1 ∙ c.in-87.is) refl (omega arith) tt (λ P. refl) refl c.place.ensures (windowed _ _ _ _ _ _ _ _ _ c.pop.ensures)

pub returns-in-89 : goal.returns-in-89
unfolding made row_of row_in rows
returns-in-89 c = quick_arm _ _ _ _ _ _ _ _ _ _ 1 _ _ _ _ _ _ _ 0x59 (sym c.requires.1 ∙ c.in-89.is) refl (omega arith) tt (λ P. refl) refl c.place-in-89.ensures (windowed _ _ _ _ _ _ _ _ _ c.dup.ensures)

pub returns-in-90 : goal.returns-in-90
unfolding made row_of row_in rows
returns-in-90 c = quick_arm _ _ _ _ _ _ _ _ _ _ 1 _ _ _ _ _ _ _ 0x5a (sym c.requires.1 ∙ c.in-90.is) refl (omega arith) tt (λ P. refl) refl c.place-in-90.ensures (windowed _ _ _ _ _ _ _ _ _ c.dup_under.ensures)

pub returns-in-95 : goal.returns-in-95
unfolding made row_of row_in rows
returns-in-95 c = quick_arm _ _ _ _ _ _ _ _ _ _ 1 _ _ _ _ _ _ _ 0x5f (sym c.requires.1 ∙ c.in-95.is) refl (omega arith) tt (λ P. refl) refl c.place-in-95.ensures (windowed _ _ _ _ _ _ _ _ _ c.swap.ensures)

pub returns-in-96 : goal.returns-in-96
unfolding made row_of row_in rows
returns-in-96 c = quick_arm _ _ _ _ _ _ _ _ _ _ 1 _ _ _ _ _ _ _ 0x60 (sym c.requires.1 ∙ c.in-96.is) refl (omega arith) tt (λ P. refl) refl c.place-in-96.ensures (windowed _ _ _ _ _ _ _ _ _ c.ibin.ensures)

pub returns-in-100 : goal.returns-in-100
unfolding made row_of row_in rows
returns-in-100 c = quick_arm _ _ _ _ _ _ _ _ _ _ 1 _ _ _ _ _ _ _ 0x64 (sym c.requires.1 ∙ c.in-100.is) refl (omega arith) tt (λ P. refl) refl c.place-in-100.ensures (windowed _ _ _ _ _ _ _ _ _ c.ibin-in-100.ensures)

pub returns-in-104 : goal.returns-in-104
unfolding made row_of row_in rows
returns-in-104 c = quick_arm _ _ _ _ _ _ _ _ _ _ 1 _ _ _ _ _ _ _ 0x68 (sym c.requires.1 ∙ c.in-104.is) refl (omega arith) tt (λ P. refl) refl c.place-in-104.ensures (windowed _ _ _ _ _ _ _ _ _ c.ibin-in-104.ensures)

pub returns-in-108 : goal.returns-in-108
unfolding made row_of row_in rows
returns-in-108 c = quick_arm _ _ _ _ _ _ _ _ _ _ 1 _ _ _ _ _ _ _ 0x6c (sym c.requires.1 ∙ c.in-108.is) refl (omega arith) tt (λ P. refl) refl c.place-in-108.ensures (windowed _ _ _ _ _ _ _ _ _ c.idiv.ensures)

pub returns-in-112 : goal.returns-in-112
unfolding made row_of row_in rows
returns-in-112 c = quick_arm _ _ _ _ _ _ _ _ _ _ 1 _ _ _ _ _ _ _ 0x70 (sym c.requires.1 ∙ c.in-112.is) refl (omega arith) tt (λ P. refl) refl c.place-in-112.ensures (windowed _ _ _ _ _ _ _ _ _ c.idiv-in-112.ensures)

pub returns-in-116 : goal.returns-in-116
unfolding made row_of row_in rows
returns-in-116 c = quick_arm _ _ _ _ _ _ _ _ _ _ 1 _ _ _ _ _ _ _ 0x74 (sym c.requires.1 ∙ c.in-116.is) refl (omega arith) tt (λ P. refl) refl c.place-in-116.ensures (windowed _ _ _ _ _ _ _ _ _ c.ineg.ensures)

pub returns-in-120 : goal.returns-in-120
unfolding made row_of row_in rows
returns-in-120 c = quick_arm _ _ _ _ _ _ _ _ _ _ 1 _ _ _ _ _ _ _ 0x78 (sym c.requires.1 ∙ c.in-120.is) refl (omega arith) tt (λ P. refl) refl c.place-in-120.ensures (windowed _ _ _ _ _ _ _ _ _ c.ibin-in-120.ensures)

pub returns-in-122 : goal.returns-in-122
unfolding made row_of row_in rows
returns-in-122 c = quick_arm _ _ _ _ _ _ _ _ _ _ 1 _ _ _ _ _ _ _ 0x7a (sym c.requires.1 ∙ c.in-122.is) refl (omega arith) tt (λ P. refl) refl c.place-in-122.ensures (windowed _ _ _ _ _ _ _ _ _ c.ibin-in-122.ensures)

pub returns-in-124 : goal.returns-in-124
unfolding made row_of row_in rows
returns-in-124 c = quick_arm _ _ _ _ _ _ _ _ _ _ 1 _ _ _ _ _ _ _ 0x7c (sym c.requires.1 ∙ c.in-124.is) refl (omega arith) tt (λ P. refl) refl c.place-in-124.ensures (windowed _ _ _ _ _ _ _ _ _ c.ibin-in-124.ensures)

pub returns-in-126 : goal.returns-in-126
unfolding made row_of row_in rows
returns-in-126 c = quick_arm _ _ _ _ _ _ _ _ _ _ 1 _ _ _ _ _ _ _ 0x7e (sym c.requires.1 ∙ c.in-126.is) refl (omega arith) tt (λ P. refl) refl c.place-in-126.ensures (windowed _ _ _ _ _ _ _ _ _ c.ibin-in-126.ensures)

pub returns-in-128 : goal.returns-in-128
unfolding made row_of row_in rows
returns-in-128 c = quick_arm _ _ _ _ _ _ _ _ _ _ 1 _ _ _ _ _ _ _ 0x80 (sym c.requires.1 ∙ c.in-128.is) refl (omega arith) tt (λ P. refl) refl c.place-in-128.ensures (windowed _ _ _ _ _ _ _ _ _ c.ibin-in-128.ensures)

pub returns-in-130 : goal.returns-in-130
unfolding made row_of row_in rows
returns-in-130 c = quick_arm _ _ _ _ _ _ _ _ _ _ 1 _ _ _ _ _ _ _ 0x82 (sym c.requires.1 ∙ c.in-130.is) refl (omega arith) tt (λ P. refl) refl c.place-in-130.ensures (windowed _ _ _ _ _ _ _ _ _ c.ibin-in-130.ensures)

pub returns-in-132 : goal.returns-in-132
unfolding made row_of row_in rows
returns-in-132 c = quick_arm _ _ _ _ _ _ _ _ _ _ 3 _ _ _ _ _ _ _ 0x84 (sym c.requires.1 ∙ c.in-132.is) refl (omega arith) tt (λ P. sym (rw (c.spread_byte.ensures, c.first.ensures, c.second.ensures))) refl c.place-in-132.ensures (windowed _ _ _ _ _ _ _ _ _ c.increment.ensures)
