use Rattle.std.proofs.Common.{refl, sym, ◌∙◌, arith}
use Rattle.rules.specs.Opcodes.{rows, row_in, row_of}
use Rattle.rules.specs.Decoding.{made}
use Rattle.plain.specs.HeapTurns.{windowed}
use Rattle.stretching.specs.Quick.{ready-sized, quick_arm}
use Rattle.stretching.proofs.quick.branches.Goals as goal

pub if_int-requires : goal.if_int-requires
if_int-requires c = ready-sized _ _ _ _ _ _ _ _ _ _ c.requires.0 c.place.ensures

pub if_int-requires-in-154 : goal.if_int-requires-in-154
if_int-requires-in-154 c = ready-sized _ _ _ _ _ _ _ _ _ _ c.requires.0 c.place-in-154.ensures

pub if_int-requires-in-155 : goal.if_int-requires-in-155
if_int-requires-in-155 c = ready-sized _ _ _ _ _ _ _ _ _ _ c.requires.0 c.place-in-155.ensures

pub if_int-requires-in-156 : goal.if_int-requires-in-156
if_int-requires-in-156 c = ready-sized _ _ _ _ _ _ _ _ _ _ c.requires.0 c.place-in-156.ensures

pub if_int-requires-in-157 : goal.if_int-requires-in-157
if_int-requires-in-157 c = ready-sized _ _ _ _ _ _ _ _ _ _ c.requires.0 c.place-in-157.ensures

pub if_int-requires-in-158 : goal.if_int-requires-in-158
if_int-requires-in-158 c = ready-sized _ _ _ _ _ _ _ _ _ _ c.requires.0 c.place-in-158.ensures

pub if_two-requires : goal.if_two-requires
if_two-requires c = ready-sized _ _ _ _ _ _ _ _ _ _ c.requires.0 c.place-in-159.ensures

pub if_two-requires-in-160 : goal.if_two-requires-in-160
if_two-requires-in-160 c = ready-sized _ _ _ _ _ _ _ _ _ _ c.requires.0 c.place-in-160.ensures

pub if_two-requires-in-161 : goal.if_two-requires-in-161
if_two-requires-in-161 c = ready-sized _ _ _ _ _ _ _ _ _ _ c.requires.0 c.place-in-161.ensures

pub if_two-requires-in-162 : goal.if_two-requires-in-162
if_two-requires-in-162 c = ready-sized _ _ _ _ _ _ _ _ _ _ c.requires.0 c.place-in-162.ensures

pub if_two-requires-in-163 : goal.if_two-requires-in-163
if_two-requires-in-163 c = ready-sized _ _ _ _ _ _ _ _ _ _ c.requires.0 c.place-in-163.ensures

pub if_two-requires-in-164 : goal.if_two-requires-in-164
if_two-requires-in-164 c = ready-sized _ _ _ _ _ _ _ _ _ _ c.requires.0 c.place-in-164.ensures

pub jump-requires : goal.jump-requires
jump-requires c = ready-sized _ _ _ _ _ _ _ _ _ _ c.requires.0 c.place-in-167.ensures

pub returns-in-153 : goal.returns-in-153
unfolding made row_of row_in rows
returns-in-153 c = quick_arm _ _ _ _ _ _ _ _ _ _ 3 _ _ _ _ _ _ _ 0x99 (sym c.requires.1 ∙ c.in-153.is) refl (omega arith) (omega (arith, c.goes_to.ensures)) (λ P. sym (rw c.goes_to.ensures)) refl c.place.ensures (windowed _ _ _ _ _ _ _ _ _ c.if_int.ensures)

pub returns-in-154 : goal.returns-in-154
unfolding made row_of row_in rows
returns-in-154 c = quick_arm _ _ _ _ _ _ _ _ _ _ 3 _ _ _ _ _ _ _ 0x9a (sym c.requires.1 ∙ c.in-154.is) refl (omega arith) (omega (arith, c.goes_to-in-154.ensures)) (λ P. sym (rw c.goes_to-in-154.ensures)) refl c.place-in-154.ensures (windowed _ _ _ _ _ _ _ _ _ c.if_int-in-154.ensures)

pub returns-in-155 : goal.returns-in-155
unfolding made row_of row_in rows
returns-in-155 c = quick_arm _ _ _ _ _ _ _ _ _ _ 3 _ _ _ _ _ _ _ 0x9b (sym c.requires.1 ∙ c.in-155.is) refl (omega arith) (omega (arith, c.goes_to-in-155.ensures)) (λ P. sym (rw c.goes_to-in-155.ensures)) refl c.place-in-155.ensures (windowed _ _ _ _ _ _ _ _ _ c.if_int-in-155.ensures)

pub returns-in-156 : goal.returns-in-156
unfolding made row_of row_in rows
returns-in-156 c = quick_arm _ _ _ _ _ _ _ _ _ _ 3 _ _ _ _ _ _ _ 0x9c (sym c.requires.1 ∙ c.in-156.is) refl (omega arith) (omega (arith, c.goes_to-in-156.ensures)) (λ P. sym (rw c.goes_to-in-156.ensures)) refl c.place-in-156.ensures (windowed _ _ _ _ _ _ _ _ _ c.if_int-in-156.ensures)

pub returns-in-157 : goal.returns-in-157
unfolding made row_of row_in rows
returns-in-157 c = quick_arm _ _ _ _ _ _ _ _ _ _ 3 _ _ _ _ _ _ _ 0x9d (sym c.requires.1 ∙ c.in-157.is) refl (omega arith) (omega (arith, c.goes_to-in-157.ensures)) (λ P. sym (rw c.goes_to-in-157.ensures)) refl c.place-in-157.ensures (windowed _ _ _ _ _ _ _ _ _ c.if_int-in-157.ensures)

pub returns-in-158 : goal.returns-in-158
unfolding made row_of row_in rows
returns-in-158 c = quick_arm _ _ _ _ _ _ _ _ _ _ 3 _ _ _ _ _ _ _ 0x9e (sym c.requires.1 ∙ c.in-158.is) refl (omega arith) (omega (arith, c.goes_to-in-158.ensures)) (λ P. sym (rw c.goes_to-in-158.ensures)) refl c.place-in-158.ensures (windowed _ _ _ _ _ _ _ _ _ c.if_int-in-158.ensures)

pub returns-in-159 : goal.returns-in-159
unfolding made row_of row_in rows
returns-in-159 c = quick_arm _ _ _ _ _ _ _ _ _ _ 3 _ _ _ _ _ _ _ 0x9f (sym c.requires.1 ∙ c.in-159.is) refl (omega arith) (omega (arith, c.goes_to-in-159.ensures)) (λ P. sym (rw c.goes_to-in-159.ensures)) refl c.place-in-159.ensures (windowed _ _ _ _ _ _ _ _ _ c.if_two.ensures)

pub returns-in-160 : goal.returns-in-160
unfolding made row_of row_in rows
returns-in-160 c = quick_arm _ _ _ _ _ _ _ _ _ _ 3 _ _ _ _ _ _ _ 0xa0 (sym c.requires.1 ∙ c.in-160.is) refl (omega arith) (omega (arith, c.goes_to-in-160.ensures)) (λ P. sym (rw c.goes_to-in-160.ensures)) refl c.place-in-160.ensures (windowed _ _ _ _ _ _ _ _ _ c.if_two-in-160.ensures)

pub returns-in-161 : goal.returns-in-161
unfolding made row_of row_in rows
returns-in-161 c = quick_arm _ _ _ _ _ _ _ _ _ _ 3 _ _ _ _ _ _ _ 0xa1 (sym c.requires.1 ∙ c.in-161.is) refl (omega arith) (omega (arith, c.goes_to-in-161.ensures)) (λ P. sym (rw c.goes_to-in-161.ensures)) refl c.place-in-161.ensures (windowed _ _ _ _ _ _ _ _ _ c.if_two-in-161.ensures)

pub returns-in-162 : goal.returns-in-162
unfolding made row_of row_in rows
returns-in-162 c = quick_arm _ _ _ _ _ _ _ _ _ _ 3 _ _ _ _ _ _ _ 0xa2 (sym c.requires.1 ∙ c.in-162.is) refl (omega arith) (omega (arith, c.goes_to-in-162.ensures)) (λ P. sym (rw c.goes_to-in-162.ensures)) refl c.place-in-162.ensures (windowed _ _ _ _ _ _ _ _ _ c.if_two-in-162.ensures)

pub returns-in-163 : goal.returns-in-163
unfolding made row_of row_in rows
returns-in-163 c = quick_arm _ _ _ _ _ _ _ _ _ _ 3 _ _ _ _ _ _ _ 0xa3 (sym c.requires.1 ∙ c.in-163.is) refl (omega arith) (omega (arith, c.goes_to-in-163.ensures)) (λ P. sym (rw c.goes_to-in-163.ensures)) refl c.place-in-163.ensures (windowed _ _ _ _ _ _ _ _ _ c.if_two-in-163.ensures)

pub returns-in-164 : goal.returns-in-164
unfolding made row_of row_in rows
returns-in-164 c = quick_arm _ _ _ _ _ _ _ _ _ _ 3 _ _ _ _ _ _ _ 0xa4 (sym c.requires.1 ∙ c.in-164.is) refl (omega arith) (omega (arith, c.goes_to-in-164.ensures)) (λ P. sym (rw c.goes_to-in-164.ensures)) refl c.place-in-164.ensures (windowed _ _ _ _ _ _ _ _ _ c.if_two-in-164.ensures)

pub returns-in-167 : goal.returns-in-167
unfolding made row_of row_in rows
returns-in-167 c = quick_arm _ _ _ _ _ _ _ _ _ _ 3 _ _ _ _ _ _ _ 0xa7 (sym c.requires.1 ∙ c.in-167.is) refl (omega arith) (omega (arith, c.goes_to-in-167.ensures)) (λ P. sym (rw c.goes_to-in-167.ensures)) refl c.place-in-167.ensures (windowed _ _ _ _ _ _ _ _ _ c.jump.ensures)
