-- What the code computes on 32 bits against the definitions of Integers: the signed reading, magnitudes, order, binary digits.
-- Assumes nothing.
use Rattle.std.specs.Prelude.{◌≡◌, ℕ, zero, suc, ◌+◌, ◌-◌, ◌*◌, ◌/◌, ◌%◌, ◌^◌, ◌<◌, ◌≤◌, min, max, cond, not, [], ◌∷◌, pos, negsuc, neg_ℤ, ◌==◌, ◌≢◌, bit_and, bit_or, bit_xor, nat_le, nat_lt, refl}
use Rattle.std.proofs.Common.{sym, ap, ◌∙◌, ⊎_elim, lt_of_le_of_lt, mul-le-mul_left, mul-lt-mul_of_pos_right, le_of_lt, pow-suc, arith, lt-ltb, le-ltb, le-leb, eq-eqb, ne_eqb, pow_pos, of_z, to_z, div-le_self}
use Rattle.std.proofs.Math.ListN.{get_or-eq_default}
use Rattle.std.proofs.Math.Nat.{mod-le}
use Rattle.std.proofs.lemmas.Bool.{lt-leb}
use Rattle.std.proofs.Math.Arith.{lt-one}
use Rattle.std.specs.Int.Bits.{digits, differ, and_step, or_step, xor_step, and_zero_l, or_zero_l, xor_zero_l}
use Rattle.std.specs.Int.{w32}
use Rattle.kit.specs.Pick.{side}
use Rattle.rules.specs.Instruction.{add, sub, mul, shl, shr, ushr, and, or, xor, quotient, remainder, eq, ne, lt, ge, gt, le}
use Rattle.rules.specs.InstructionWords.{op_by, division_by}
use Rattle.rules.specs.Opcodes.{test_of}
use Rattle.plain.specs.Integers.{negated, compute, divided, less, holds, negative}

abbrev pub magnitude_of : ℕ → ℕ
magnitude_of a = cond (nat_lt a (2 ^ 31)) a (2 ^ 32 - a)

abbrev pub biased_of : ℕ → ℕ
biased_of a = cond (nat_lt a (2 ^ 31)) (a + 2 ^ 31) (a - 2 ^ 31)

pub product : {a b : ℕ} → a < 2 ^ 32 → b < 2 ^ 32 → a * b < 2 ^ 64
product {a} {b} ha hb = lt_of_le_of_lt (mul-le-mul_left a (le_of_lt hb)) (mul-lt-mul_of_pos_right ha (pow_pos 32))

-- ---- the signed reading, and the magnitude, by the sign
module _ (a : ℕ) where
  read_pos : a < 2 ^ 31 → to_z w32 a ≡ pos a
  read_pos h = simp (lt-ltb a (2 ^ 31) h)

  read_neg : 2 ^ 31 ≤ a → to_z w32 a ≡ negsuc (2 ^ 32 - suc a)
  read_neg h = simp (le-ltb a (2 ^ 31) h)

  size_pos : a < 2 ^ 31 → magnitude_of a ≡ a
  size_pos h = simp (lt-ltb a (2 ^ 31) h)

  size_neg : 2 ^ 31 ≤ a → a < 2 ^ 32 → magnitude_of a ≡ suc (2 ^ 32 - suc a)
  size_neg h l =
      let e : 2 ^ 32 - a ≡ suc (2 ^ 32 - suc a) = omega arith in
      simp (le-ltb a (2 ^ 31) h) e

  bias_pos : a < 2 ^ 31 → biased_of a ≡ a + 2 ^ 31
  bias_pos h = simp (lt-ltb a (2 ^ 31) h)

  bias_neg : 2 ^ 31 ≤ a → biased_of a ≡ a - 2 ^ 31
  bias_neg h = simp (le-ltb a (2 ^ 31) h)

neg_bits : (q : ℕ) → q ≤ 2 ^ 31 → of_z w32 (neg_ℤ (pos q)) ≡ negated q
unfolding negated
neg_bits zero h = refl
neg_bits (suc q) h = omega arith

-- ---- division, by the signs of a and b, from the magnitudes m and d
module _ (a b m d : ℕ) (em : m ≡ magnitude_of a) (ed : d ≡ magnitude_of b) (la : a < 2 ^ 32) (lb : b < 2 ^ 32) where
  pub div_pp : a < 2 ^ 31 → b < 2 ^ 31 → m / d ≡ divided quotient a b
  unfolding divided
  div_pp ha hb = rw (em, ed, size_pos a ha, size_pos b hb, read_pos a ha, read_pos b hb)

  pub div_nn : 2 ^ 31 ≤ a → 2 ^ 31 ≤ b → m / d ≡ divided quotient a b
  unfolding divided
  div_nn ha hb = rw (em, ed, size_neg a ha la, size_neg b hb lb, read_neg a ha, read_neg b hb)

  -- where the code negates by a call that gave r
  pub div_pn : (r : ℕ) → r ≡ negated (m / d) → a < 2 ^ 31 → 2 ^ 31 ≤ b → r ≡ divided quotient a b
  unfolding divided
  div_pn r e ha hb =
      rw (e, em, ed, size_pos a ha, size_neg b hb lb, read_pos a ha, read_neg b hb)
      (sym (neg_bits (a / suc (2 ^ 32 - suc b)) (omega (arith, div-le_self a (suc (2 ^ 32 - suc b))))))

  pub div_np : (r : ℕ) → r ≡ negated (m / d) → 2 ^ 31 ≤ a → b < 2 ^ 31 → r ≡ divided quotient a b
  unfolding divided
  div_np r e ha hb =
      rw (e, em, ed, size_neg a ha la, size_pos b hb, read_neg a ha, read_pos b hb)
      (sym (neg_bits (suc (2 ^ 32 - suc a) / b) (omega (arith, div-le_self (suc (2 ^ 32 - suc a)) b))))

  rem_pp : a < 2 ^ 31 → b < 2 ^ 31 → m % d ≡ divided remainder a b
  unfolding divided
  rem_pp ha hb = rw (em, ed, size_pos a ha, size_pos b hb, read_pos a ha, read_pos b hb)

  rem_pn : a < 2 ^ 31 → 2 ^ 31 ≤ b → m % d ≡ divided remainder a b
  unfolding divided
  rem_pn ha hb = rw (em, ed, size_pos a ha, size_neg b hb lb, read_pos a ha, read_neg b hb)

  rem_np : 2 ^ 31 ≤ a → b < 2 ^ 31 → negated (m % d) ≡ divided remainder a b
  unfolding divided
  rem_np ha hb =
      rw (em, ed, size_neg a ha la, size_pos b hb, read_neg a ha, read_pos b hb)
      (sym (neg_bits (suc (2 ^ 32 - suc a) % b) (omega (arith, mod-le (suc (2 ^ 32 - suc a)) b))))

  rem_nn : 2 ^ 31 ≤ a → 2 ^ 31 ≤ b → negated (m % d) ≡ divided remainder a b
  unfolding divided
  rem_nn ha hb =
      rw (em, ed, size_neg a ha la, size_neg b hb lb, read_neg a ha, read_neg b hb)
      (sym (neg_bits (suc (2 ^ 32 - suc a) % suc (2 ^ 32 - suc b)) (omega (arith, mod-le (suc (2 ^ 32 - suc a)) (suc (2 ^ 32 - suc b))))))

  pub rem_p : a < 2 ^ 31 → m % d ≡ divided remainder a b
  rem_p ha = ⊎_elim (λ hb. rem_pp ha hb) (λ hb. rem_pn ha hb) (side b (2 ^ 31))

  pub rem_n : (r : ℕ) → r ≡ negated (m % d) → 2 ^ 31 ≤ a → r ≡ divided remainder a b
  rem_n r e ha = e ∙ ⊎_elim (λ hb. rem_np ha hb) (λ hb. rem_nn ha hb) (side b (2 ^ 31))

pub size_some : (b d : ℕ) → d ≡ magnitude_of b → 0 < b → b < 2 ^ 32 → 0 < d
size_some b d e h l =
    ⊎_elim (λ hb. omega (arith, e ∙ size_pos b hb)) (λ hb. omega (arith, e ∙ size_neg b hb l)) (side b (2 ^ 31))

-- ---- the shift that copies the sign
pub shr_pos : (a b : ℕ) → a < 2 ^ 31 → a / 2 ^ (b % 32) ≡ compute shr a b
unfolding compute
shr_pos a b h = rw (read_pos a h)

pub shr_neg : (a b : ℕ) → 2 ^ 31 ≤ a → a < 2 ^ 32 → 4294967295 - (4294967295 - a) / 2 ^ (b % 32) ≡ compute shr a b
unfolding compute
shr_neg a b h l =
    let e : 4294967295 - a ≡ 2 ^ 32 - suc a = omega arith in
    rw (read_neg a h, e) (omega arith)

-- ---- order
same_test : (a b c d : ℕ) → (a < b → c < d) → (b ≤ a → d ≤ c) → nat_lt a b ≡ nat_lt c d
same_test a b c d f g =
    ⊎_elim (λ h. lt-ltb a b h ∙ sym (lt-ltb c d (f h))) (λ h. le-ltb a b h ∙ sym (le-ltb c d (g h))) (side a b)

pub order : (a b x y : ℕ) → x ≡ biased_of a → y ≡ biased_of b → a < 2 ^ 32 → b < 2 ^ 32 → nat_lt x y ≡ less a b
unfolding less
order a b x y ex ey la lb =
    ⊎_elim
    (λ ha. ⊎_elim
    (λ hb. rw (ex, ey, bias_pos a ha, bias_pos b hb, read_pos a ha, read_pos b hb)
    (same_test (a + 2 ^ 31) (b + 2 ^ 31) a b (λ h. omega arith) (λ h. omega arith)))
    (λ hb. rw (ex, ey, bias_pos a ha, bias_neg b hb, read_pos a ha, read_neg b hb) (le-ltb (a + 2 ^ 31) (b - 2 ^ 31) (omega arith)))
    (side b (2 ^ 31)))
    (λ ha. ⊎_elim
    (λ hb. rw (ex, ey, bias_neg a ha, bias_pos b hb, read_neg a ha, read_pos b hb) (lt-ltb (a - 2 ^ 31) (b + 2 ^ 31) (omega arith)))
    (λ hb. rw (ex, ey, bias_neg a ha, bias_neg b hb, read_neg a ha, read_neg b hb)
    (same_test (a - 2 ^ 31) (b - 2 ^ 31) (2 ^ 32 - suc b) (2 ^ 32 - suc a) (λ h. omega arith) (λ h. omega arith)))
    (side b (2 ^ 31)))
    (side a (2 ^ 31))

pub sign_bit : (a : ℕ) → nat_le (2 ^ 31) a ≡ negative a
unfolding negative
sign_bit a =
    ⊎_elim (λ h. lt-leb (2 ^ 31) a h ∙ sym (ap not (lt-ltb a (2 ^ 31) h))) (λ h. le-leb (2 ^ 31) a h ∙ sym (ap not (le-ltb a (2 ^ 31) h))) (side a (2 ^ 31))

-- ---- an operation of 32 binary digits is the logic's, that has as many digits as the first number
module _ (z : ℕ → ℕ) (f op : ℕ → ℕ → ℕ) (none : (b : ℕ) → op zero b ≡ z b) (step : (a b : ℕ) → op a b ≡ op (a / 2) (b / 2) * 2 + f (a % 2) (b % 2)) where
  few_digits : (n a b : ℕ) → a < 2 ^ n → op a b ≡ digits z f n a b
  few_digits zero a b h = rw (lt-one h) (none b)
  few_digits (suc n) zero b h = none b
  few_digits (suc n) (suc a) b h =
      step (suc a) b
      ∙ ap (λ (x : ℕ). x * 2 + f (suc a % 2) (b % 2)) (few_digits n (suc a / 2) (b / 2) (omega (arith, pow-suc 2 n)))

module _ (a b : ℕ) (h : a < 2 ^ 32) where
  pub and_digits : bit_and a b ≡ compute and a b
  unfolding compute
  and_digits = few_digits (λ c. zero) min bit_and and_zero_l and_step 32 a b h

  pub or_digits : bit_or a b ≡ compute or a b
  unfolding compute
  or_digits = few_digits (λ c. c) max bit_or or_zero_l or_step 32 a b h

  pub xor_digits : bit_xor a b ≡ compute xor a b
  unfolding compute
  xor_digits = few_digits (λ c. c) differ bit_xor xor_zero_l xor_step 32 a b h

-- ---- numbers of operations and tests: the first one's for any that is not listed
past_four : (k : ℕ) → 0 < k → (k ≢ 1) → (k ≢ 2) → (k ≢ 3) → (k ≢ 4) → 4 < k
past_four k h h1 h2 h3 h4 = omega arith

past_eight : (k : ℕ) → 4 < k → (k ≢ 5) → (k ≢ 6) → (k ≢ 7) → (k ≢ 8) → 9 ≤ k
past_eight k h h5 h6 h7 h8 = omega arith

zero_of : {k : ℕ} → k ≤ 0 → k ≡ 0
zero_of h = omega arith

pub op-rest : (k r a b : ℕ) → (k ≢ 1) → (k ≢ 2) → (k ≢ 3) → (k ≢ 4) → (k ≢ 5) → (k ≢ 6) → (k ≢ 7) → (k ≢ 8)
    → r ≡ compute add a b → r ≡ compute (op_by k) a b
op-rest k r a b h1 h2 h3 h4 h5 h6 h7 h8 e =
    let q : op_by k ≡ add =
    ⊎_elim (λ h. get_or-eq_default (add ∷ sub ∷ mul ∷ shl ∷ shr ∷ ushr ∷ and ∷ or ∷ xor ∷ []) add {n = k} (past_eight k (past_four k h h1 h2 h3 h4) h5 h6 h7 h8))
    (λ h. ap op_by (zero_of h)) (side 0 k) in
    rw q e

pub test_rest : (k a b : ℕ) → (k ≢ 1) → (k ≢ 2) → (k ≢ 3) → (k ≢ 4) → (k ≢ 5) → (a == b) ≡ holds (test_of k) a b
unfolding holds
test_rest k a b h1 h2 h3 h4 h5 =
    let q : test_of k ≡ eq =
    ⊎_elim (λ h. get_or-eq_default (eq ∷ ne ∷ lt ∷ ge ∷ gt ∷ le ∷ []) eq {n = k} (omega arith)) (λ h. ap test_of (zero_of h)) (side 0 k) in
    rw q

module _ (k r a b : ℕ) where
  pub quotient_at : k ≡ 0 → r ≡ divided quotient a b → r ≡ divided (division_by k) a b
  quotient_at h e = rw (eq-eqb k 0 h) e

  pub remainder_at : (k ≢ 0) → r ≡ divided remainder a b → r ≡ divided (division_by k) a b
  remainder_at h e = rw (ne_eqb k 0 h) e

pub ruleset integers = (div_pp, div_nn, div_pn, div_np, rem_p, rem_n, size_some, shr_pos, shr_neg, order, sign_bit, and_digits, or_digits, xor_digits, product, op-rest, test_rest, quotient_at, remainder_at)
