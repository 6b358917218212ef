-- The first index from i on, of n, at which a test fails; what a loop that counts i up to n knows of it; and a test that holds at all n.
-- Assumes nothing.
use Prim.Native.Nat.{ℕ, zero, suc, ◌+◌, ◌-◌, ◌<◌, ◌≤◌}
use Rattle.std.specs.Prelude.{◌≡◌, Bool, not, ◌&&◌, ◌⊎◌}
use Rattle.std.proofs.Math.Path.{refl, sym}
use Rattle.std.proofs.Common.{ap, ◌∙◌, not-suc-le-zero, add-one, inl, inr}
use Rattle.std.proofs.Math.Bool.{true, false, cond}
use Rattle.std.proofs.Math.Dec.{eqb, eqb-zero-suc, eqb-suc-suc}
use borrow.Author.Tests.{not-true, not-false, eqb-true, eq-eqb, ne_eqb, lt-ltb, le-ltb}
use native.Mathlib.Omega.{arith}
use Rattle.kit.specs.Pick.{side}
use Rattle.kit.specs.Bools.{both_left, both_right, same_truth}

unfoldable pub first_not : (ℕ → Bool) → ℕ → ℕ → ℕ
first_not f zero i = i
first_not f (suc n) i = cond (f i) (first_not f n (suc i)) i

-- f holds at 0 .. n - 1
unfoldable pub all_of : (ℕ → Bool) → ℕ → Bool
all_of f n = eqb (first_not f n 0) n

module _ (f : ℕ → Bool) where
  more : (k i : ℕ) → 0 < k → f i ≡ true → first_not f k i ≡ first_not f (k - 1) (suc i)
  unfolding first_not
  more zero i h e = absurd (not-suc-le-zero h)
  more (suc k) i h e =
      let q : k ≡ suc k - 1 = omega arith in
      simp e (ap (λ (m : ℕ). first_not f m (suc i)) q)

  here : (k i : ℕ) → 0 < k → f i ≡ false → first_not f k i ≡ i
  unfolding first_not
  here zero i h e = absurd (not-suc-le-zero h)
  here (suc k) i h e = simp e

  none : (k i : ℕ) → k ≡ 0 → first_not f k i ≡ i
  unfolding first_not
  none zero i e = refl
  none (suc k) i e = absurd (omega arith)

  -- a turn of a loop goes on where the test holds
  pub scan_step : (n i : ℕ) → i < n → f i ≡ true → first_not f (n - i) i ≡ first_not f (n - (i + 1)) (i + 1)
  scan_step n i h e =
      let q : n - i - 1 ≡ n - (i + 1) = omega arith in
      more (n - i) i (omega arith) e ∙ (ap (λ (m : ℕ). first_not f m (suc i)) q ∙ ap (first_not f (n - (i + 1))) (sym (add-one i)))

  -- it ends at i where the test fails
  pub scan_hit : (n i : ℕ) → i < n → f i ≡ false → first_not f (n - i) i ≡ i
  scan_hit n i h e = here (n - i) i (omega arith) e

  -- and at n
  pub scan_end : (n i : ℕ) → n ≤ i → first_not f (n - i) i ≡ i
  scan_end n i h = none (n - i) i (omega arith)

  pub scan_start : (n : ℕ) → first_not f (n - 0) 0 ≡ first_not f n 0
  scan_start n =
      let q : n - 0 ≡ n = omega arith in
      ap (λ (m : ℕ). first_not f m 0) q

  pub first_ge : (n i : ℕ) → i ≤ first_not f n i
  unfolding first_not
  first_ge zero i = omega arith
  first_ge (suc n) i = go (f i) (first_ge n (suc i))
    where
      go : (t : Bool) → suc i ≤ first_not f n (suc i) → i ≤ cond t (first_not f n (suc i)) i
      go true h = omega arith
      go false h = omega arith

  pub first_le : (n i : ℕ) → first_not f n i ≤ i + n
  unfolding first_not
  first_le zero i = omega arith
  first_le (suc n) i = go (f i) (first_le n (suc i))
    where
      go : (t : Bool) → first_not f n (suc i) ≤ suc i + n → cond t (first_not f n (suc i)) i ≤ i + suc n
      go true h = omega arith
      go false h = omega arith

  -- the test holds before the first index at which it fails
  pub first_before : (n i k : ℕ) → i ≤ k → k < first_not f n i → f k ≡ true
  unfolding first_not
  first_before zero i k h l = absurd (omega arith)
  first_before (suc n) i k h l = go (f i) refl l (λ b m. first_before n (suc i) k b m)
    where
      go : (t : Bool) → f i ≡ t → k < cond t (first_not f n (suc i)) i → (suc i ≤ k → k < first_not f n (suc i) → f k ≡ true) → f k ≡ true
      go false e m rec = absurd (omega arith)
      go true e m rec = at (side i k)
        where
          at : (i < k) ⊎ (k ≤ i) → f k ≡ true
          at (inl p) = rec p m
          at (inr p) =
              let q : i ≡ k = omega arith in
              rw (← q) e

  -- and fails at it, if it is not the end
  pub first_fails : (n i : ℕ) → first_not f n i < i + n → f (first_not f n i) ≡ false
  unfolding first_not
  first_fails zero i h = absurd (omega arith)
  first_fails (suc n) i h = go (f i) refl h (λ m. first_fails n (suc i) m)
    where
      go : (t : Bool) → f i ≡ t → cond t (first_not f n (suc i)) i < i + suc n → (first_not f n (suc i) < suc i + n → f (first_not f n (suc i)) ≡ false)
          → f (cond t (first_not f n (suc i)) i) ≡ false
      go true e m rec = rec (omega arith)
      go false e m rec = e

  pub first_all : (n i : ℕ) → ((k : ℕ) → i ≤ k → k < i + n → f k ≡ true) → first_not f n i ≡ i + n
  unfolding first_not
  first_all zero i h = omega arith
  first_all (suc n) i h = rw (h i (omega arith) (omega arith)) (first_all n (suc i) (λ k a b. h k (omega arith) (omega arith)) ∙ eq)
    where
      eq : suc i + n ≡ i + suc n
      eq = omega arith

-- The same for `search`, at a loop's invariant: R is what the contract says, q what the call in the test gave.
module _ (f : ℕ → Bool) (n i R : ℕ) where
  pub next : first_not f (n - i) i ≡ R → i < n → f i ≡ true → first_not f (n - (i + 1)) (i + 1) ≡ R
  next v h e = sym (scan_step f n i h e) ∙ v

  pub hit : first_not f (n - i) i ≡ R → i < n → f i ≡ false → i ≡ R
  hit v h e = sym (scan_hit f n i h e) ∙ v

  pub past : first_not f (n - i) i ≡ R → n ≤ i → i ≡ R
  past v h = sym (scan_end f n i h) ∙ v

  module _ (q : Bool) where
    pub next_by : first_not f (n - i) i ≡ R → i < n → q ≡ true → q ≡ f i → first_not f (n - (i + 1)) (i + 1) ≡ R
    next_by v h e s = next v h (sym s ∙ e)

    pub next_not : first_not f (n - i) i ≡ R → i < n → not q ≡ false → q ≡ f i → first_not f (n - (i + 1)) (i + 1) ≡ R
    next_not v h e s = next v h (sym s ∙ not-false q e)

    pub hit_by : first_not f (n - i) i ≡ R → i < n → q ≡ false → q ≡ f i → i ≡ R
    hit_by v h e s = hit v h (sym s ∙ e)

    pub hit_not : first_not f (n - i) i ≡ R → i < n → not q ≡ true → q ≡ f i → i ≡ R
    hit_not v h e s = hit v h (sym s ∙ not-true q e)

pub ruleset scans = (scan_start, next_not, hit_not, past)

module _ (f : ℕ → Bool) where
  pub all_at : (n : ℕ) → all_of f n ≡ true → (k : ℕ) → k < n → f k ≡ true
  unfolding all_of
  all_at n e k h =
      let p : first_not f n 0 ≡ n = eqb-true (first_not f n 0) n e in
      first_before f n 0 k (omega arith) (omega arith)

  pub all-of : (n : ℕ) → ((k : ℕ) → k < n → f k ≡ true) → all_of f n ≡ true
  unfolding all_of
  all-of n h =
      let p : first_not f n 0 ≡ 0 + n = first_all f n 0 (λ k a b. h k (omega arith)) in
      eq-eqb (first_not f n 0) n (omega arith)

  pub all_not : (n k : ℕ) → k < n → f k ≡ false → all_of f n ≡ false
  all_not n k h e = go (all_of f n) refl
    where
      go : (t : Bool) → all_of f n ≡ t → t ≡ false
      go true p = sym (all_at n p k h) ∙ e
      go false p = refl

  pub all_none : all_of f 0 ≡ true
  all_none = all-of 0 (λ k h. absurd (omega arith))

  -- one more at the end
  pub all_more : (n : ℕ) → all_of f (n + 1) ≡ (all_of f n && f n)
  all_more n = same_truth (all_of f (n + 1)) (all_of f n && f n) there back
    where
      there : all_of f (n + 1) ≡ true → (all_of f n && f n) ≡ true
      there e = rw (all-of n (λ k h. all_at (n + 1) e k (omega arith))) (all_at (n + 1) e n (omega arith))

      back : (all_of f n && f n) ≡ true → all_of f (n + 1) ≡ true
      back e = all-of (n + 1) (λ k h. at k h (side k n))
        where
          at : (k : ℕ) → k < n + 1 → (k < n) ⊎ (n ≤ k) → f k ≡ true
          at k h (inl l) = all_at n (both_left (all_of f n) (f n) e) k l
          at k h (inr l) =
              let q : k ≡ n = omega arith in
              rw q (both_right (all_of f n) (f n) e)

  -- one more in front
  shift : (n i : ℕ) → first_not f n (suc i) ≡ suc (first_not (λ k. f (suc k)) n i)
  unfolding first_not
  shift zero i = refl
  shift (suc n) i = go (f (suc i)) (shift n (suc i))
    where
      go : (t : Bool) → first_not f n (suc (suc i)) ≡ suc (first_not (λ k. f (suc k)) n (suc i))
          → cond t (first_not f n (suc (suc i))) (suc i) ≡ suc (cond t (first_not (λ k. f (suc k)) n (suc i)) i)
      go true h = h
      go false h = refl

  pub all_cons : (n : ℕ) → all_of f (suc n) ≡ (f 0 && all_of (λ k. f (suc k)) n)
  unfolding all_of first_not
  all_cons n = go (f 0)
    where
      go : (t : Bool) → eqb (cond t (first_not f n 1) 0) (suc n) ≡ (t && eqb (first_not (λ k. f (suc k)) n 0) n)
      go true = rw (shift n 0) (eqb-suc-suc (first_not (λ k. f (suc k)) n 0) n)
      go false = eqb-zero-suc n

pub all_same : (f g : ℕ → Bool) (n : ℕ) → ((k : ℕ) → k < n → f k ≡ g k) → all_of f n ≡ all_of g n
all_same f g n h =
    same_truth (all_of f n) (all_of g n) (λ e. all-of g n (λ k l. sym (h k l) ∙ all_at f n e k l))
    (λ e. all-of f n (λ k l. h k l ∙ all_at g n e k l))

-- A loop that answers false at the first index at which the test fails, true past the last: its invariant is `next`'s, at R = first_not f n 0.
module _ (f : ℕ → Bool) (n i : ℕ) where
  pub none_missed : first_not f (n - i) i ≡ first_not f n 0 → n ≤ i → true ≡ all_of f n
  unfolding all_of
  none_missed v h =
      let p : i ≡ first_not f n 0 = past f n i (first_not f n 0) v h in
      let q : first_not f n 0 ≤ 0 + n = first_le f n 0 in
      sym (eq-eqb (first_not f n 0) n (omega arith))

  pub missed : first_not f (n - i) i ≡ first_not f n 0 → i < n → f i ≡ false → false ≡ all_of f n
  missed v h e = sym (all_not f n i h e)

  module _ (q : Bool) where
    pub missed_by : first_not f (n - i) i ≡ first_not f n 0 → i < n → q ≡ false → q ≡ f i → false ≡ all_of f n
    missed_by v h e s = missed v h (sym s ∙ e)

    pub missed_not : first_not f (n - i) i ≡ first_not f n 0 → i < n → not q ≡ true → q ≡ f i → false ≡ all_of f n
    missed_not v h e s = missed v h (sym s ∙ not-true q e)

pub ruleset alls = (scan_start, next_not, missed_not, none_missed)

-- where the loop tests two numbers itself, and the definition's test is `eqb` or `ltb` of them
pub ruleset tested = (scan_start, next, hit, past, missed, none_missed, eq-eqb, ne_eqb, lt-ltb, le-ltb)
