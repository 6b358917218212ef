-- A definition that goes by tests, met from the test's fact: what `search` needs to follow a function's branches through nested `cond`s.
-- Assumes nothing.
use Rattle.std.specs.Prelude.{ℕ, ◌<◌, ◌≤◌, ◌≡◌, refl, Bool, true, false, cond, not, List, ◌⊎◌, eqb, ltb, leb, set}
use Rattle.std.proofs.Common.{sym, subst, ap, ◌∙◌, inl, inr, eq-eqb, ne_eqb, lt-ltb, le-ltb, le-leb, ltb-true, ltb-false}
use Rattle.std.proofs.lemmas.Bool.{lt-leb, not-true, not-false}

module _ {A : Type 0} (r x y : A) where
  pub if_true : (t : Bool) → t ≡ true → r ≡ x → r ≡ cond t x y
  if_true t e p = subst (λ (b : Bool). r ≡ cond b x y) (sym e) p

  pub if_false : (t : Bool) → t ≡ false → r ≡ y → r ≡ cond t x y
  if_false t e p = subst (λ (b : Bool). r ≡ cond b x y) (sym e) p

  pub if_eq : (a b : ℕ) → a ≡ b → r ≡ x → r ≡ cond (eqb a b) x y
  if_eq a b e p = if_true (eqb a b) (eq-eqb a b e) p

  pub if_ne : (a b : ℕ) → (a ≡ b → ⊥) → r ≡ y → r ≡ cond (eqb a b) x y
  if_ne a b e p = if_false (eqb a b) (ne_eqb a b e) p

  pub if_lt : (a b : ℕ) → a < b → r ≡ x → r ≡ cond (ltb a b) x y
  if_lt a b e p = if_true (ltb a b) (lt-ltb a b e) p

  pub if_ge : (a b : ℕ) → b ≤ a → r ≡ y → r ≡ cond (ltb a b) x y
  if_ge a b e p = if_false (ltb a b) (le-ltb a b e) p

  pub if_le : (a b : ℕ) → a ≤ b → r ≡ x → r ≡ cond (leb a b) x y
  if_le a b e p = if_true (leb a b) (le-leb a b e) p

  pub if_gt : (a b : ℕ) → b < a → r ≡ y → r ≡ cond (leb a b) x y
  if_gt a b e p = if_false (leb a b) (lt-leb a b e) p

  -- the same, where the code tests what a call gave, q, and the call's contract says what that is
  pub by_true : (q t : Bool) → q ≡ true → q ≡ t → r ≡ x → r ≡ cond t x y
  by_true q t e h p = if_true t (sym h ∙ e) p

  pub by_false : (q t : Bool) → q ≡ false → q ≡ t → r ≡ y → r ≡ cond t x y
  by_false q t e h p = if_false t (sym h ∙ e) p

  pub by_not : (q t : Bool) → not q ≡ true → q ≡ t → r ≡ y → r ≡ cond t x y
  by_not q t e h p = by_false q t (not-true q e) h p

  pub by_not_not : (q t : Bool) → not q ≡ false → q ≡ t → r ≡ x → r ≡ cond t x y
  by_not_not q t e h p = by_true q t (not-false q e) h p

  pub by_eq : (k a b : ℕ) → k ≡ b → k ≡ a → r ≡ x → r ≡ cond (eqb a b) x y
  by_eq k a b e h p = if_eq a b (sym h ∙ e) p

  pub by_ne : (k a b : ℕ) → (k ≡ b → ⊥) → k ≡ a → r ≡ y → r ≡ cond (eqb a b) x y
  by_ne k a b e h p = if_ne a b (λ z. e (h ∙ z)) p

  pub by_lt : (k a b : ℕ) → k < b → k ≡ a → r ≡ x → r ≡ cond (ltb a b) x y
  by_lt k a b e h p = if_lt a b (subst (λ (n : ℕ). n < b) h e) p

  pub by_ge : (k a b : ℕ) → b ≤ k → k ≡ a → r ≡ y → r ≡ cond (ltb a b) x y
  by_ge k a b e h p = if_ge a b (subst (λ (n : ℕ). b ≤ n) h e) p

  pub by_le : (k a b : ℕ) → k ≤ b → k ≡ a → r ≡ x → r ≡ cond (leb a b) x y
  by_le k a b e h p = if_le a b (subst (λ (n : ℕ). n ≤ b) h e) p

  pub by_gt : (k a b : ℕ) → b < k → k ≡ a → r ≡ y → r ≡ cond (leb a b) x y
  by_gt k a b e h p = if_gt a b (subst (λ (n : ℕ). b < n) h e) p

pub eqb_via : (k a b : ℕ) → k ≡ a → eqb k b ≡ eqb a b
eqb_via k a b e = ap (λ (n : ℕ). eqb n b) e

-- two numbers compared that calls gave, k and l
module _ (k l a b : ℕ) where
  pub eqb-both : k ≡ a → l ≡ b → eqb k l ≡ eqb a b
  eqb-both p q = cc

  pub eq-both : k ≡ l → k ≡ a → l ≡ b → eqb a b ≡ true
  eq-both e p q = eq-eqb a b (sym p ∙ e ∙ q)

  pub ne-both : (k ≡ l → ⊥) → k ≡ a → l ≡ b → eqb a b ≡ false
  ne-both e p q = ne_eqb a b (λ z. e (p ∙ z ∙ sym q))

-- a store of what a call gave
pub store_via : (s l : List ℕ) (i v w : ℕ) → l ≡ set s i v → v ≡ w → l ≡ set s i w
store_via s l i v w e q = e ∙ ap (λ (u : ℕ). set s i u) q

pub same : {A : Type 0} (r : A) → r ≡ r
same r = refl

pub ruleset picks = (if_eq, if_ne, if_lt, if_ge, if_true, if_false, same)

pub ruleset calls = (picks, by_true, by_false, by_not, by_not_not, by_lt, by_ge, by_eq, by_ne, eqb_via)

pub ruleset pairs = (eqb-both, eq-both, ne-both)

-- apart from `calls`, since `leb` fits every goal that `ltb` does and so doubles the search
pub ruleset orders = (if_le, if_gt, by_le, by_gt)

-- a test's two cases
pub side : (a b : ℕ) → (a < b) ⊎ (b ≤ a)
side a b = go (ltb a b) refl
  where
    go : (t : Bool) → ltb a b ≡ t → (a < b) ⊎ (b ≤ a)
    go true e = inl (ltb-true a b e)
    go false e = inr (ltb-false a b e)
