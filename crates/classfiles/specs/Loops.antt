-- Items in a row, as a loop reads them: those read so far are in front of those that are left. Assumes nothing.
use Rattle.std.specs.Prelude.{ℕ, suc, ◌+◌, ◌-◌, ◌<◌, ◌≤◌, ◌≡◌, refl, List, [], ◌∷◌, ◌++◌}
use Rattle.std.proofs.Common.{sym, ap, ◌∙◌, arith, append_assoc, append-nil}
use Rattle.texts.specs.Reading.{Res, ok, bad, and_then, pre, many, sum_at}

one_less : (n : ℕ) → 0 < n → n ≡ suc (n - 1)
one_less n h = omega arith

less_one : (k : ℕ) → suc k - 1 ≡ k
less_one k = omega arith

module _ {A : Type 0} where
  pub pre_nil : (x : Res (List A)) → pre [] x ≡ x
  unfolding pre
  pre_nil (ok ys e) = refl
  pre_nil (bad n p) = refl

  pub pre-pre : (xs ys : List A) (x : Res (List A)) → pre xs (pre ys x) ≡ pre (xs ++ ys) x
  unfolding pre
  pre-pre xs ys (ok zs e) = ap (λ (l : List A). ok l e) (sym (append_assoc xs ys zs))
  pre-pre xs ys (bad n p) = refl

  module _ (f : ℕ → Res A) (xs : List A) (n q : ℕ) where
    pub many_none : n ≤ 0 → pre xs (many f n q) ≡ ok xs q
    unfolding many pre
    many_none h = let e : n ≡ 0 = omega arith in rw e (ap (λ (l : List A). ok l q) (append-nil xs))

    pub many_bad : (m p : ℕ) → 0 < n → f q ≡ bad m p → pre xs (many f n q) ≡ bad m p
    unfolding many pre and_then
    many_bad m p h e = rw (one_less n h) (simp (many, e))

    pub many_more : (a : A) (e : ℕ) → 0 < n → f q ≡ ok a e → pre xs (many f n q) ≡ pre (xs ++ (a ∷ [])) (many f (n - 1) e)
    unfolding many and_then
    many_more a e h x = rw (one_less n h) (simp (many, x, pre-pre, less_one))

  -- a loop that counts k up to n: x is what is to be read, a the answer at hand and v what it stands for
  module _ (f : ℕ → Res A) (n k q : ℕ) (xs : List A) (x : Res (List A)) (i : pre xs (many f (n - k) q) ≡ x) where
    pub many_done : n ≤ k → ok xs q ≡ x
    many_done h = sym (many_none f xs (n - k) q (omega arith)) ∙ i

    module _ (h : k < n) where
      pub many_stop : (m p : ℕ) → bad m p ≡ f q → bad m p ≡ x
      many_stop m p e = sym (many_bad f xs (n - k) q m p (omega arith) (sym e)) ∙ i

      pub many_next : (v : A) (a : ℕ) → ok v a ≡ f q → pre (xs ++ (v ∷ [])) (many f (n - (k + 1)) a) ≡ x
      many_next v a e =
          let z : n - (k + 1) ≡ n - k - 1 = omega arith in
          ap (λ (m : ℕ). pre (xs ++ (v ∷ [])) (many f m a)) z
          ∙ sym (many_more f xs (n - k) q v a (omega arith) (sym e))
          ∙ i

-- a loop that counts k up to n and keeps the items' sum
module _ {A B : Type 0} (f : ℕ → Res A) (g : B → A → B) (n k q : ℕ) (b : B) (x : Res B) (i : sum_at f g (n - k) b q ≡ x) where
  pub sum_none : n ≤ k → ok b q ≡ x
  unfolding sum_at
  sum_none h = let e : n - k ≡ 0 = omega arith in sym (rw e) ∙ i

  module _ (h : k < n) where
    left : n - k ≡ suc (n - (k + 1))
    left = omega arith

    pub sum_bad : (m p : ℕ) → bad m p ≡ f q → bad m p ≡ x
    unfolding sum_at and_then
    sum_bad m p e = let d : f q ≡ bad m p = sym e in sym (rw left (simp (sum_at, d))) ∙ i

    -- the new sum is told apart
    pub sum_more : (v : A) (a : ℕ) → ok v a ≡ f q → (d : B) → d ≡ g b v → sum_at f g (n - (k + 1)) d a ≡ x
    unfolding sum_at and_then
    sum_more v a e d z = let w : f q ≡ ok v a = sym e in rw z (sym (rw left (simp (sum_at, w))) ∙ i)
