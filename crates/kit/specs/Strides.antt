-- Rows of w bytes from b on, gone over by the index of the next one: where it stands, and how many of n are left. Assumes nothing.
use Rattle.std.specs.Prelude.{ℕ, ◌+◌, ◌-◌, ◌*◌, ◌≡◌}
use Rattle.std.proofs.Common.{subst, arith}

module _ (P : ℕ → ℕ → Type 0) (w b n : ℕ) where
  pub stride_first : P b n → P (b + w * 0) (n - 0)
  stride_first p =
      let e : b ≡ b + w * 0 = omega arith in
      let f : n ≡ n - 0 = omega arith in
      subst (λ (j : ℕ). P (b + w * 0) j) f (subst (λ (q : ℕ). P q n) e p)

  pub stride_next : (k : ℕ) → P (b + w * k + w) (n - k - 1) → P (b + w * (k + 1)) (n - (k + 1))
  stride_next k p =
      let e : b + w * k + w ≡ b + w * (k + 1) = grind arith in
      let f : n - k - 1 ≡ n - (k + 1) = omega arith in
      subst (λ (j : ℕ). P (b + w * (k + 1)) j) f (subst (λ (q : ℕ). P q (n - k - 1)) e p)
