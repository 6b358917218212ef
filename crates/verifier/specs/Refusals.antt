-- Whatever is wrong with frame k is 14 at k, so that code may refuse before all is read. Assumes nothing.
use Rattle.std.specs.Prelude.{ℕ, ◌≡◌, refl}
use Rattle.std.proofs.Common.{sym, ap, ◌∙◌, arith}
use Rattle.texts.specs.Reading.{Res, ok, bad, and_then}
use Rattle.verifier.specs.CleanFaults.{clean}

-- a fault at another type
elsewhere : {A B : Type 0} → Res A → Res B
elsewhere (ok v e) = bad 0 0
elsewhere (bad n p) = bad n p

pub no_ok_bad : {A : Type 0} (n p : ℕ) (v : A) (e : ℕ) → ◌≡◌ {A = Res A} (bad n p) (ok v e) → ⊥
no_ok_bad n p v e h = let z : ◌≡◌ {A = ℕ} 0 1 = cc in absurd (omega arith)

pub then-then : {A B C : Type 0} (r : Res A) (f : A → ℕ → Res B) (g : B → ℕ → Res C) → and_then (and_then r f) g ≡ and_then r (λ v e. and_then (f v e) g)
unfolding and_then
then-then (ok v e) f g = refl
then-then (bad n p) f g = refl

-- nothing that it gives goes on
pub then_bad : {A B : Type 0} (k : ℕ) (r : Res A) (f : A → ℕ → Res B) → clean k r ≡ r → ((v : A) (e : ℕ) → r ≡ ok v e → f v e ≡ bad 14 k) → and_then r f ≡ bad 14 k
unfolding and_then elsewhere
then_bad k (ok v e) f c h = h v e refl
then_bad {A = A} {B = B} k (bad n p) f c h = sym (ap (elsewhere {A = A} {B = B}) c)

-- it is a fault itself
pub fault-then : {A B : Type 0} (k : ℕ) (r : Res A) (f : A → ℕ → Res B) → clean k r ≡ r → (n p : ℕ) → r ≡ bad n p → and_then r f ≡ bad 14 k
fault-then k r f c n p h = then_bad k r f c (λ v e z. absurd (no_ok_bad n p v e (sym h ∙ z)))
