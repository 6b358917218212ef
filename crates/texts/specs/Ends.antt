-- Laws of readings: numbers past the end, what a cut is, and where a reading ends. Assumes nothing.
use Rattle.std.specs.Prelude.{ℕ, zero, suc, ◌+◌, ◌-◌, ◌*◌, ◌<◌, ◌≤◌, ◌≡◌, refl, List, [], ◌∷◌, Bool, true, false, cond, leb, ◌⊎◌, length, get_or}
use Rattle.std.proofs.Common.{sym, subst, ◌∙◌, inl, inr, arith, le-leb, leb-true, leb-false}
use Rattle.std.proofs.Math.ListN.{get_or-eq_default}
use Rattle.std.proofs.lemmas.Bool.{lt-leb}
use Rattle.kit.specs.Bools.{not_so}
use Rattle.kit.specs.Pick.{side}
use Rattle.texts.specs.Reading.{Res, ok, bad, and_then, pre, many, u2_at, u4_at, num2_at, num4_at, skip_at, u2}

-- past the end each number is 0
pub past2 : (s : List ℕ) (q : ℕ) → length s ≤ q → 0 ≡ u2_at s q
unfolding u2_at
past2 s q h =
    let a : get_or s q 0 ≡ 0 = get_or-eq_default s 0 h in
    let l : length s ≤ q + 1 = omega arith in
    let b : get_or s (q + 1) 0 ≡ 0 = get_or-eq_default s 0 l in
    omega arith

-- the high half alone, where the low half stands past the end
pub high : (s : List ℕ) (q v : ℕ) → v ≡ u2_at s q → leb (q + 3) (length s) ≡ false → v * 65536 ≡ u4_at s q
unfolding u4_at
high s q v e h = let l : length s < q + 3 = leb-false (q + 3) (length s) h in omega (arith, past2 s (q + 2) (omega arith))

-- what the code's two tests say of k bytes at q that have to end by e
pub cut-before : (e q k : ℕ) → e < q → (false ≡ leb (q + k) e) × (false ≡ true → q + k ≤ e)
cut-before e q k h = (sym (lt-leb (q + k) e (omega arith)), λ z. absurd (not_so z))

pub cut_by : (e q k : ℕ) → q ≤ e → (leb k (e - q) ≡ leb (q + k) e) × (leb k (e - q) ≡ true → q + k ≤ e)
cut_by e q k h = at (side (e - q) k)
  where
    at : (e - q < k) ⊎ (k ≤ e - q) → (leb k (e - q) ≡ leb (q + k) e) × (leb k (e - q) ≡ true → q + k ≤ e)
    at (inl l) = let p = lt-leb k (e - q) l in let r : q + k ≤ e → ⊥ = λ z. omega arith in (p ∙ sym (lt-leb (q + k) e (omega arith)), λ z. absurd (not_so (sym p ∙ z)))
    at (inr l) = (le-leb k (e - q) l ∙ sym (le-leb (q + k) e (omega arith)), λ z. omega arith)

-- what holds of what is read
abbrev pub Holds : {A : Type 0} → (A → ℕ → Type 0) → Res A → Type 0
Holds P (ok v e) = P v e
Holds P (bad n p) = Unit {0}

pub holds_of : {A : Type 0} (P : A → ℕ → Type 0) (x : Res A) (v : A) (e : ℕ) → Holds P x → x ≡ ok v e → P v e
holds_of P x v e h p = subst (Holds P) p h

module _ {A B : Type 0} (P : A → ℕ → Type 0) (Q : B → ℕ → Type 0) where
  pub then-holds : (x : Res A) (f : A → ℕ → Res B) → Holds P x → ((v : A) (e : ℕ) → P v e → Holds Q (f v e)) → Holds Q (and_then x f)
  unfolding and_then
  then-holds (ok v e) f h k = k v e h
  then-holds (bad n p) f h k = tt

pub any-holds : {A B : Type 0} (Q : B → ℕ → Type 0) (x : Res A) (f : A → ℕ → Res B) → ((v : A) (e : ℕ) → Holds Q (f v e)) → Holds Q (and_then x f)
unfolding and_then
any-holds Q (ok v e) f k = k v e
any-holds Q (bad n p) f k = tt

pub cond-holds : {A : Type 0} (Q : A → ℕ → Type 0) (t : Bool) (x y : Res A) → Holds Q x → Holds Q y → Holds Q (cond t x y)
cond-holds Q true x y h k = h
cond-holds Q false x y h k = k

-- where it ends, it ends by n
abbrev pub Ends : {A : Type 0} → ℕ → Res A → Type 0
Ends n (ok v e) = e ≤ n
Ends n (bad m p) = Unit {0}

pub ends_of : {A : Type 0} (n : ℕ) (x : Res A) (v : A) (e : ℕ) → Ends n x → x ≡ ok v e → e ≤ n
ends_of n x v e h p = subst (Ends n) p h

pub then_ends : {A B : Type 0} (n : ℕ) (x : Res A) (f : A → ℕ → Res B) → ((v : A) (e : ℕ) → Ends n (f v e)) → Ends n (and_then x f)
unfolding and_then
then_ends n (ok v e) f h = h v e
then_ends n (bad m p) f h = tt

-- where the last part ends where the one before it did
pub kept_ends : {A B : Type 0} (n : ℕ) (x : Res A) (f : A → ℕ → Res B) → Ends n x → ((v : A) (e : ℕ) → e ≤ n → Ends n (f v e)) → Ends n (and_then x f)
unfolding and_then
kept_ends n (ok v e) f g h = h v e g
kept_ends n (bad m p) f g h = tt

pub cond_ends : {A : Type 0} (n : ℕ) (t : Bool) (x y : Res A) → Ends n x → Ends n y → Ends n (cond t x y)
cond_ends n true x y h k = h
cond_ends n false x y h k = k

fit : {A : Type 0} (v : A) (a n m p : ℕ) (t : Bool) → leb a n ≡ t → Ends n (cond t (ok v a) (bad m p))
fit v a n m p true h = leb-true a n h
fit v a n m p false h = tt

pub num2_ends : (s : List ℕ) (e n p q : ℕ) → Ends e (num2_at s e n p q)
unfolding num2_at
num2_ends s e n p q = fit _ (q + 2) e n p (leb (q + 2) e) refl

pub num4_ends : (s : List ℕ) (e n p q : ℕ) → Ends e (num4_at s e n p q)
unfolding num4_at
num4_ends s e n p q = fit _ (q + 4) e n p (leb (q + 4) e) refl

pub skip_ends : (e n p k q : ℕ) → Ends e (skip_at e n p k q)
unfolding skip_at
skip_ends e n p k q = fit _ (q + k) e n p (leb (q + k) e) refl

pub pre_ends : {A : Type 0} (n : ℕ) (xs : List A) (x : Res (List A)) → Ends n x → Ends n (pre xs x)
unfolding pre
pre_ends n xs (ok v e) h = h
pre_ends n xs (bad m p) h = tt

pub many_ends : {A : Type 0} (n : ℕ) (f : ℕ → Res A) → ((q : ℕ) → Ends n (f q)) → (k q : ℕ) → q ≤ n → Ends n (many f k q)
unfolding many
many_ends n f h zero q l = l
many_ends n f h (suc k) q l = kept_ends n (f q) _ (h q) (λ v e b. pre_ends n (v ∷ []) (many f k e) (many_ends n f h k e b))

-- a number and where it ends
abbrev pub IsU2 : List ℕ → ℕ → ℕ → ℕ → ℕ → Type 0
IsU2 s end q v e = (v ≡ u2_at s q) × (e ≡ q + 2) × (e ≤ end)

pub num2_holds : (s : List ℕ) (end n p q : ℕ) → Holds (IsU2 s end q) (num2_at s end n p q)
unfolding num2_at
num2_holds s end n p q = by (leb (q + 2) end) refl
  where
    by : (t : Bool) → leb (q + 2) end ≡ t → Holds (IsU2 s end q) (cond t (ok (u2_at s q) (q + 2)) (bad n p))
    by true h = (refl, refl, leb-true (q + 2) end h)
    by false h = tt

pub u2-holds : (s : List ℕ) (q : ℕ) → Holds (IsU2 s (length s) q) (u2 s q)
unfolding u2
u2-holds s q = num2_holds s (length s) 2 q q

pub skip_holds : (end n p k q : ℕ) → Holds (λ v e. (v ≡ q) × (e ≡ q + k) × (e ≤ end)) (skip_at end n p k q)
unfolding skip_at
skip_holds end n p k q = by (leb (q + k) end) refl
  where
    by : (t : Bool) → leb (q + k) end ≡ t → Holds (λ v e. (v ≡ q) × (e ≡ q + k) × (e ≤ end)) (cond t (ok q (q + k)) (bad n p))
    by true h = (refl, refl, leb-true (q + k) end h)
    by false h = tt

-- the same of what the code read
pub u2_val : (s : List ℕ) (q v e : ℕ) → ok v e ≡ u2 s q → (v ≡ u2_at s q) × (e ≡ q + 2) × (e ≤ length s)
u2_val s q v e h = holds_of (IsU2 s (length s) q) (u2 s q) v e (u2-holds s q) (sym h)

pub num2_val : (s : List ℕ) (end n p q v e : ℕ) → ok v e ≡ num2_at s end n p q → (v ≡ u2_at s q) × (e ≡ q + 2) × (e ≤ end)
num2_val s end n p q v e h =
    holds_of (IsU2 s end q) (num2_at s end n p q) v e (num2_holds s end n p q) (sym h)

pub skip_val : (end n p k q v e : ℕ) → ok v e ≡ skip_at end n p k q → (v ≡ q) × (e ≡ q + k) × (e ≤ end)
skip_val end n p k q v e h =
    holds_of (λ v e. (v ≡ q) × (e ≡ q + k) × (e ≤ end)) (skip_at end n p k q) v e (skip_holds end n p k q) (sym h)
