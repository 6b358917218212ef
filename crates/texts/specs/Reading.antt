-- What reading gives: a value and the position past it, or the first fault's number and place.
use Rattle.std.specs.Prelude.{ℕ, zero, suc, ◌+◌, ◌*◌, List, [], ◌∷◌, ◌++◌, cond, length, get_or, take, drop, leb, ltb}

pub data Res (A : Type 0) : Type 0 where
  ok : A → ℕ → Res A
  bad : ℕ → ℕ → Res A

-- first this, then what follows it: the first fault ends it
unfoldable pub and_then : {A B : Type 0} → Res A → (A → ℕ → Res B) → Res B
and_then (ok v e) f = f v e
and_then (bad n p) f = bad n p

-- a list in front of the list that is read
unfoldable pub pre : {A : Type 0} → List A → Res (List A) → Res (List A)
pre xs (ok ys e) = ok (xs ++ ys) e
pre xs (bad n p) = bad n p

-- items[n]
unfoldable pub many : {A : Type 0} → (ℕ → Res A) → ℕ → ℕ → Res (List A)
many f zero q = ok [] q
many f (suc n) q = and_then (f q) λ a e. pre (a ∷ []) (many f n e)

-- items[n], of which a sum is kept
unfoldable pub sum_at : {A B : Type 0} → (ℕ → Res A) → (B → A → B) → ℕ → B → ℕ → Res B
sum_at f g zero b q = ok b q
sum_at f g (suc n) b q = and_then (f q) λ a e. sum_at f g n (g b a) e

-- numbers, high byte first
unfoldable pub u2_at : List ℕ → ℕ → ℕ
u2_at s q = get_or s q 0 * 256 + get_or s (q + 1) 0

unfoldable pub u4_at : List ℕ → ℕ → ℕ
u4_at s q = u2_at s q * 65536 + u2_at s (q + 2)

-- the number at q, which has to end by e: otherwise the fault n at p
unfoldable pub num2_at : List ℕ → ℕ → ℕ → ℕ → ℕ → Res ℕ
num2_at s e n p q = cond (leb (q + 2) e) (ok (u2_at s q) (q + 2)) (bad n p)

unfoldable pub num4_at : List ℕ → ℕ → ℕ → ℕ → ℕ → Res ℕ
num4_at s e n p q = cond (leb (q + 4) e) (ok (u4_at s q) (q + 4)) (bad n p)

-- k bytes at q; the value is where they start
unfoldable pub skip_at : ℕ → ℕ → ℕ → ℕ → ℕ → Res ℕ
skip_at e n p k q = cond (leb (q + k) e) (ok q (q + k)) (bad n p)

-- a number of at most `most`, else 4 where it stands
unfoldable pub short_at : List ℕ → ℕ → ℕ → ℕ → ℕ → ℕ → Res ℕ
short_at s e n p most q = and_then (num2_at s e n p q) λ v a. cond (ltb most v) (bad 4 q) (ok v a)

-- a number of the bundle itself: cut short it is 2 where it stands
unfoldable pub u2 : List ℕ → ℕ → Res ℕ
u2 s q = num2_at s (length s) 2 q q

unfoldable pub u4 : List ℕ → ℕ → Res ℕ
u4 s q = num4_at s (length s) 2 q q

-- n bytes from a on
unfoldable pub part : List ℕ → ℕ → ℕ → List ℕ
part s a n = take n (drop a s)
