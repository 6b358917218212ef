-- A rule of a table of three numbers a row, proved at all of its rows by one test that antt computes. Assumes nothing.
use Rattle.std.specs.Prelude.{ℕ, zero, suc, ◌+◌, ◌*◌, ◌<◌, ◌≡◌, Bool, true, ◌&&◌, List, get_or, drop}
use Rattle.std.proofs.Common.{le_of_suc-le-suc, not-suc-le-zero, add-zero, zero-add, arith, get_or-drop}
use Rattle.kit.specs.Bools.{both_left, both_right}

-- the test passes at each of the n rows, counted from i
abbrev pub every : (ℕ → ℕ → ℕ → ℕ → Bool) → ℕ → ℕ → List ℕ → Bool
every f i zero s = true
every f i (suc n) s = f i (get_or s 0 0) (get_or s 1 0) (get_or s 2 0) && every f (suc i) n (drop 3 s)

from : (f : ℕ → ℕ → ℕ → ℕ → Bool) (n i : ℕ) (s : List ℕ) → every f i n s ≡ true → (k : ℕ) → k < n
    → f (i + k) (get_or s (3 * k) 0) (get_or s (3 * k + 1) 0) (get_or s (3 * k + 2) 0) ≡ true
from f zero i s e k h = absurd (not-suc-le-zero h)
from f (suc n) i s e zero h = rw (add-zero) (both_left (f i (get_or s 0 0) (get_or s 1 0) (get_or s 2 0)) (every f (suc i) n (drop 3 s)) e)
from f (suc n) i s e (suc k) h =
    let a : suc i + k ≡ i + suc k = omega arith in
    let p : 3 + 3 * k ≡ 3 * suc k = omega arith in
    let q : 3 + (3 * k + 1) ≡ 3 * suc k + 1 = omega arith in
    let r : 3 + (3 * k + 2) ≡ 3 * suc k + 2 = omega arith in
    let t = from f n (suc i) (drop 3 s) (both_right (f i (get_or s 0 0) (get_or s 1 0) (get_or s 2 0)) (every f (suc i) n (drop 3 s)) e) k (le_of_suc-le-suc h) in
    cc (t, get_or-drop 3 s (3 * k) 0, get_or-drop 3 s (3 * k + 1) 0, get_or-drop 3 s (3 * k + 2) 0)

pub row : (f : ℕ → ℕ → ℕ → ℕ → Bool) (n : ℕ) (s : List ℕ) → every f 0 n s ≡ true → (k : ℕ) → k < n
    → f k (get_or s (3 * k) 0) (get_or s (3 * k + 1) 0) (get_or s (3 * k + 2) 0) ≡ true
row f n s e k h = cc (from f n 0 s e k h, zero-add k)
