-- A list of bytes as a table of 32-bit words, low byte first: whole words alone, so past the last a read is 0 and a store does nothing.
-- Assumes nothing.
use Rattle.std.specs.Prelude.{ℕ, zero, suc, ◌+◌, ◌*◌, ◌/◌, ◌%◌, ◌^◌, ◌≤◌, ◌<◌, ◌≡◌, refl, cond, List, [], ◌∷◌, ◌++◌, ◌⊎◌, ltb, length, get_or, set, take, drop, replicate}
use Rattle.std.proofs.Common.{sym, ap, ◌∙◌, inl, inr, arith, length-set, length-take, length-drop, length-append, get_or-set_same, get_or-set_other, get_or-take, get_or-drop, get_or-append-add, ext_get_or, lt-ltb, le-ltb}
use Rattle.std.proofs.Math.Decide.{ℕ_discrete}
use Rattle.std.proofs.lemmas.List.{length-replicate}
use Rattle.std.proofs.Math.ListN.{get_or-append, get_or-eq_default}
use Rattle.kit.specs.Pick.{side, same}
use Rattle.kit.specs.Lists.{get_or-replicate_same, length_back, get_or-back-before, get_or-back_in, get_or-back-after}

-- word k
unfoldable pub word : List ℕ → ℕ → ℕ
word s k =
    cond (ltb k (length s / 4))
    (get_or s (4 * k) 0 + 256 * get_or s (4 * k + 1) 0 + 65536 * get_or s (4 * k + 2) 0 + 16777216 * get_or s (4 * k + 3) 0)
    0

-- word k replaced by v
unfoldable pub put_word : List ℕ → ℕ → ℕ → List ℕ
put_word s k v =
    cond (ltb k (length s / 4))
    (set
    (set (set (set s (4 * k) (v % 256)) (4 * k + 1) (v / 256 % 256)) (4 * k + 2) (v / 65536 % 256))
    (4 * k + 3)
    (v / 16777216 % 256))
    s

-- the bytes of a word that is there
pub word_in : (s : List ℕ) (k : ℕ) → k < length s / 4
    → word s k ≡ get_or s (4 * k) 0 + 256 * get_or s (4 * k + 1) 0 + 65536 * get_or s (4 * k + 2) 0 + 16777216 * get_or s (4 * k + 3) 0
unfolding word
word_in s k h = rw (lt-ltb k (length s / 4) h)

pub word_out : (s : List ℕ) (k : ℕ) → length s / 4 ≤ k → word s k ≡ 0
unfolding word
word_out s k h = rw (le-ltb k (length s / 4) h)

pub put_in : (s : List ℕ) (k v : ℕ) → k < length s / 4
    → put_word s k v
    ≡ set (set (set (set s (4 * k) (v % 256)) (4 * k + 1) (v / 256 % 256)) (4 * k + 2) (v / 65536 % 256)) (4 * k + 3) (v / 16777216 % 256)
unfolding put_word
put_in s k v h = rw (lt-ltb k (length s / 4) h)

pub put_out : (s : List ℕ) (k v : ℕ) → length s / 4 ≤ k → put_word s k v ≡ s
unfolding put_word
put_out s k v h = rw (le-ltb k (length s / 4) h)

pub word_lt : (s : List ℕ) (k : ℕ) → ((i : ℕ) → get_or s i 0 < 256) → word s k < 2 ^ 32
word_lt s k b = go (side k (length s / 4))
  where
    go : (k < length s / 4) ⊎ (length s / 4 ≤ k) → word s k < 2 ^ 32
    go (inl h) = omega (arith, word_in s k h, b (4 * k), b (4 * k + 1), b (4 * k + 2), b (4 * k + 3))
    go (inr h) = omega (arith, word_out s k h)

-- two words are equal where their bytes are
pub word_by : (s t : List ℕ) (k j : ℕ) → k < length s / 4 → j < length t / 4 → ((i : ℕ) → i < 4 → get_or s (4 * k + i) 0 ≡ get_or t (4 * j + i) 0)
    → word s k ≡ word t j
word_by s t k j h l e =
    let a : 4 * k + 0 ≡ 4 * k = omega arith in
    let b : 4 * j + 0 ≡ 4 * j = omega arith in
    let z : get_or s (4 * k) 0 ≡ get_or t (4 * j) 0 = ap (λ (n : ℕ). get_or s n 0) (sym a) ∙ e 0 (omega arith) ∙ ap (λ (n : ℕ). get_or t n 0) b in
    omega (arith, word_in s k h, word_in t j l, z, e 1 (omega arith), e 2 (omega arith), e 3 (omega arith))

pub word-zeros : (n k : ℕ) → word (replicate n 0) k ≡ 0
word-zeros n k = go (side k (length {A = ℕ} (replicate n 0) / 4))
  where
    go : (k < length {A = ℕ} (replicate n 0) / 4) ⊎ (length {A = ℕ} (replicate n 0) / 4 ≤ k) → word (replicate n 0) k ≡ 0
    go (inl h) =
        omega (
          arith,
          word_in (replicate n 0) k h,
          get_or-replicate_same {A = ℕ} n (4 * k) 0,
          get_or-replicate_same {A = ℕ} n (4 * k + 1) 0,
          get_or-replicate_same {A = ℕ} n (4 * k + 2) 0,
          get_or-replicate_same {A = ℕ} n (4 * k + 3) 0,
        )
    go (inr h) = word_out (replicate n 0) k h

-- a word of a part
pub word-take : (n : ℕ) (s : List ℕ) (k : ℕ) → 4 * k + 4 ≤ n → word (take n s) k ≡ word s k
word-take n s k h = go (side k (length s / 4))
  where
    go : (k < length s / 4) ⊎ (length s / 4 ≤ k) → word (take n s) k ≡ word s k
    go (inl l) =
        word_by (take n s) s k k (omega (arith, length-take n s)) l (λ i b. get_or-take n s (4 * k + i) 0 (omega arith))
    go (inr l) = word_out (take n s) k (omega (arith, length-take n s)) ∙ sym (word_out s k l)

pub word-drop : (a : ℕ) (s : List ℕ) (k : ℕ) → word (drop (4 * a) s) k ≡ word s (a + k)
word-drop a s k = go (side (a + k) (length s / 4))
  where
    at : (i : ℕ) → 4 * a + (4 * k + i) ≡ 4 * (a + k) + i
    at i = omega arith

    go : (a + k < length s / 4) ⊎ (length s / 4 ≤ a + k) → word (drop (4 * a) s) k ≡ word s (a + k)
    go (inl l) =
        word_by (drop (4 * a) s) s k (a + k) (omega (arith, length-drop (4 * a) s)) l
        (λ i b. get_or-drop (4 * a) s (4 * k + i) 0 ∙ ap (λ (n : ℕ). get_or s n 0) (at i))
    go (inr l) = word_out (drop (4 * a) s) k (omega (arith, length-drop (4 * a) s)) ∙ sym (word_out s (a + k) l)

pub word-part : (a n : ℕ) (s : List ℕ) (k : ℕ) → 4 * k + 4 ≤ n → word (take n (drop (4 * a) s)) k ≡ word s (a + k)
word-part a n s k h = word-take n (drop (4 * a) s) k h ∙ word-drop a s k

pub word-append_left : (s t : List ℕ) (k : ℕ) → k < length s / 4 → word (s ++ t) k ≡ word s k
word-append_left s t k h =
    word_by (s ++ t) s k k (omega (arith, length-append s t)) h (λ i b. get_or-append s t 0 (4 * k + i) (omega arith))

pub word-append_right : (s t : List ℕ) (a k : ℕ) → length s ≡ 4 * a → word (s ++ t) (a + k) ≡ word t k
word-append_right s t a k e = go (side k (length t / 4))
  where
    at : (i : ℕ) → 4 * (a + k) + i ≡ length s + (4 * k + i)
    at i = omega arith

    go : (k < length t / 4) ⊎ (length t / 4 ≤ k) → word (s ++ t) (a + k) ≡ word t k
    go (inl l) =
        word_by (s ++ t) t (a + k) k (omega (arith, length-append s t)) l
        (λ i b. ap (λ (n : ℕ). get_or (s ++ t) n 0) (at i) ∙ get_or-append-add s t (4 * k + i) 0)
    go (inr l) = word_out (s ++ t) (a + k) (omega (arith, length-append s t)) ∙ sym (word_out t k l)

-- a buffer whose n bytes from word a on came back as m: what a `&mut` part of a slice leaves, in the checker's form (`put_mid`)
module _ (l m : List ℕ) (a n : ℕ) (h : length m ≡ n) (f : 4 * a + n ≤ length l) where
  pub word-back-before : (k : ℕ) → k < a → word (take (4 * a) l ++ (m ++ drop n (drop (4 * a) l))) k ≡ word l k
  word-back-before k b =
      word_by (take (4 * a) l ++ (m ++ drop n (drop (4 * a) l))) l k k (omega (arith, length_back l m (4 * a) n h f)) (omega arith)
      (λ i c. get_or-back-before l m (4 * a) n h f (4 * k + i) 0 (omega arith))

  pub word-back_in : (k : ℕ) → k < n / 4 → word (take (4 * a) l ++ (m ++ drop n (drop (4 * a) l))) (a + k) ≡ word m k
  word-back_in k b =
      word_by (take (4 * a) l ++ (m ++ drop n (drop (4 * a) l))) m (a + k) k (omega (arith, length_back l m (4 * a) n h f)) (omega arith)
      (λ i c. ap (λ (j : ℕ). get_or (take (4 * a) l ++ (m ++ drop n (drop (4 * a) l))) j 0) (at i) ∙ get_or-back_in l m (4 * a) n h f (4 * k + i) 0 (omega arith))
    where
      at : (i : ℕ) → 4 * (a + k) + i ≡ 4 * a + (4 * k + i)
      at i = omega arith

  pub word-back-after : (k : ℕ) → 4 * a + n ≤ 4 * k → word (take (4 * a) l ++ (m ++ drop n (drop (4 * a) l))) k ≡ word l k
  word-back-after k b = go (side k (length l / 4))
    where
      go : (k < length l / 4) ⊎ (length l / 4 ≤ k) → word (take (4 * a) l ++ (m ++ drop n (drop (4 * a) l))) k ≡ word l k
      go (inl c) =
          word_by (take (4 * a) l ++ (m ++ drop n (drop (4 * a) l))) l k k (omega (arith, length_back l m (4 * a) n h f)) c
          (λ i d. get_or-back-after l m (4 * a) n h f (4 * k + i) 0 (omega arith))
      go (inr c) =
          word_out (take (4 * a) l ++ (m ++ drop n (drop (4 * a) l))) k (omega (arith, length_back l m (4 * a) n h f)) ∙ sym (word_out l k c)

-- a byte stored outside a word
pub word-set_other : (s : List ℕ) (i b k : ℕ) → (i / 4 ≡ k → ⊥) → word (set s i b) k ≡ word s k
word-set_other s i b k n = go (side k (length s / 4))
  where
    go : (k < length s / 4) ⊎ (length s / 4 ≤ k) → word (set s i b) k ≡ word s k
    go (inl l) =
        word_by (set s i b) s k k (omega (arith, length-set s i b)) l
        (λ j c. get_or-set_other s i (4 * k + j) b 0 (λ e. n (omega arith)))
    go (inr l) = word_out (set s i b) k (omega (arith, length-set s i b)) ∙ sym (word_out s k l)

-- four stores in a row: what then stands at each place
abbrev put4 : List ℕ → ℕ → ℕ → ℕ → ℕ → ℕ → List ℕ
put4 s a w x y z = set (set (set (set s a w) (a + 1) x) (a + 2) y) (a + 3) z

module _ (s : List ℕ) (a w x y z : ℕ) where
  length4 : length (put4 s a w x y z) ≡ length s
  length4 = simp length-set

  off : (j : ℕ) → (j ≡ a → ⊥) → (j ≡ a + 1 → ⊥) → (j ≡ a + 2 → ⊥) → (j ≡ a + 3 → ⊥) → get_or (put4 s a w x y z) j 0 ≡ get_or s j 0
  off j n0 n1 n2 n3 =
      get_or-set_other (set (set (set s a w) (a + 1) x) (a + 2) y) (a + 3) j z 0 n3
      ∙ get_or-set_other (set (set s a w) (a + 1) x) (a + 2) j y 0 n2
      ∙ get_or-set_other (set s a w) (a + 1) j x 0 n1
      ∙ get_or-set_other s a j w 0 n0

  module _ (h : a + 4 ≤ length s) where
    at0 : get_or (put4 s a w x y z) a 0 ≡ w
    at0 =
        get_or-set_other (set (set (set s a w) (a + 1) x) (a + 2) y) (a + 3) a z 0 (λ e. omega arith)
        ∙ get_or-set_other (set (set s a w) (a + 1) x) (a + 2) a y 0 (λ e. omega arith)
        ∙ get_or-set_other (set s a w) (a + 1) a x 0 (λ e. omega arith)
        ∙ get_or-set_same s a w 0 (omega arith)

    at1 : get_or (put4 s a w x y z) (a + 1) 0 ≡ x
    at1 =
        get_or-set_other (set (set (set s a w) (a + 1) x) (a + 2) y) (a + 3) (a + 1) z 0 (λ e. omega arith)
        ∙ get_or-set_other (set (set s a w) (a + 1) x) (a + 2) (a + 1) y 0 (λ e. omega arith)
        ∙ get_or-set_same (set s a w) (a + 1) x 0 (simp length-set (omega arith))

    at2 : get_or (put4 s a w x y z) (a + 2) 0 ≡ y
    at2 =
        get_or-set_other (set (set (set s a w) (a + 1) x) (a + 2) y) (a + 3) (a + 2) z 0 (λ e. omega arith)
        ∙ get_or-set_same (set (set s a w) (a + 1) x) (a + 2) y 0 (simp length-set (omega arith))

    at3 : get_or (put4 s a w x y z) (a + 3) 0 ≡ z
    at3 = get_or-set_same (set (set (set s a w) (a + 1) x) (a + 2) y) (a + 3) z 0 (simp length-set (omega arith))

pub length_put : (s : List ℕ) (k v : ℕ) → length (put_word s k v) ≡ length s
length_put s k v = go (side k (length s / 4))
  where
    go : (k < length s / 4) ⊎ (length s / 4 ≤ k) → length (put_word s k v) ≡ length s
    go (inl h) = ap length (put_in s k v h) ∙ length4 s (4 * k) (v % 256) (v / 256 % 256) (v / 65536 % 256) (v / 16777216 % 256)
    go (inr h) = ap length (put_out s k v h)

-- reading back what was put
pub word_same : (s : List ℕ) (k v : ℕ) → k < length s / 4 → v < 2 ^ 32 → word (put_word s k v) k ≡ v
word_same s k v h f =
    let e1 : v / 256 ≡ v / 256 % 256 + 256 * (v / 65536) = omega arith in
    let e2 : v / 65536 ≡ v / 65536 % 256 + 256 * (v / 16777216) = omega arith in
    let e3 : v / 16777216 % 256 ≡ v / 16777216 = omega arith in
    let n : k < length (put4 s (4 * k) (v % 256) (v / 256 % 256) (v / 65536 % 256) (v / 16777216 % 256)) / 4 =
    omega (arith, length4 s (4 * k) (v % 256) (v / 256 % 256) (v / 65536 % 256) (v / 16777216 % 256)) in
    ap (λ (l : List ℕ). word l k) (put_in s k v h)
    ∙ omega (
      arith,
      word_in (put4 s (4 * k) (v % 256) (v / 256 % 256) (v / 65536 % 256) (v / 16777216 % 256)) k n,
      at0 s (4 * k) (v % 256) (v / 256 % 256) (v / 65536 % 256) (v / 16777216 % 256) (omega arith),
      at1 s (4 * k) (v % 256) (v / 256 % 256) (v / 65536 % 256) (v / 16777216 % 256) (omega arith),
      at2 s (4 * k) (v % 256) (v / 256 % 256) (v / 65536 % 256) (v / 16777216 % 256) (omega arith),
      at3 s (4 * k) (v % 256) (v / 256 % 256) (v / 65536 % 256) (v / 16777216 % 256) (omega arith),
    )

-- a byte outside word k stays
pub byte_other : (s : List ℕ) (k v j : ℕ) → (j / 4 ≡ k → ⊥) → get_or (put_word s k v) j 0 ≡ get_or s j 0
byte_other s k v j n = go (side k (length s / 4))
  where
    go : (k < length s / 4) ⊎ (length s / 4 ≤ k) → get_or (put_word s k v) j 0 ≡ get_or s j 0
    go (inl h) =
        ap (λ (l : List ℕ). get_or l j 0) (put_in s k v h)
        ∙ off s (4 * k) (v % 256) (v / 256 % 256) (v / 65536 % 256) (v / 16777216 % 256) j (λ e. n (omega arith))
        (λ e. n (omega arith))
        (λ e. n (omega arith))
        (λ e. n (omega arith))
    go (inr h) = ap (λ (l : List ℕ). get_or l j 0) (put_out s k v h)

-- the other words stay
pub word_other : (s : List ℕ) (k v j : ℕ) → (j ≡ k → ⊥) → word (put_word s k v) j ≡ word s j
word_other s k v j n = go (side j (length s / 4))
  where
    go : (j < length s / 4) ⊎ (length s / 4 ≤ j) → word (put_word s k v) j ≡ word s j
    go (inl h) =
        word_by (put_word s k v) s j j (omega (arith, length_put s k v)) h
        (λ i b. byte_other s k v (4 * j + i) (λ e. n (omega arith)))
    go (inr h) = word_out (put_word s k v) j (omega (arith, length_put s k v)) ∙ sym (word_out s j h)

-- the whole table
words_from : ℕ → List ℕ → ℕ → List ℕ
words_from zero s k = []
words_from (suc n) s k = word s k ∷ words_from n s (suc k)

pub words : List ℕ → List ℕ
words s = words_from (length s / 4) s 0

length_from : (n : ℕ) (s : List ℕ) (k : ℕ) → length (words_from n s k) ≡ n
unfolding words_from
length_from zero s k = refl
length_from (suc n) s k = ap suc (length_from n s (suc k))

pub length_words : (s : List ℕ) → length (words s) ≡ length s / 4
unfolding words
length_words s = length_from (length s / 4) s 0

at_from : (n : ℕ) (s : List ℕ) (k i : ℕ) → i < n → get_or (words_from n s k) i 0 ≡ word s (k + i)
unfolding words_from
at_from zero s k i h = absurd (omega arith)
at_from (suc n) s k zero h = ap (word s) (omega arith)
at_from (suc n) s k (suc i) h = at_from n s (suc k) i (omega arith) ∙ ap (word s) (omega arith)

pub words_at : (s : List ℕ) (k : ℕ) → get_or (words s) k 0 ≡ word s k
unfolding words
words_at s k = go (side k (length s / 4))
  where
    go : (k < length s / 4) ⊎ (length s / 4 ≤ k) → get_or (words_from (length s / 4) s 0) k 0 ≡ word s k
    go (inl h) = at_from (length s / 4) s 0 k h ∙ ap (word s) (omega arith)
    go (inr h) =
        get_or-eq_default (words_from (length s / 4) s 0) 0 (omega (arith, length_from (length s / 4) s 0)) ∙ sym (word_out s k h)

-- a put is a store in the table: callers see `set` and `get_or` of `words`, and no bytes
pub words_put : (s : List ℕ) (k v : ℕ) → v < 2 ^ 32 → words (put_word s k v) ≡ set (words s) k v
words_put s k v f =
    ext_get_or 0 (words (put_word s k v)) (set (words s) k v)
    (length_words (put_word s k v) ∙ ap (λ (n : ℕ). n / 4) (length_put s k v) ∙ sym (length_words s) ∙ sym (length-set (words s) k v))
    (λ i b. at i (rw (length_words, length_put) at b) (ℕ_discrete i k))
  where
    at : (i : ℕ) → i < length s / 4 → Dec (i ≡ k) → get_or (words (put_word s k v)) i 0 ≡ get_or (set (words s) k v) i 0
    at i b (yes e) =
        rw (e) (words_at (put_word s k v) k ∙ word_same s k v (omega arith) f
        ∙ sym (get_or-set_same (words s) k v 0 (rw length_words (omega arith))))
    at i b (no n) =
        words_at (put_word s k v) i ∙ word_other s k v i n ∙ sym (words_at s i)
        ∙ sym (get_or-set_other (words s) k i v 0 n)

pub words_zeros : (n : ℕ) → words (replicate n 0) ≡ replicate (n / 4) 0
words_zeros n =
    ext_get_or 0 (words (replicate n 0)) (replicate (n / 4) 0)
    (length_words (replicate n 0) ∙ ap (λ (m : ℕ). m / 4) (length-replicate n 0) ∙ sym (length-replicate (n / 4) 0))
    (λ i b. words_at (replicate n 0) i ∙ word-zeros n i ∙ sym (get_or-replicate_same (n / 4) i 0))

-- The same for `search`, where a function's contract speaks of the table: w is what is known of it before.
module _ (s w : List ℕ) (k : ℕ) where
  pub table_get : (r : ℕ) → r ≡ word s k → words s ≡ w → r ≡ get_or w k 0
  table_get r e h = e ∙ sym (words_at s k) ∙ ap (λ (l : List ℕ). get_or l k 0) h

  pub table_put : (t : List ℕ) (v x : ℕ) → t ≡ put_word s k v → v < 2 ^ 32 → words s ≡ w → v ≡ x → words t ≡ set w k x
  table_put t v x e f h q = ap words e ∙ words_put s k v f ∙ ap (λ (l : List ℕ). set l k v) h ∙ ap (set w k) q

pub ruleset tables = (table_get, table_put, same)
