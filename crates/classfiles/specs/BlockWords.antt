-- Words of a block as they are written: what a store leaves alone, and rows one after the other. Assumes nothing.
use Rattle.std.specs.Prelude.{◌≡◌, List, [], ◌∷◌, ◌++◌, length, get_or, take}
use Rattle.std.proofs.Common.{sym, ◌∙◌, arith, add-one, length-take, ext_get_or, get_or-take, take-take, ℕ, zero, suc, ◌+◌, ◌*◌, ◌^◌, ◌<◌, ◌≤◌, min, refl, ap, length-append}
use Rattle.kit.specs.Words.{word, put_word, word-take, word_same, word_other, byte_other, length_put}
use Rattle.classfiles.specs.Pool.{Constant}
use Rattle.classfiles.specs.Members.{Member}
use Rattle.classfiles.specs.Blocks.{listed, put3, row_in, rows_in}

-- ---- a list by its elements
module _ {A : Type 0} where
  pub listed_same : (f g : ℕ → A) (n : ℕ) → ((i : ℕ) → i < n → f i ≡ g i) → listed f n ≡ listed g n
  unfolding listed
  listed_same f g zero h = refl
  listed_same f g (suc n) h =
      let p : listed f n ≡ listed g n = listed_same f g n (λ i l. h i (omega arith)) in
      let q : f n ≡ g n = h n (omega arith) in
      cc

  pub listed_next : (f : ℕ → A) (n : ℕ) → listed f (n + 1) ≡ listed f n ++ (f n ∷ [])
  unfolding listed
  listed_next f n = ap (listed f) (add-one n)

  pub length-listed : (f : ℕ → A) (n : ℕ) → length (listed f n) ≡ n
  unfolding listed
  length-listed f zero = refl
  length-listed f (suc n) = length-append (listed f n) (f n ∷ []) ∙ omega (arith, length-listed f n)

-- ---- what stands below a word
module _ (n : ℕ) (b c : List ℕ) (e : take (4 * n) c ≡ take (4 * n) b) where
  pub kept_word : (k : ℕ) → k < n → word c k ≡ word b k
  kept_word k h =
      sym (word-take (4 * n) c k (omega arith)) ∙ ap (λ (l : List ℕ). word l k) e ∙ word-take (4 * n) b k (omega arith)

  pub kept_take : (k : ℕ) → k ≤ n → take (4 * k) c ≡ take (4 * k) b
  kept_take k h =
      sym (take-take (4 * k) (4 * n) c (omega arith)) ∙ ap (take (4 * k)) e ∙ take-take (4 * k) (4 * n) b (omega arith)

pub take_put : (n : ℕ) (b : List ℕ) (k v : ℕ) → n ≤ k → take (4 * n) (put_word b k v) ≡ take (4 * n) b
take_put n b k v h =
    ext_get_or 0 (take (4 * n) (put_word b k v)) (take (4 * n) b)
    (length-take (4 * n) (put_word b k v) ∙ ap (min (4 * n)) (length_put b k v) ∙ sym (length-take (4 * n) b))
    (λ i l. at i (omega (arith, length-take (4 * n) (put_word b k v))))
  where
    at : (i : ℕ) → i < 4 * n → get_or (take (4 * n) (put_word b k v)) i 0 ≡ get_or (take (4 * n) b) i 0
    at i l = get_or-take (4 * n) (put_word b k v) i 0 l ∙ byte_other b k v i (λ e. omega arith) ∙ sym (get_or-take (4 * n) b i 0 l)

-- ---- three words
module _ (b : List ℕ) (w x y z : ℕ) where
  pub length-put3 : length (put3 b w x y z) ≡ length b
  unfolding put3
  length-put3 = length_put _ (w + 2) z ∙ length_put _ (w + 1) y ∙ length_put b w x

  pub take-put3 : (n : ℕ) → n ≤ w → take (4 * n) (put3 b w x y z) ≡ take (4 * n) b
  unfolding put3
  take-put3 n h = take_put n _ (w + 2) z (omega arith) ∙ take_put n _ (w + 1) y (omega arith) ∙ take_put n b w x h

  pub put3_other : (k : ℕ) → (k ≡ w → ⊥) → (k ≡ w + 1 → ⊥) → (k ≡ w + 2 → ⊥) → word (put3 b w x y z) k ≡ word b k
  unfolding put3
  put3_other k f g h = word_other _ (w + 2) z k h ∙ word_other _ (w + 1) y k g ∙ word_other b w x k f

  module _ (l : 4 * (w + 3) ≤ length b) where
    pub put3_0 : x < 2 ^ 32 → word (put3 b w x y z) w ≡ x
    unfolding put3
    put3_0 h = word_other _ (w + 2) z w (λ e. omega arith) ∙ word_other _ (w + 1) y w (λ e. omega arith) ∙ word_same b w x (omega arith) h

    pub put3_1 : y < 2 ^ 32 → word (put3 b w x y z) (w + 1) ≡ y
    unfolding put3
    put3_1 h = word_other _ (w + 2) z (w + 1) (λ e. omega arith) ∙ word_same _ (w + 1) y (omega (arith, length_put b w x)) h

    pub put3_2 : z < 2 ^ 32 → word (put3 b w x y z) (w + 2) ≡ z
    unfolding put3
    put3_2 h = word_same _ (w + 2) z (omega (arith, length_put (put_word b w x) (w + 1) y, length_put b w x)) h

-- ---- rows
module _ (s : List ℕ) (pool : List Constant) where
  pub row_by : (b c : List ℕ) (w : ℕ) → ((j : ℕ) → w ≤ j → j < w + 6 → word c j ≡ word b j) → row_in s pool c w ≡ row_in s pool b w
  unfolding row_in
  row_by b c w h =
      rw (h w (omega arith) (omega arith), h (w + 1) (omega arith) (omega arith), h (w + 2) (omega arith) (omega arith), h (w + 3) (omega arith) (omega arith), h (w + 4) (omega arith) (omega arith), h (w + 5) (omega arith) (omega arith))

  -- rows of the same words
  pub rows_by : (b c : List ℕ) (w m : ℕ) → ((j : ℕ) → w ≤ j → j < w + 6 * m → word c j ≡ word b j) → rows_in s pool c w m ≡ rows_in s pool b w m
  unfolding rows_in
  rows_by b c w m h =
      listed_same (λ i. row_in s pool c (w + 6 * i)) (λ i. row_in s pool b (w + 6 * i)) m (λ i l. row_by b c (w + 6 * i) (λ j x y. h j (omega arith) (omega arith)))

  -- one more row is written behind m of them
  pub rows_next : (b c : List ℕ) (w m : ℕ) (v : Member) → take (4 * (w + 6 * m)) c ≡ take (4 * (w + 6 * m)) b → row_in s pool c (w + 6 * m) ≡ v
      → rows_in s pool c w (m + 1) ≡ rows_in s pool b w m ++ (v ∷ [])
  unfolding rows_in
  rows_next b c w m v e h =
      let p : rows_in s pool c w m ≡ rows_in s pool b w m = rows_by b c w m (λ j x y. kept_word (w + 6 * m) b c e j (omega arith)) in
      listed_next (λ i. row_in s pool c (w + 6 * i)) m ∙ cc
