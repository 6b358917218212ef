-- The check of a pool once it is read, as the code makes it. Assumes nothing.
use Rattle.std.specs.Prelude.{ℕ, ◌+◌, ◌-◌, ◌*◌, ◌/◌, ◌<◌, ◌≤◌, Bool, cond, eqb, get_or, take}
use Rattle.std.proofs.Common.{sym, ◌∙◌, arith, ext_get_or, length-take-le, get_or-take, ◌≡◌, refl, ap, List, true, false, length, lt-ltb, le-ltb, eq-eqb, ne_eqb}
use Rattle.kit.specs.Scan.{first_not, scan_start, next, hit, past}
use Rattle.kit.specs.Words.{word, words, words_at, word-take, length_words}
use Rattle.texts.specs.Reading.{Res, ok, bad, u2_at, u4_at, part}
use Rattle.classfiles.specs.Descriptors.{class_type_at}
use Rattle.classfiles.specs.Shapes.{seen, class_shape, class-shape}
use Rattle.classfiles.specs.Pool.{Constant, absent, utf8, integer, class_at, fieldref, methodref, name_and_type, constant_at, constants, entry, text, is_utf8, is_class, is_name_and_type, res_fault, name_fault, pair_fault, constant_fault, entry_fault, judged_at, checked_at}
use Rattle.classfiles.specs.Table.{pool_in, length-pool}
use Rattle.classfiles.specs.Tags.{at_class, at_field, at_method, at_pair}

unfoldable pub sound : List Constant → ℕ → Bool
sound pool i = eqb (entry_fault pool i) 0

-- the first entry in index order with a fault, or the count
unfoldable pub first_fault : List Constant → ℕ
first_fault pool = first_not (sound pool) (length pool) 0

-- a Class's name, from what the reading of its form says
module _ {A : Type 0} (x : Res A) where
  fault_none : (e : ℕ) → ◌≡◌ {A = Res ℕ} (ok 0 e) (seen (λ a. 0) x) → 0 ≡ res_fault x
  unfolding seen
  fault_none e h = go x h
    where
      go : (x : Res A) → ◌≡◌ {A = Res ℕ} (ok 0 e) (seen (λ a. 0) x) → 0 ≡ res_fault x
      go (ok v a) p = refl
      go (bad n q) p = cc

  fault_some : (n p : ℕ) → ◌≡◌ {A = Res ℕ} (bad n p) (seen (λ a. 0) x) → n ≡ res_fault x
  unfolding seen
  fault_some n p h = go x h
    where
      go : (x : Res A) → ◌≡◌ {A = Res ℕ} (bad n p) (seen (λ a. 0) x) → n ≡ res_fault x
      go (ok v a) p = cc
      go (bad m q) p = cc

module _ (pool : List Constant) (i : ℕ) (t : List ℕ) (e : t ≡ text pool i) where
  shape : class_shape t 0 ≡ seen (λ r. 0) (class_type_at (λ t. 0) (text pool i) 0)
  shape = ap (λ (l : List ℕ). class_shape l 0) e ∙ sym (class-shape (λ t. 0) (text pool i) 0)

  pub name_none : (a : ℕ) → ok 0 a ≡ class_shape t 0 → is_utf8 (entry pool i) ≡ true → 0 ≡ name_fault pool i
  unfolding name_fault
  name_none a h u = rw u (fault_none (class_type_at (λ t. 0) (text pool i) 0) a (h ∙ shape))

  pub name_some : (n p : ℕ) → bad n p ≡ class_shape t 0 → is_utf8 (entry pool i) ≡ true → n ≡ name_fault pool i
  unfolding name_fault
  name_some n p h u = rw u (fault_some (class_type_at (λ t. 0) (text pool i) 0) n p (h ∙ shape))

pub name_other : (pool : List Constant) (i : ℕ) → false ≡ is_utf8 (entry pool i) → 5 ≡ name_fault pool i
unfolding name_fault
name_other pool i e = rw (← e)

-- an entry's fault goes by its tag k, which stands at q
module _ (s : List ℕ) (pool : List Constant) (i q k : ℕ) (p : constant_at s q ≡ entry pool i) (e : k ≡ get_or s q 0) where
  fault_as : (r : ℕ) (x : Constant) → entry pool i ≡ x → r ≡ constant_fault pool x → r ≡ entry_fault pool i
  unfolding entry_fault
  fault_as r x z h = h ∙ ap (constant_fault pool) (sym z)

  pub fault-class : (r a : ℕ) → k ≡ 7 → a ≡ u2_at s (q + 1) → r ≡ name_fault pool a → r ≡ entry_fault pool i
  fault-class r a t x h = fault_as r (class_at a) (at_class s q (entry pool i) k p e a t x) h

  module _ (r a b : ℕ) (x : a ≡ u2_at s (q + 1)) (y : b ≡ u2_at s (q + 3)) where
    pub fault-field : k ≡ 9 → r ≡ pair_fault (is_class (entry pool a)) (is_name_and_type (entry pool b)) → r ≡ entry_fault pool i
    fault-field t h = fault_as r (fieldref a b) (at_field s q (entry pool i) k p e a b t x y) h

    pub fault-method : k ≡ 10 → r ≡ pair_fault (is_class (entry pool a)) (is_name_and_type (entry pool b)) → r ≡ entry_fault pool i
    fault-method t h = fault_as r (methodref a b) (at_method s q (entry pool i) k p e a b t x y) h

    pub fault_pair : k ≡ 12 → r ≡ pair_fault (is_utf8 (entry pool a)) (is_utf8 (entry pool b)) → r ≡ entry_fault pool i
    fault_pair t h = fault_as r (name_and_type a b) (at_pair s q (entry pool i) k p e a b t x y) h

  pub fault_other : (k ≡ 7 → ⊥) → (k ≡ 9 → ⊥) → (k ≡ 10 → ⊥) → (k ≡ 12 → ⊥) → 0 ≡ entry_fault pool i
  unfolding entry_fault constant_at
  fault_other n7 n9 n10 n12 =
      (rw (← e, ne_eqb k 7 n7, ne_eqb k 9 n9, ne_eqb k 10 n10, ne_eqb k 12 n12) (go (eqb k 1) (eqb k 3))) ∙ ap (constant_fault pool) p
    where
      go : (a b : Bool) → 0 ≡ constant_fault pool (cond a (utf8 (part s (q + 3) (u2_at s (q + 1)))) (cond b (integer (u4_at s (q + 1))) absent))
      go true b = refl
      go false true = refl
      go false false = refl

-- the table's check: a loop that counts k up to the count n
module _ (s t : List ℕ) (e n : ℕ) (z : n ≡ length t / 4) where
  pub faults_start : first_not (sound (pool_in s t)) (n - 0) 0 ≡ first_fault (pool_in s t)
  unfolding first_fault
  faults_start = scan_start (sound (pool_in s t)) n ∙ ap (λ (m : ℕ). first_not (sound (pool_in s t)) m 0) (z ∙ sym (length-pool s t))

  module _ (k : ℕ) (v : first_not (sound (pool_in s t)) (n - k) k ≡ first_fault (pool_in s t)) where
    pub faults_next : k < n → 0 ≡ entry_fault (pool_in s t) k → first_not (sound (pool_in s t)) (n - (k + 1)) (k + 1) ≡ first_fault (pool_in s t)
    unfolding sound
    faults_next l d = next (sound (pool_in s t)) n k _ v l (eq-eqb (entry_fault (pool_in s t) k) 0 (sym d))

    pub checked_bad : (m p : ℕ) → (m ≡ 0 → ⊥) → k < n → m ≡ entry_fault (pool_in s t) k → p ≡ word t k → bad m p ≡ checked_at (words t) (pool_in s t) e
    unfolding checked_at judged_at first_fault sound
    checked_bad m p q l d w =
        let h : k ≡ first_fault (pool_in s t) = hit (sound (pool_in s t)) n k _ v l (ne_eqb (entry_fault (pool_in s t) k) 0 (λ y. q (d ∙ y))) in
        let b : k < length (pool_in s t) = omega (arith, length-pool s t) in
        rw (← h, lt-ltb k (length (pool_in s t)) b) (cc (words_at t k))

    pub checked_ok : n ≤ k → ok (pool_in s t) e ≡ checked_at (words t) (pool_in s t) e
    unfolding checked_at judged_at first_fault sound
    checked_ok l =
        let h : k ≡ first_fault (pool_in s t) = past (sound (pool_in s t)) n k _ v l in
        let b : length (pool_in s t) ≤ k = omega (arith, length-pool s t) in
        rw (← h, le-ltb k (length (pool_in s t)) b)

-- the table's first n words as a part of it
pub words_take : (n : ℕ) (t : List ℕ) → 4 * n ≤ length t → words (take (4 * n) t) ≡ take n (words t)
words_take n t h =
    let a : length (take (4 * n) t) ≡ 4 * n = length-take-le (4 * n) t h in
    let b : length (words (take (4 * n) t)) ≡ n = length_words (take (4 * n) t) ∙ omega arith in
    let c : length (take n (words t)) ≡ n = length-take-le n (words t) (rw (length_words t) (omega arith)) in
    ext_get_or 0 (words (take (4 * n) t)) (take n (words t)) (b ∙ sym c)
    (λ i l. words_at (take (4 * n) t) i ∙ word-take (4 * n) t i (omega arith) ∙ sym (words_at t i) ∙ sym (get_or-take n (words t) i 0 (omega arith)))

-- the check of the table that was just read
module _ (s t : List ℕ) (n e : ℕ) (f : 4 * n ≤ length t) where
  table_is : checked_at (words (take (4 * n) t)) (pool_in s (take (4 * n) t)) e ≡ checked_at (take n (words t)) (constants s (take n (words t))) e
  unfolding pool_in
  table_is = ap (λ (w : List ℕ). checked_at w (constants s w) e) (words_take n t f)

  pub table_ok : (a : ℕ) → ok (pool_in s (take (4 * n) t)) a ≡ checked_at (words (take (4 * n) t)) (pool_in s (take (4 * n) t)) e
      → ok (pool_in s (take (4 * n) t)) a ≡ checked_at (take n (words t)) (constants s (take n (words t))) e
  table_ok a h = h ∙ table_is

  pub table_bad : (m p : ℕ) → bad m p ≡ checked_at (words (take (4 * n) t)) (pool_in s (take (4 * n) t)) e
      → bad m p ≡ checked_at (take n (words t)) (constants s (take n (words t))) e
  table_bad m p h = h ∙ table_is
