-- Equality of texts, and laws of lists that the logic's `ListN` and `Seq` do not have.
-- In order: texts; past the seam of `◌++◌`; a store, by cases; `replicate`; a part of a list, and a part that is put back.
-- Assumes nothing.
use Rattle.std.specs.Prelude.{ℕ, zero, suc, ◌+◌, ◌-◌, ◌<◌, ◌≤◌, ◌≡◌, refl, Bool, true, false, cond, ◌&&◌, List, [], ◌∷◌, ◌++◌, eqb, length, get_or, set, take, drop, replicate}
use Rattle.std.proofs.Common.{sym, ap, ◌∙◌, append-nil, append_assoc, le_of_suc-le-suc, not-suc-le-zero, add-one, arith, length-append, length-drop, drop_of_length-le, get_or-take, get_or-drop, get_or-set_same, get_or-set_other, get_or-append-add, drop-drop, take-take, drop-cons, length-take-le, eq-eqb, eqb-true}
use Rattle.std.proofs.lemmas.List.{length-replicate, drop-set-add, set_at}
use Rattle.std.proofs.Math.ListN.{get_or-append}
use Rattle.std.proofs.Math.Seq.{take-append-add, drop-append-add, take-nil}
use Rattle.std.proofs.lemmas.Bool.{eqb-false}
use Rattle.std.specs.Str.{bytes_eq}
use Rattle.kit.specs.Bools.{both_left, both_right, both, not_so, same_truth, T_false, T_true}
use Rattle.kit.specs.Scan.{all_of, all_none, all_cons, all_same, alls}

unfoldable pub eq_list : List ℕ → List ℕ → Bool
eq_list [] [] = true
eq_list [] (y ∷ ys) = false
eq_list (x ∷ xs) [] = false
eq_list (x ∷ xs) (y ∷ ys) = eqb x y && eq_list xs ys

pub eq_list_true : (s t : List ℕ) → eq_list s t ≡ true → s ≡ t
unfolding eq_list
eq_list_true [] [] e = refl
eq_list_true [] (y ∷ ys) e = absurd (not_so e)
eq_list_true (x ∷ xs) [] e = absurd (not_so e)
eq_list_true (x ∷ xs) (y ∷ ys) e =
    let p : x ≡ y = eqb-true x y (both_left (eqb x y) (eq_list xs ys) e) in
    let q : xs ≡ ys = eq_list_true xs ys (both_right (eqb x y) (eq_list xs ys) e) in
    cc

-- what `==` of two slices of bytes gives
pub bytes_eq_list : (s t : List ℕ) → bytes_eq s t ≡ eq_list s t
unfolding eq_list
bytes_eq_list [] [] = refl
bytes_eq_list [] (y ∷ ys) = refl
bytes_eq_list (x ∷ xs) [] = refl
bytes_eq_list (x ∷ xs) (y ∷ ys) = ap (λ (b : Bool). eqb x y && b) (bytes_eq_list xs ys)

pub eq_list_refl : (s : List ℕ) → eq_list s s ≡ true
unfolding eq_list
eq_list_refl [] = refl
eq_list_refl (x ∷ xs) = both (eqb x x) (eq_list xs xs) (eq-eqb x x refl) (eq_list_refl xs)

pub eq_list-eq : (s t : List ℕ) → s ≡ t → eq_list s t ≡ true
eq_list-eq s t e = rw e (eq_list_refl t)

pub eq_list-ne : (s t : List ℕ) → (s ≡ t → ⊥) → eq_list s t ≡ false
eq_list-ne s t h = T_false (eq_list s t) (λ b. h (eq_list_true s t (T_true (eq_list s t) b)))

pub eq_list_false : (s t : List ℕ) → eq_list s t ≡ false → s ≡ t → ⊥
eq_list_false s t e p = not_so (sym e ∙ eq_list-eq s t p)

pub eq_list_sym : (s t : List ℕ) → eq_list s t ≡ eq_list t s
eq_list_sym s t =
    same_truth (eq_list s t) (eq_list t s) (λ e. eq_list-eq t s (sym (eq_list_true s t e)))
    (λ e. eq_list-eq s t (sym (eq_list_true t s e)))

-- texts of different lengths differ
pub eq_list-length : (s t : List ℕ) → (length s ≡ length t → ⊥) → eq_list s t ≡ false
eq_list-length s t h = eq_list-ne s t (λ e. h (ap length e))

-- the texts agree at i; the texts from p and from q on do
unfoldable pub alike : List ℕ → List ℕ → ℕ → Bool
alike s t i = eqb (get_or s i 0) (get_or t i 0)

unfoldable pub alike_at : List ℕ → ℕ → List ℕ → ℕ → ℕ → Bool
alike_at s p t q i = eqb (get_or s (p + i) 0) (get_or t (q + i) 0)

-- texts as long as each other are equal where they agree at each position: what a loop tests
pub eq_list-all : (s t : List ℕ) → length s ≡ length t → eq_list s t ≡ all_of (alike s t) (length s)
unfolding eq_list alike
eq_list-all [] [] e = sym (all_none (alike [] []))
eq_list-all [] (y ∷ ys) e = absurd (omega arith)
eq_list-all (x ∷ xs) [] e = absurd (omega arith)
eq_list-all (x ∷ xs) (y ∷ ys) e =
    ap (λ (b : Bool). eqb x y && b) (eq_list-all xs ys (omega arith)) ∙ sym (all_cons (alike (x ∷ xs) (y ∷ ys)) (length xs))

-- the same for `search`, at a function that answers whether two texts are equal
module _ (s t : List ℕ) where
  pub text-length : (length s ≡ length t → ⊥) → false ≡ eq_list s t
  text-length h = sym (eq_list-length s t h)

  pub text-all : (r : Bool) → length s ≡ length t → r ≡ all_of (alike s t) (length s) → r ≡ eq_list s t
  text-all r e h = h ∙ sym (eq_list-all s t e)

pub ruleset texts = (alls, text-length, text-all)

module _ {A : Type 0} where
  -- past the seam
  pub get_d_append_right : (xs ys : List A) (i : ℕ) (d : A) → length xs ≤ i → get_or (xs ++ ys) i d ≡ get_or ys (i - length xs) d
  get_d_append_right xs ys i d h =
      let e : i ≡ length xs + (i - length xs) = omega arith in
      ap (λ (k : ℕ). get_or (xs ++ ys) k d) e ∙ get_or-append-add xs ys (i - length xs) d

  pub set_append_right : (xs ys : List A) (i : ℕ) (a : A) → length xs ≤ i → set (xs ++ ys) i a ≡ xs ++ set ys (i - length xs) a
  set_append_right [] ys i a h =
      let e : i ≡ i - 0 = omega arith in
      ap (λ (k : ℕ). set ys k a) e
  set_append_right (x ∷ xs) ys zero a h = absurd (not-suc-le-zero h)
  set_append_right (x ∷ xs) ys (suc i) a h =
      let e : i - length xs ≡ suc i - suc (length xs) = omega arith in
      ap (λ (r : List A). x ∷ r) (set_append_right xs ys i a (le_of_suc-le-suc h) ∙ ap (λ (k : ℕ). xs ++ set ys k a) e)

  pub take-append_right : (n : ℕ) (xs ys : List A) → length xs ≤ n → take n (xs ++ ys) ≡ xs ++ take (n - length xs) ys
  take-append_right n xs ys h =
      let e : n ≡ length xs + (n - length xs) = omega arith in
      ap (λ (k : ℕ). take k (xs ++ ys)) e ∙ take-append-add xs ys (n - length xs)

  pub drop-append_right : (n : ℕ) (xs ys : List A) → length xs ≤ n → drop n (xs ++ ys) ≡ drop (n - length xs) ys
  drop-append_right n xs ys h =
      let e : n ≡ length xs + (n - length xs) = omega arith in
      ap (λ (k : ℕ). drop k (xs ++ ys)) e ∙ drop-append-add xs ys (n - length xs)

  -- a store, by cases
  pub get_d_set : (l : List A) (i j : ℕ) (a d : A) → i < length l → get_or (set l i a) j d ≡ cond (eqb j i) a (get_or l j d)
  get_d_set l i j a d h = go (eqb j i) refl
    where
      go : (t : Bool) → eqb j i ≡ t → get_or (set l i a) j d ≡ cond t a (get_or l j d)
      go true e = ap (λ (k : ℕ). get_or (set l i a) k d) (eqb-true j i e) ∙ get_or-set_same l i a d h
      go false e = get_or-set_other l i j a d (eqb-false j i e)

  pub drop-set-ge : (n : ℕ) (l : List A) (i : ℕ) (a : A) → n ≤ i → drop n (set l i a) ≡ set (drop n l) (i - n) a
  drop-set-ge n l i a h =
      let e : i ≡ n + (i - n) = omega arith in
      ap (λ (k : ℕ). drop n (set l k a)) e ∙ drop-set-add n l (i - n) a

  -- replicate
  pub get_or-replicate_same : (n i : ℕ) (a : A) → get_or (replicate n a) i a ≡ a
  get_or-replicate_same zero i a = refl
  get_or-replicate_same (suc n) zero a = refl
  get_or-replicate_same (suc n) (suc i) a = get_or-replicate_same n i a

  pub set-replicate : (n i : ℕ) (a : A) → set (replicate n a) i a ≡ replicate n a
  set-replicate zero i a = refl
  set-replicate (suc n) zero a = refl
  set-replicate (suc n) (suc i) a = ap (λ (r : List A). a ∷ r) (set-replicate n i a)

  pub take-replicate : (m n : ℕ) (a : A) → m ≤ n → take m (replicate n a) ≡ replicate m a
  take-replicate zero n a h = refl
  take-replicate (suc m) zero a h = absurd (not-suc-le-zero h)
  take-replicate (suc m) (suc n) a h = ap (λ (r : List A). a ∷ r) (take-replicate m n a (le_of_suc-le-suc h))

  pub drop-replicate : (m n : ℕ) (a : A) → drop m (replicate n a) ≡ replicate (n - m) a
  drop-replicate zero n a =
      let e : n ≡ n - 0 = omega arith in
      ap (λ (k : ℕ). replicate k a) e
  drop-replicate (suc m) zero a =
      let e : 0 ≡ 0 - suc m = omega arith in
      ap (λ (k : ℕ). replicate k a) e
  drop-replicate (suc m) (suc n) a =
      let e : n - m ≡ suc n - suc m = omega arith in
      drop-replicate m n a ∙ ap (λ (k : ℕ). replicate k a) e

  pub replicate_snoc : (n : ℕ) (a : A) → replicate n a ++ (a ∷ []) ≡ replicate (suc n) a
  replicate_snoc zero a = refl
  replicate_snoc (suc n) a = ap (λ (r : List A). a ∷ r) (replicate_snoc n a)

  -- a list all of whose elements are a
  pub all_replicate : (l : List A) (a : A) → ((i : ℕ) → i < length l → get_or l i a ≡ a) → l ≡ replicate (length l) a
  all_replicate [] a h = refl
  all_replicate (x ∷ xs) a h =
      let p : x ≡ a = h 0 (omega arith) in
      let q : xs ≡ replicate (length xs) a = all_replicate xs a (λ i l. h (suc i) (omega arith)) in
      cc

  -- a loop that fills from the front: a turn, and the end
  pub fill_step : (l : List A) (i : ℕ) (a : A) → i < length l → set (replicate i a ++ drop i l) i a ≡ replicate (i + 1) a ++ drop (i + 1) l
  fill_step l i a h =
      ap (λ (r : List A). set (replicate i a ++ r) i a) (drop-cons l i a h)
      ∙ set_at (replicate i a) (get_or l i a) (drop (suc i) l) a i (length-replicate i a)
      ∙ sym (append_assoc (replicate i a) (a ∷ []) (drop (suc i) l))
      ∙ ap (λ (r : List A). r ++ drop (suc i) l) (replicate_snoc i a)
      ∙ ap (λ (k : ℕ). replicate k a ++ drop k l) (sym (add-one i))

  pub fill_end : (l : List A) (i : ℕ) (a : A) → i ≡ length l → replicate i a ++ drop i l ≡ replicate (length l) a
  fill_end l i a h =
      ap (λ (r : List A). replicate i a ++ r) (drop_of_length-le l {i = i} (omega arith)) ∙ append-nil (replicate i a)
      ∙ ap (λ (k : ℕ). replicate k a) h

  -- a part: n elements from p on
  pub length_part : (p n : ℕ) (l : List A) → p + n ≤ length l → length (take n (drop p l)) ≡ n
  length_part p n l h = length-take-le n (drop p l) (rw (length-drop p l) (omega arith))

  pub get_d_part : (p n : ℕ) (l : List A) (i : ℕ) (d : A) → i < n → get_or (take n (drop p l)) i d ≡ get_or l (p + i) d
  get_d_part p n l i d h = get_or-take n (drop p l) i d h ∙ get_or-drop p l i d

  pub drop-take : (q n : ℕ) (l : List A) → drop q (take n l) ≡ take (n - q) (drop q l)
  drop-take zero n l =
      let e : n ≡ n - 0 = omega arith in
      ap (λ (k : ℕ). take k l) e
  drop-take (suc q) zero l =
      let e : 0 ≡ 0 - suc q = omega arith in
      ap (λ (k : ℕ). take k (drop (suc q) l)) e
  drop-take (suc q) (suc n) [] = sym (take-nil (suc n - suc q))
  drop-take (suc q) (suc n) (x ∷ xs) =
      let e : n - q ≡ suc n - suc q = omega arith in
      drop-take q n xs ∙ ap (λ (k : ℕ). take k (drop q xs)) e

  pub part-part : (p n q m : ℕ) (l : List A) → q + m ≤ n → take m (drop q (take n (drop p l))) ≡ take m (drop (p + q) l)
  part-part p n q m l h =
      ap (take m) (drop-take q n (drop p l)) ∙ take-take m (n - q) (drop q (drop p l)) (omega arith) ∙ ap (take m) (drop-drop q p l)

  -- a list whose n elements from p on came back as m: what a `&mut` part of a slice leaves, in the checker's form (`put_mid`)
  module _ (l m : List A) (p n : ℕ) (h : length m ≡ n) (f : p + n ≤ length l) where
    pub length_back : length (take p l ++ (m ++ drop n (drop p l))) ≡ length l
    length_back =
        let a : length (take p l) ≡ p = length-take-le p l (omega arith) in
        let b : length (drop n (drop p l)) ≡ length l - (p + n) = ap length (drop-drop n p l) ∙ length-drop (p + n) l in
        let c : length (m ++ drop n (drop p l)) ≡ length m + length (drop n (drop p l)) = length-append m (drop n (drop p l)) in
        length-append (take p l) (m ++ drop n (drop p l)) ∙ omega arith

    pub get_or-back-before : (i : ℕ) (d : A) → i < p → get_or (take p l ++ (m ++ drop n (drop p l))) i d ≡ get_or l i d
    get_or-back-before i d b =
        let a : length (take p l) ≡ p = length-take-le p l (omega arith) in
        get_or-append (take p l) (m ++ drop n (drop p l)) d i (omega arith) ∙ get_or-take p l i d b

    pub get_or-back_in : (i : ℕ) (d : A) → i < n → get_or (take p l ++ (m ++ drop n (drop p l))) (p + i) d ≡ get_or m i d
    get_or-back_in i d b =
        let a : p ≡ length (take p l) = sym (length-take-le p l (omega arith)) in
        ap (λ (k : ℕ). get_or (take p l ++ (m ++ drop n (drop p l))) (k + i) d) a
        ∙ get_or-append-add (take p l) (m ++ drop n (drop p l)) i d
        ∙ get_or-append m (drop n (drop p l)) d i (omega arith)

    pub get_or-back-after : (i : ℕ) (d : A) → p + n ≤ i → get_or (take p l ++ (m ++ drop n (drop p l))) i d ≡ get_or l i d
    get_or-back-after i d b =
        let a : length (take p l) ≡ p = length-take-le p l (omega arith) in
        let e : p + (n + (i - length (take p l) - length m)) ≡ i = omega arith in
        get_d_append_right (take p l) (m ++ drop n (drop p l)) i d (omega arith)
        ∙ get_d_append_right m (drop n (drop p l)) (i - length (take p l)) d (omega arith)
        ∙ get_or-drop n (drop p l) (i - length (take p l) - length m) d
        ∙ get_or-drop p l (n + (i - length (take p l) - length m)) d
        ∙ ap (λ (k : ℕ). get_or l k d) e

-- two parts of texts, position by position
pub eq_list_parts : (s t : List ℕ) (p q n : ℕ) → p + n ≤ length s → q + n ≤ length t
    → eq_list (take n (drop p s)) (take n (drop q t)) ≡ all_of (alike_at s p t q) n
unfolding alike alike_at
eq_list_parts s t p q n a b =
    let u : length (take n (drop p s)) ≡ n = length_part p n s a in
    let v : length (take n (drop q t)) ≡ n = length_part q n t b in
    eq_list-all (take n (drop p s)) (take n (drop q t)) (u ∙ sym v)
    ∙ ap (all_of (alike (take n (drop p s)) (take n (drop q t)))) u
    ∙ all_same (alike (take n (drop p s)) (take n (drop q t))) (alike_at s p t q) n (λ k h. rw (get_d_part p n s k 0 h, get_d_part q n t k 0 h))
