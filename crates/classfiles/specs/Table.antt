-- The table of a pool's tags, a word an entry, and an entry as the code holds it: what they stand for. Assumes nothing.
use Rattle.std.specs.Prelude.{◌≡◌, Bool, true, cond, ltb, leb, set, Option, Some, None}
use Rattle.std.proofs.Common.{◌∙◌, add-one, take-suc-set, leb-true, ℕ, zero, suc, ◌+◌, ◌-◌, ◌*◌, ◌/◌, ◌^◌, ◌<◌, ◌≤◌, refl, sym, ap, List, [], ◌∷◌, ◌++◌, map, false, arith, eqb, length, get_or, take, drop, length-drop, drop_of_length-le, take_all}
use Rattle.std.proofs.Math.ListN.{get_or-eq_default}
use Rattle.std.proofs.Math.Seq.{take-nil}
use Rattle.kit.specs.Bools.{not_so}
use Rattle.kit.specs.Scan.{all_of}
use Rattle.kit.specs.Words.{word, put_word, words, words_at, words_put, length_words}
use Rattle.classfiles.specs.Limits.{max_text}
use Rattle.texts.specs.Reading.{Res, ok, bad, pre, many, num2_at, skip_at, part}
use Rattle.texts.specs.Ends.{Holds, holds_of, then-holds, any-holds, cond-holds, skip_holds}
use Rattle.classfiles.specs.Loops.{many_next, many_done}
use Rattle.classfiles.specs.Pool.{Constant, absent, utf8, integer, class_at, fieldref, methodref, name_and_type, text_ok, utf8_at, fixed_at, entry_size, entry_at, constant_at, constants, entry, is_utf8, is_class, text_of, text, name_index, class_text, is_array_name}
use Rattle.classfiles.specs.declared.pool.Span.{Span}
use Rattle.classfiles.specs.declared.pool.Entry.{Entry}
use Rattle.classfiles.specs.declared.pool.Entry.TheVariants.{Absent, Utf8, Integer, Class, Field, Method, NameAndType}

unfoldable pub text_byte : List ℕ → ℕ → Bool
text_byte s i = cond (eqb (get_or s i 0) 0) false (ltb (get_or s i 0) 128)

-- the bytes that an entry takes, 0 where its tag doesn't say
abbrev pub sized : Option ℕ → ℕ
sized None = 0
sized (Some n) = n

pub pos_ne : (n : ℕ) → 0 < n → n ≡ 0 → ⊥
pos_ne n h e = omega arith

-- the constant that an entry is
abbrev pub constant_of : Entry → Constant
constant_of Absent = absent
constant_of (Utf8 t) = utf8 t.now
constant_of (Integer v) = integer v
constant_of (Class i) = class_at i
constant_of (Field i j) = fieldref i j
constant_of (Method i j) = methodref i j
constant_of (NameAndType i j) = name_and_type i j

-- the pool whose tags stand in the table t, as many as it has words
unfoldable pub pool_in : List ℕ → List ℕ → List Constant
pool_in s t = constants s (words t)

abbrev pub entry_in : List ℕ → List ℕ → ℕ → Constant
entry_in s t i = entry (pool_in s t) i

module _ (s : List ℕ) where
  mapped : (ws : List ℕ) (i : ℕ) → i < length ws → get_or (map (constant_at s) ws) i absent ≡ constant_at s (get_or ws i 0)
  mapped [] i h = absurd (omega arith)
  mapped (w ∷ ws) zero h = refl
  mapped (w ∷ ws) (suc i) h = mapped ws i (omega arith)

  length_mapped : (ws : List ℕ) → length (map (constant_at s) ws) ≡ length ws
  length_mapped [] = refl
  length_mapped (w ∷ ws) = ap suc (length_mapped ws)

  listed : (ws : List ℕ) (i : ℕ) → (i ≡ 0 → ⊥) → i < length ws → get_or (constants s ws) i absent ≡ constant_at s (get_or ws i 0)
  unfolding constants
  listed [] i n h = absurd (omega arith)
  listed (w ∷ ws) zero n h = absurd (n refl)
  listed (w ∷ ws) (suc i) n h = mapped ws i (omega arith)

  none : (ws : List ℕ) → get_or (constants s ws) 0 absent ≡ absent
  unfolding constants
  none [] = refl
  none (w ∷ ws) = refl

  pub length-constants : (ws : List ℕ) → length (constants s ws) ≡ length ws
  unfolding constants
  length-constants [] = refl
  length-constants (w ∷ ws) = ap suc (length_mapped ws)

-- an entry, from the table's words
module _ (s t : List ℕ) where
  pub length-pool : length (pool_in s t) ≡ length t / 4
  unfolding pool_in
  length-pool = length-constants s (words t) ∙ length_words t

  module _ (i : ℕ) where
    pub entry_none : i ≡ 0 → absent ≡ entry (pool_in s t) i
    unfolding pool_in
    entry_none e = rw e (sym (none s (words t)))

    pub entry_past : length t / 4 ≤ i → absent ≡ entry (pool_in s t) i
    entry_past h = sym (get_or-eq_default (pool_in s t) absent (rw length-pool h))

    pub entry_in_lem : (x : Constant) (w : ℕ) → (i ≡ 0 → ⊥) → i < length t / 4 → x ≡ constant_at s w → w ≡ word t i → x ≡ entry (pool_in s t) i
    unfolding pool_in
    entry_in_lem x w n h p q =
        p ∙ ap (constant_at s) (q ∙ sym (words_at t i)) ∙ sym (listed s (words t) i n (rw (length_words t) h))

pub ruleset entries = (entry_none, entry_past, entry_in_lem)

-- a text, a byte at a time
pub text_by : (s : List ℕ) (q n : ℕ) (r : Bool) → r ≡ all_of (λ i. text_byte s (q + i)) n → r ≡ text_ok s q n
unfolding text_ok text_byte
text_by s q n r h = h

-- where an entry ends, and that it is kept as where its tag stands
abbrev pub IsEntry : List ℕ → ℕ → ℕ → ℕ → Type 0
IsEntry s q v e = (v ≡ q) × (e ≤ length s)

fixed_holds : (s : List ℕ) (k q : ℕ) → Holds (IsEntry s q) (fixed_at s k q)
unfolding fixed_at skip_at
fixed_holds s k q = by (leb (q + k) (length s)) refl
  where
    by : (t : Bool) → leb (q + k) (length s) ≡ t → Holds (IsEntry s q) (cond t (ok q (q + k)) (bad 2 q))
    by true h = (refl, leb-true (q + k) (length s) h)
    by false h = tt

pub entry-holds : (s : List ℕ) (q : ℕ) → Holds (IsEntry s q) (entry_at s q)
unfolding entry_at utf8_at
entry-holds s q =
    cond-holds (IsEntry s q) (ltb q (length s)) _ _
    (cond-holds (IsEntry s q) (eqb (get_or s q 0) 1) _ _
    (any-holds (IsEntry s q) (num2_at s (length s) 2 q (q + 1)) _ (λ n a.
    then-holds (λ v e. (v ≡ a) × (e ≡ a + n) × (e ≤ length s)) (IsEntry s q) (skip_at (length s) 2 q n a) _ (skip_holds (length s) 2 q n a)
    (λ b e h. cond-holds (IsEntry s q) (ltb max_text n) _ _ tt (cond-holds (IsEntry s q) (text_ok s b n) _ _ (refl, h.2) tt))))
    (cond-holds (IsEntry s q) (eqb (entry_size (get_or s q 0)) 0) _ _ tt (fixed_holds s (entry_size (get_or s q 0)) q)))
    tt

pub entry_val : (s : List ℕ) (q v e : ℕ) → ok v e ≡ entry_at s q → (v ≡ q) × (e ≤ length s)
entry_val s q v e h = holds_of (IsEntry s q) (entry_at s q) v e (entry-holds s q) (sym h)

-- the table so far with one more tag
put_more : (t : List ℕ) (k v : ℕ) → k < length t / 4 → v < 2 ^ 32 → take (k + 1) (words (put_word t k v)) ≡ take k (words t) ++ (v ∷ [])
put_more t k v h b =
    ap (take (k + 1)) (words_put t k v b) ∙ ap (λ (m : ℕ). take m (set (words t) k v)) (add-one k)
    ∙ take-suc-set (words t) k v (rw (length_words t) h)

pub put_next : (s : List ℕ) (n k q : ℕ) (t u : List ℕ) (x : Res (List ℕ)) (v a : ℕ)
    → pre (take k (words t)) (many (entry_at s) (n - k) q) ≡ x → k < n → 4 * n ≤ length t → q < 2 ^ 32 → ok v a ≡ entry_at s q → u ≡ put_word t k q
    → pre (take (k + 1) (words u)) (many (entry_at s) (n - (k + 1)) a) ≡ x
put_next s n k q t u x v a i h l b e z =
    let d : v ≡ q = (entry_val s q v a e).0 in
    let w : take (k + 1) (words u) ≡ take k (words t) ++ (v ∷ []) =
    ap (λ (y : List ℕ). take (k + 1) (words y)) z ∙ put_more t k q (omega arith) b ∙ ap (λ (y : ℕ). take k (words t) ++ (y ∷ [])) (sym d) in
    ap (λ (y : List ℕ). pre y (many (entry_at s) (n - (k + 1)) a)) w
    ∙ many_next (entry_at s) n k q (take k (words t)) x i h v a e

pub put_done : (s : List ℕ) (n k q : ℕ) (t : List ℕ) (x : Res (List ℕ)) → pre (take k (words t)) (many (entry_at s) (n - k) q) ≡ x → n ≤ k → k ≤ n
    → ok (take n (words t)) q ≡ x
put_done s n k q t x i h l =
    let e : n ≡ k = omega arith in
    ap (λ (m : ℕ). ok (take m (words t)) q) e ∙ many_done (entry_at s) n k q (take k (words t)) x i h

-- the text of an entry
pub no_text : (x : Constant) → false ≡ is_utf8 x → text_of x ≡ []
no_text absent e = refl
no_text (utf8 t) e = absurd (not_so e)
no_text (integer v) e = refl
no_text (class_at i) e = refl
no_text (fieldref i j) e = refl
no_text (methodref i j) e = refl
no_text (name_and_type i j) e = refl

-- whether a Class's text starts an array's descriptor
pub class-text : (pool : List Constant) (i name : ℕ) (r : Bool) → name_index (entry pool i) ≡ name → r ≡ is_array_name (text pool name) → r ≡ is_array_name (class_text pool i)
unfolding class_text
class-text pool i name r e h = h ∙ ap (λ (k : ℕ). is_array_name (text pool k)) (sym e)

-- a table of no tags but number 0's, which is 0
pub first_tag : (t u : List ℕ) → u ≡ put_word t 0 0 → 4 ≤ length t → take 1 (words u) ≡ 0 ∷ []
first_tag t u e h =
    ap (λ (l : List ℕ). take 1 (words l)) e ∙ ap (take 1) (words_put t 0 0 (omega arith))
    ∙ take-suc-set (words t) 0 0 (rw (length_words t) (omega arith))

-- a part of the bytes that is this text, in the form that the checker has of a part that is lent
pub record IsText (s : List ℕ) (r : Span) (t : List ℕ) : Type 0 where
  pub is : take (r.end - r.start) (drop r.start s) ≡ t
  pub order : r.start ≤ r.end
  pub inside : r.end ≤ length s

abbrev pub span : ℕ → ℕ → Span
span a e = record { start = a; end = e }

-- a part that is cut where the bytes end
module _ (s : List ℕ) (a k : ℕ) where
  pub part_none : length s < a → [] ≡ part s a k
  unfolding part
  part_none h =
      let l : length s ≤ a = omega arith in
      let e : drop a s ≡ [] = drop_of_length-le s l in
      sym (ap (take k) e ∙ take-nil k)

  rest_is : take (length s - a) (drop a s) ≡ drop a s
  rest_is = take_all (length s - a) (drop a s) (omega (arith, length-drop a s))

  pub part_rest : length (take (length s - a) (drop a s)) < k → take (length s - a) (drop a s) ≡ part s a k
  unfolding part
  part_rest l = rest_is ∙ sym (take_all k (drop a s) (omega (arith, ap length rest_is)))

  pub part_whole : take k (take (length s - a) (drop a s)) ≡ part s a k
  unfolding part
  part_whole = ap (take k) rest_is

  pub cut_none : length s < a → IsText s (span 0 0) (part s a k)
  cut_none h = record { is = part_none h; order = omega arith; inside = omega arith }

  pub cut_short : a ≤ length s → length s - a < k → IsText s (span a (length s)) (part s a k)
  cut_short h l = record { is = part_rest (omega (arith, ap length rest_is, length-drop a s)); order = h; inside = omega arith }

  pub cut-whole : a ≤ length s → k ≤ length s - a → IsText s (span a (a + k)) (part s a k)
  unfolding part
  cut-whole h l = let z : a + k - a ≡ k = omega arith in record { is = ap (λ (j : ℕ). take j (drop a s)) z; order = omega arith; inside = omega arith }

module _ (pool : List Constant) (i : ℕ) where
  pub text_none : false ≡ is_utf8 (entry pool i) → [] ≡ text pool i
  unfolding text
  text_none e = sym (no_text (entry pool i) e)

  pub class_none : false ≡ is_class (entry pool i) → text_of (entry pool 0) ≡ [] → [] ≡ class_text pool i
  unfolding class_text text
  class_none e z = sym (ap (λ (k : ℕ). text_of (entry pool k)) (no_name (entry pool i) e) ∙ z)
    where
      no_name : (x : Constant) → false ≡ is_class x → name_index x ≡ 0
      no_name absent e = refl
      no_name (utf8 t) e = refl
      no_name (integer v) e = refl
      no_name (class_at j) e = absurd (not_so e)
      no_name (fieldref j k) e = refl
      no_name (methodref j k) e = refl
      no_name (name_and_type j k) e = refl

  pub class_some : (name : ℕ) → name_index (entry pool i) ≡ name → text pool name ≡ class_text pool i
  unfolding class_text
  class_some name e = ap (text pool) (sym e)

-- number 0 has no text
pub zero-text : (s t : List ℕ) → text_of (entry_in s t 0) ≡ []
zero-text s t = ap text_of (sym (entry_none s t 0 refl))
