-- The constant pool (JVMS 4.4): Utf8, Integer, Class, Fieldref, Methodref, NameAndType.
use Rattle.std.specs.Prelude.{ℕ, ◌+◌, ◌-◌, List, [], ◌∷◌, map, Bool, true, false, cond, length, get_or, ltb, eqb}
use Rattle.kit.specs.Scan.{first_not, all_of}
use Rattle.classfiles.specs.Limits.{max_pool_count, max_text}
use Rattle.texts.specs.Reading.{Res, ok, bad, and_then, pre, many, u2_at, u4_at, num2_at, skip_at, u2, part}
use Rattle.texts.specs.Names.{Text}
use Rattle.classfiles.specs.Descriptors.{class_type_at}

-- an entry as it is written; index 0 and those past the count have none
pub data Constant : Type 0 where
  absent : Constant
  utf8 : Text → Constant
  integer : ℕ → Constant
  class_at : ℕ → Constant
  fieldref methodref name_and_type : ℕ → ℕ → Constant

-- each byte 0x01 .. 0x7f
unfoldable pub text_ok : List ℕ → ℕ → ℕ → Bool
text_ok s q n = all_of (λ i. cond (eqb (get_or s (q + i) 0) 0) false (ltb (get_or s (q + i) 0) 128)) n

-- u1 tag; u2 length; u1 bytes[length]
unfoldable pub utf8_at : List ℕ → ℕ → Res ℕ
utf8_at s q =
    and_then (num2_at s (length s) 2 q (q + 1)) λ n a.
    and_then (skip_at (length s) 2 q n a) λ b e.
    cond (ltb max_text n) (bad 4 q) (cond (text_ok s b n) (ok q e) (bad 5 q))

-- an entry of k bytes with its tag
unfoldable pub fixed_at : List ℕ → ℕ → ℕ → Res ℕ
fixed_at s k q = skip_at (length s) 2 q k q

-- the bytes that an entry with this tag takes; 0 for Utf8, which says so itself, and for a tag that is not listed
unfoldable pub entry_size : ℕ → ℕ
entry_size t =
    cond (eqb t 3) 5 (cond (eqb t 7) 3 (cond (eqb t 9) 5 (cond (eqb t 10) 5 (cond (eqb t 12) 5 0))))

-- an entry, kept as where its tag stands
unfoldable pub entry_at : List ℕ → ℕ → Res ℕ
entry_at s q =
    cond (ltb q (length s))
    (cond (eqb (get_or s q 0) 1) (utf8_at s q) (cond (eqb (entry_size (get_or s q 0)) 0) (bad 5 q) (fixed_at s (entry_size (get_or s q 0)) q)))
    (bad 2 q)

-- what stands at a tag
unfoldable pub constant_at : List ℕ → ℕ → Constant
constant_at s q =
    cond (eqb (get_or s q 0) 1) (utf8 (part s (q + 3) (u2_at s (q + 1))))
    (cond (eqb (get_or s q 0) 3) (integer (u4_at s (q + 1)))
    (cond (eqb (get_or s q 0) 7) (class_at (u2_at s (q + 1)))
    (cond (eqb (get_or s q 0) 9) (fieldref (u2_at s (q + 1)) (u2_at s (q + 3)))
    (cond (eqb (get_or s q 0) 10) (methodref (u2_at s (q + 1)) (u2_at s (q + 3)))
    (cond (eqb (get_or s q 0) 12) (name_and_type (u2_at s (q + 1)) (u2_at s (q + 3))) absent)))))

-- the entries of a pool whose tags stand there, number 0 first
unfoldable pub constants : List ℕ → List ℕ → List Constant
constants s [] = []
constants s (q ∷ qs) = absent ∷ map (constant_at s) qs

abbrev pub entry : List Constant → ℕ → Constant
entry pool i = get_or pool i absent

-- kinds
abbrev pub is_utf8 : Constant → Bool
is_utf8 absent = false
is_utf8 (utf8 t) = true
is_utf8 (integer v) = false
is_utf8 (class_at i) = false
is_utf8 (fieldref i j) = false
is_utf8 (methodref i j) = false
is_utf8 (name_and_type i j) = false

abbrev pub is_class : Constant → Bool
is_class absent = false
is_class (utf8 t) = false
is_class (integer v) = false
is_class (class_at i) = true
is_class (fieldref i j) = false
is_class (methodref i j) = false
is_class (name_and_type i j) = false

abbrev pub is_name_and_type : Constant → Bool
is_name_and_type absent = false
is_name_and_type (utf8 t) = false
is_name_and_type (integer v) = false
is_name_and_type (class_at i) = false
is_name_and_type (fieldref i j) = false
is_name_and_type (methodref i j) = false
is_name_and_type (name_and_type i j) = true

-- the text of a Utf8
abbrev pub text_of : Constant → Text
text_of absent = []
text_of (utf8 t) = t
text_of (integer v) = []
text_of (class_at i) = []
text_of (fieldref i j) = []
text_of (methodref i j) = []
text_of (name_and_type i j) = []

unfoldable pub text : List Constant → ℕ → Text
text pool i = text_of (entry pool i)

abbrev pub name_index : Constant → ℕ
name_index absent = 0
name_index (utf8 t) = 0
name_index (integer v) = 0
name_index (class_at i) = i
name_index (fieldref i j) = 0
name_index (methodref i j) = 0
name_index (name_and_type i j) = 0

-- the text that a Class names
unfoldable pub class_text : List Constant → ℕ → Text
class_text pool i = text pool (name_index (entry pool i))

-- once the pool is read: 5 for an index of the wrong kind, 7 for a Class that names neither class nor array, else 0
abbrev pub res_fault : {A : Type 0} → Res A → ℕ
res_fault (ok v e) = 0
res_fault (bad n p) = n

unfoldable pub name_fault : List Constant → ℕ → ℕ
name_fault pool i = cond (is_utf8 (entry pool i)) (res_fault (class_type_at (λ t. 0) (text pool i) 0)) 5

unfoldable pub pair_fault : Bool → Bool → ℕ
pair_fault a b = cond a (cond b 0 5) 5

abbrev pub constant_fault : List Constant → Constant → ℕ
constant_fault pool absent = 0
constant_fault pool (utf8 t) = 0
constant_fault pool (integer v) = 0
constant_fault pool (class_at i) = name_fault pool i
constant_fault pool (fieldref i j) = pair_fault (is_class (entry pool i)) (is_name_and_type (entry pool j))
constant_fault pool (methodref i j) = pair_fault (is_class (entry pool i)) (is_name_and_type (entry pool j))
constant_fault pool (name_and_type i j) = pair_fault (is_utf8 (entry pool i)) (is_utf8 (entry pool j))

unfoldable pub entry_fault : List Constant → ℕ → ℕ
entry_fault pool i = constant_fault pool (entry pool i)

-- the first entry in index order with a fault, at its tag
unfoldable pub judged_at : List ℕ → List Constant → ℕ → ℕ → Res (List Constant)
judged_at tags pool i e = cond (ltb i (length pool)) (bad (entry_fault pool i) (get_or tags i 0)) (ok pool e)

unfoldable pub checked_at : List ℕ → List Constant → ℕ → Res (List Constant)
checked_at tags pool e = judged_at tags pool (first_not (λ i. eqb (entry_fault pool i) 0) (length pool) 0) e

-- the tags of the entries 1 .. n - 1; number 0 is none
unfoldable pub tags_at : List ℕ → ℕ → ℕ → Res (List ℕ)
tags_at s n q = pre (0 ∷ []) (many (entry_at s) (n - 1) q)

-- u2 constant_pool_count; cp_info constant_pool[constant_pool_count - 1]
unfoldable pub pool_at : List ℕ → ℕ → Res (List Constant)
pool_at s q =
    and_then (u2 s q) λ n a.
    cond (eqb n 0) (bad 5 q)
    (cond (ltb max_pool_count n) (bad 4 q)
    (and_then (tags_at s n a) λ tags e. checked_at tags (constants s tags) e))

-- a number that has to name a Utf8, a Class
unfoldable pub utf8_index_at : List ℕ → List Constant → ℕ → Res ℕ
utf8_index_at s pool q = and_then (u2 s q) λ i e. cond (is_utf8 (entry pool i)) (ok i e) (bad 5 q)

unfoldable pub is_array_name : Text → Bool
is_array_name t = eqb (get_or t 0 0) 91

-- this_class or super_class: a Class, and no array
unfoldable pub class_index_at : List ℕ → List Constant → ℕ → ℕ → ℕ → Res ℕ
class_index_at s pool q i e = cond (is_class (entry pool i)) (cond (is_array_name (class_text pool i)) (bad 7 q) (ok i e)) (bad 5 q)
