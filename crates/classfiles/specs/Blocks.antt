-- A class in its block of the lent scratch: which word holds what, and how the words and the bundle's bytes are read back as the class file.
use Rattle.std.specs.Prelude.{ℕ, zero, suc, ◌+◌, ◌*◌, List, [], ◌∷◌, ◌++◌, true, false, cond, take, drop, eqb}
use Rattle.kit.specs.Words.{word, put_word}
use Rattle.classfiles.specs.Limits.{max_fields, max_methods}
use Rattle.texts.specs.Reading.{Res, ok, and_then, u2_at, part}
use Rattle.texts.specs.Names.{Text}
use Rattle.classfiles.specs.Pool.{Constant, class_text, pool_at}
use Rattle.classfiles.specs.Table.{pool_in}
use Rattle.classfiles.specs.Members.{Member, attributes_at}
use Rattle.classfiles.specs.Attributes.{found_of, body_of, member_of}
use Rattle.classfiles.specs.Bundle.{Super, zero', named, ClassFile, magic_at, version_at, class_access_at, this_at, super_at, interfaces_at, members_at}

-- ---- the words of a block: its first 1024 are the pool's tags
abbrev pub start_word : ℕ
start_word = 1024

abbrev pub pool_word : ℕ
pool_word = 1025

-- where this_class stands; super_class is 2 further
abbrev pub this_word : ℕ
this_word = 1026

abbrev pub field_count : ℕ
field_count = 1027

abbrev pub method_count : ℕ
method_count = 1028

-- a member has a row of six words: where it starts; how often Code stands (2 for more than once) and where its content starts;
-- how often a StackMapTable stands in it, where its content starts and how long it is
abbrev pub field_rows : ℕ
field_rows = 1032

abbrev pub method_rows : ℕ
method_rows = 1224

-- in bytes: 1608 words
abbrev pub block_size : ℕ
block_size = 6432

-- f 0 .. f (n - 1)
unfoldable pub listed : {A : Type 0} → (ℕ → A) → ℕ → List A
listed f zero = []
listed f (suc n) = listed f n ++ (f n ∷ [])

-- three words from w on
unfoldable pub put3 : List ℕ → ℕ → ℕ → ℕ → ℕ → List ℕ
put3 b w x y z = put_word (put_word (put_word b w x) (w + 1) y) (w + 2) z

-- ---- a class's names, where this_class stands at p
unfoldable pub super_in : List ℕ → List Constant → ℕ → Super
super_in s pool q = cond (eqb (u2_at s q) 0) zero' (named (class_text pool (u2_at s q)))

pub record Heading : Type 0 where
  pub name : Text
  pub super : Super

abbrev pub names_in : List ℕ → List Constant → ℕ → Heading
names_in s pool p = record { name = class_text pool (u2_at s p); super = super_in s pool (p + 2) }

-- ---- what a block stands for
module _ (s : List ℕ) where
  unfoldable pub pool_of : List ℕ → List Constant
  pool_of b = pool_in s (take (4 * word b pool_word) b)

  -- the member whose row starts at word w
  unfoldable pub row_in : List Constant → List ℕ → ℕ → Member
  row_in pool b w =
      member_of s pool (word b w)
      (found_of (word b (w + 1)) (body_of s (word b (w + 2)) (found_of (word b (w + 3)) (part s (word b (w + 4)) (word b (w + 5))))))

  -- n rows from word w on
  unfoldable pub rows_in : List Constant → List ℕ → ℕ → ℕ → List Member
  rows_in pool b w n = listed (λ i. row_in pool b (w + 6 * i)) n

  unfoldable pub class_in : List ℕ → ClassFile
  class_in b = record {
    start = word b start_word;
    pool = pool_of b;
    name = (names_in s (pool_of b) (word b this_word)).name;
    super = (names_in s (pool_of b) (word b this_word)).super;
    fields = rows_in (pool_of b) b field_rows (word b field_count);
    methods = rows_in (pool_of b) b method_rows (word b method_count);
  }

  -- n blocks
  unfoldable pub classes_in : List ℕ → ℕ → List ClassFile
  classes_in t n = listed (λ i. class_in (take block_size (drop (block_size * i) t))) n

-- ---- a class file in parts, as the code reads it
pub record Head : Type 0 where
  pub pool : List Constant
  pub names : Heading

abbrev pub head : List Constant → Heading → Head
head pool h = record { pool = pool; names = h }

module _ (s : List ℕ) where
  unfoldable pub start_at : ℕ → Res ℕ
  start_at q = and_then (magic_at s q) λ _ a. version_at s a

  unfoldable pub open_at : ℕ → Res (List Constant)
  open_at q = and_then (start_at q) λ _ a. pool_at s a

  unfoldable pub names_at : List Constant → ℕ → Res Heading
  names_at pool c =
      and_then (class_access_at s c) λ _ d.
      and_then (this_at s pool d) λ name e.
      and_then (super_at s pool e) λ super f.
      and_then (interfaces_at s f) λ _ g.
      ok (record { name = name; super = super }) g

  -- before the members
  unfoldable pub head_at : ℕ → Res Head
  head_at q = and_then (open_at q) λ pool c. and_then (names_at pool c) λ h g. ok (head pool h) g

  -- the members of a class that starts at q, and its attributes
  unfoldable pub tail_at : ℕ → Head → ℕ → Res ClassFile
  tail_at q h g =
      and_then (members_at s h.pool false max_fields g) λ fields i.
      and_then (members_at s h.pool true max_methods i) λ methods j.
      and_then (attributes_at s h.pool false j) λ _ e.
      ok (record { start = q; pool = h.pool; name = h.names.name; super = h.names.super; fields = fields; methods = methods }) e
