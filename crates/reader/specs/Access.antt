-- The program's pools and members by the blocks, and the limits that phase A keeps them to. Assumes nothing.
use Rattle.std.specs.Prelude.{◌≡◌, Bool, ◌⊎◌, eqb, get_or, take, drop}
use Rattle.std.proofs.Common.{sym, ◌∙◌, inl, inr, length-take, length-append, ℕ, zero, suc, ◌+◌, ◌-◌, ◌*◌, ◌/◌, ◌<◌, ◌≤◌, refl, ap, List, [], ◌∷◌, ◌++◌, map, true, false, cond, arith, ltb, length, zero-add, eq-eqb, ne_eqb, ltb-true}
use Rattle.std.proofs.Math.Decide.{ℕ_discrete}
use Rattle.kit.specs.Bools.{not_so}
use Rattle.kit.specs.Pick.{side}
use Rattle.kit.specs.Words.{word, word-part, word-take}
use Rattle.classfiles.specs.Limits.{max_fields, max_methods, max_pool_count}
use Rattle.texts.specs.Reading.{u2_at, u4_at, part}
use Rattle.texts.specs.Names.{Text}
use Rattle.classfiles.specs.Descriptors.{field_type_at}
use Rattle.classfiles.specs.Shapes.{inside}
use Rattle.classfiles.specs.Pool.{Constant, absent, utf8, integer, class_at, fieldref, methodref, name_and_type, constant_at, entry}
use Rattle.classfiles.specs.Table.{pool_in, entry_none, entry_past, entry_in_lem}
use Rattle.classfiles.specs.Attributes.{member_of}
use Rattle.classfiles.specs.Bundle.{ClassFile}
use Rattle.reader.specs.BuiltIns.{BuiltIn, built_ins, first_class}
use Rattle.reader.specs.Program.{Program, Signature, Field, Class, no_field, class, class_count, number_in, class_names, field_of, class_of, classes_from, built_ins_from, program_of, desc_or, own_types, layout_to, layout, same_signature, index_of, Spot, nowhere, spot, seek, lookup}
use Rattle.classfiles.specs.Blocks.{block_size, pool_word, pool_of, row_in, class_in}
use Rattle.reader.specs.Linked.{files_in}
use Rattle.reader.specs.MemberRows.{block_at, row_start, row_count, row_at, row_sig}
use Rattle.reader.specs.Lookup.{own_spot, class-at, class_past, class-count, built_in_class}
use Rattle.reader.specs.MemberAt.{field_at, fields-count}
use Rattle.reader.specs.TypeCodes.{desc_of, number_by}

-- what phase A lets pass: of pool entries, fields and methods
pub record Limited (n : ℕ) (t : List ℕ) : Type 0 where
  pub pool : (c : ℕ) → c < n → word (block_at t c) pool_word ≤ max_pool_count
  pub fields : (c : ℕ) → c < n → row_count (block_at t c) false ≤ max_fields
  pub methods : (c : ℕ) → c < n → row_count (block_at t c) true ≤ max_methods

-- ---- pools
pub pool-at : (s : List ℕ) (n : ℕ) (t : List ℕ) → n ≤ 16 → (c : ℕ) → c < n → (class (program_of (files_in s n t)) (first_class + c)).pool ≡ pool_of s (block_at t c)
unfolding class_of class_in
pool-at s n t m c h = ap (λ (C : Class). C.pool) (class-at s n t m c h)

pub tag_block : (t : List ℕ) (c i r : ℕ) → i < 1608 → r ≡ word t (1608 * c + i) → r ≡ word (block_at t c) i
tag_block t c i r h e =
    let z : 4 * (1608 * c) ≡ 6432 * c = omega arith in
    e ∙ sym (word-part (1608 * c) 6432 t i (omega arith)) ∙ ap (λ (k : ℕ). word (take 6432 (drop k t)) i) z

-- ---- an Integer stands where its tag does
abbrev value_or : ℕ → Constant → ℕ
value_or d absent = d
value_or d (utf8 t) = d
value_or d (integer v) = v
value_or d (class_at i) = d
value_or d (fieldref i j) = d
value_or d (methodref i j) = d
value_or d (name_and_type i j) = d

abbrev is_integer : Constant → Bool
is_integer absent = false
is_integer (utf8 t) = false
is_integer (integer v) = true
is_integer (class_at i) = false
is_integer (fieldref i j) = false
is_integer (methodref i j) = false
is_integer (name_and_type i j) = false

integer_here : (s : List ℕ) (q v : ℕ) → constant_at s q ≡ integer v → (v ≡ u4_at s (q + 1)) × (q < length s)
unfolding constant_at
integer_here s q v h =
    go (utf8 (part s (q + 3) (u2_at s (q + 1)))) (class_at (u2_at s (q + 1))) (fieldref (u2_at s (q + 1)) (u2_at s (q + 3))) (methodref (u2_at s (q + 1)) (u2_at s (q + 3))) (name_and_type (u2_at s (q + 1)) (u2_at s (q + 3))) refl refl refl refl refl
    (eqb (get_or s q 0) 1) (eqb (get_or s q 0) 3) refl (eqb (get_or s q 0) 7) (eqb (get_or s q 0) 9) (eqb (get_or s q 0) 10) (eqb (get_or s q 0) 12) h
  where
    other : {A : Type 0} (x : Constant) → is_integer x ≡ false → x ≡ integer v → A
    other x f e = absurd (not_so (sym f ∙ ap is_integer e))

    go : (u k f m t : Constant) → is_integer u ≡ false → is_integer k ≡ false → is_integer f ≡ false → is_integer m ≡ false → is_integer t ≡ false
        → (a b : Bool) → eqb (get_or s q 0) 3 ≡ b → (c d e g : Bool) → cond a u (cond b (integer (u4_at s (q + 1))) (cond c k (cond d f (cond e m (cond g t absent))))) ≡ integer v
        → (v ≡ u4_at s (q + 1)) × (q < length s)
    go u k f m t hu hk hf hm ht true b y c d e g z = other u hu z
    go u k f m t hu hk hf hm ht false true y c d e g z = (sym (ap (value_or 0) z), inside s q 3 (omega arith) y)
    go u k f m t hu hk hf hm ht false false y true d e g z = other k hk z
    go u k f m t hu hk hf hm ht false false y false true e g z = other f hf z
    go u k f m t hu hk hf hm ht false false y false false true g z = other m hm z
    go u k f m t hu hk hf hm ht false false y false false false true z = other t ht z
    go u k f m t hu hk hf hm ht false false y false false false false z = other absent refl z

pub integer_at : (s b : List ℕ) (i v : ℕ) → i < 1024 → length b ≡ block_size → entry (pool_of s b) i ≡ integer v → (v ≡ u4_at s (word b i + 1)) × (word b i < length s)
unfolding pool_of
integer_at s b i v l z h = go (ℕ_discrete i 0) (side i (length (take (4 * word b pool_word) b) / 4))
  where
    never : {A : Type 0} → absent ≡ entry (pool_in s (take (4 * word b pool_word) b)) i → A
    never e = absurd (not_so (ap is_integer (e ∙ h)))

    go : Dec (i ≡ 0) → (i < length (take (4 * word b pool_word) b) / 4) ⊎ (length (take (4 * word b pool_word) b) / 4 ≤ i) → (v ≡ u4_at s (word b i + 1)) × (word b i < length s)
    go (yes e) x = never (entry_none s (take (4 * word b pool_word) b) i e)
    go (no n) (inr g) = never (entry_past s (take (4 * word b pool_word) b) i g)
    go (no n) (inl g) =
        let w : word (take (4 * word b pool_word) b) i ≡ word b i = word-take (4 * word b pool_word) b i (omega (arith, length-take (4 * word b pool_word) b)) in
        let k : constant_at s (word b i) ≡ integer v = entry_in_lem s (take (4 * word b pool_word) b) i (constant_at s (word b i)) (word b i) n g refl (sym w) ∙ h in
        integer_here s (word b i) v k

-- ---- a field's type
pub field-type_as : (s : List ℕ) (n : ℕ) (t : List ℕ) (m : n ≤ 16) (c : ℕ) (h : c < n) (j r : ℕ) (p : Text) → j < row_count (block_at t c) false → p ≡ (row_sig s (block_at t c) false j).descriptor
    → desc_of r ≡ desc_or (field_type_at (number_by s n t) p 0) → desc_of r ≡ (get_or (class (program_of (files_in s n t)) (first_class + c)).fields j no_field).type
unfolding field_of row_at row_sig row_start row_in member_of
field-type_as s n t m c h j r p l k e =
    e ∙ ap (λ (x : Text). desc_or (field_type_at (number_by s n t) x 0)) k ∙ ap (λ (f : Field). f.type) (sym (field_at s n t m c h j l))

-- ---- an object's fields
layout-zero : (P : Program) (k c : ℕ) → c ≡ 0 → length (layout_to P (suc k) c) ≡ 0
unfolding layout_to
layout-zero P k c e = rw (eq-eqb c 0 e)

layout_next : (P : Program) (k c : ℕ) → (c ≡ 0 → ⊥) → length (layout_to P (suc k) c) ≡ length (layout_to P k (class P c).parent) + length (own_types (class P c))
unfolding layout_to
layout_next P k c e = rw (ne_eqb c 0 e) (length-append (layout_to P k (class P c).parent) (own_types (class P c)))

length-map : {A B : Type 0} (f : A → B) (l : List A) → length (map f l) ≡ length l
length-map f [] = refl
length-map f (x ∷ xs) = ap suc (length-map f xs)

module _ (s : List ℕ) (n : ℕ) (t : List ℕ) (m : n ≤ 16) where
  own_length : (C : Class) → length (own_types C) ≡ length C.fields
  own_length C = length-map (λ (f : Field). f.type) C.fields

  pub fields_low : (c : ℕ) → c < 11 → 0 ≡ length (own_types (class (program_of (files_in s n t)) c))
  fields_low c h = sym (own_length (class (program_of (files_in s n t)) c) ∙ ap length (built_in_class (files_in s n t) c h).1)

  pub fields_high : (c r : ℕ) → 11 ≤ c → c < 11 + n → r ≡ row_count (block_at t (c - 11)) false → r ≡ length (own_types (class (program_of (files_in s n t)) c))
  fields_high c r l h e =
      let z : first_class + (c - 11) ≡ c = omega arith in
      e ∙ sym (own_length (class (program_of (files_in s n t)) c) ∙ ap (λ (k : ℕ). length (class (program_of (files_in s n t)) k).fields) (sym z) ∙ fields-count s n t m (c - 11) (omega arith))

  pub fields_past : (c : ℕ) → 11 + n ≤ c → 0 ≡ length (own_types (class (program_of (files_in s n t)) c))
  fields_past c h = sym (own_length (class (program_of (files_in s n t)) c) ∙ ap (λ (C : Class). length C.fields) (class_past s n t m c h))

  pub layout_start : (from : ℕ) → 0 + length (layout_to (program_of (files_in s n t)) (11 + n) from) ≡ length (layout (program_of (files_in s n t)) from)
  unfolding layout
  layout_start from =
      zero-add _ ∙ ap (λ (k : ℕ). length (layout_to (program_of (files_in s n t)) k from)) (sym (class-count s n t m))

module _ (P : Program) (total left c R : ℕ) (i : total + length (layout_to P left c) ≡ R) where
  pub layout_out : left ≤ 0 → total ≡ R
  unfolding layout_to
  layout_out h = let z : left ≡ 0 = omega arith in let y : total + length (layout_to P 0 c) ≡ R = rw z at i in omega (arith, y)

  pub layout_stop : 0 < left → c ≡ 0 → total ≡ R
  layout_stop h e = let y : length (layout_to P left c) ≡ 0 = none left h in omega arith
    where
      none : (k : ℕ) → 0 < k → length (layout_to P k c) ≡ 0
      none zero l = absurd (omega arith)
      none (suc k) l = layout-zero P k c e

  pub layout_more : 0 < left → (c ≡ 0 → ⊥) → (k p : ℕ) → k ≡ length (own_types (class P c)) → p ≡ (class P c).parent → total + k + length (layout_to P (left - 1) p) ≡ R
  layout_more h e k p f g =
      let y : length (layout_to P left c) ≡ length (layout_to P (left - 1) (class P c).parent) + length (own_types (class P c)) = more left h in
      let z : length (layout_to P (left - 1) p) ≡ length (layout_to P (left - 1) (class P c).parent) = ap (λ (x : ℕ). length (layout_to P (left - 1) x)) g in
      omega arith
    where
      more : (j : ℕ) → 0 < j → length (layout_to P j c) ≡ length (layout_to P (j - 1) (class P c).parent) + length (own_types (class P c))
      more zero l = absurd (omega arith)
      more (suc j) l = let z : suc j - 1 ≡ j = omega arith in layout_next P j c e ∙ ap (λ (x : ℕ). length (layout_to P x (class P c).parent) + length (own_types (class P c))) (sym z)

-- ---- a name's number is the same over the program's classes
names_from : (number : Text → ℕ) (k : ℕ) (fs : List ClassFile) → map (λ (C : Class). C.name) (classes_from number k fs) ≡ map (λ (f : ClassFile). f.name) fs
unfolding classes_from class_of
names_from number k [] = refl
names_from number k (f ∷ fs) = ap (λ (l : List Text). f.name ∷ l) (names_from number (suc k) fs)

map-append : {A B : Type 0} (g : A → B) (xs ys : List A) → map g (xs ++ ys) ≡ map g xs ++ map g ys
map-append g [] ys = refl
map-append {A} {B} g (x ∷ xs) ys = ap (λ (l : List B). g x ∷ l) (map-append g xs ys)

pub program-names : (fs : List ClassFile) → map (λ (C : Class). C.name) (program_of fs).classes ≡ class_names fs
unfolding program_of class_names built_ins_from built_ins
program-names fs =
    map-append (λ (C : Class). C.name) (built_ins_from 0 built_ins) (classes_from (number_in (class_names fs)) first_class fs)
    ∙ ap (λ (l : List Text). map (λ (b : BuiltIn). b.name) built_ins ++ l) (names_from (number_in (class_names fs)) first_class fs)

-- ---- what is found is there
index_same : (g : Signature) (hs : List Signature) → index_of g hs < length hs → same_signature (get_or hs (index_of g hs) g) g ≡ true
unfolding index_of
index_same g [] l = absurd (omega arith)
index_same g (h ∷ hs) l = go (same_signature h g) refl l (index_same g hs)
  where
    go : (b : Bool) → same_signature h g ≡ b → cond b 0 (suc (index_of g hs)) < suc (length hs) → (index_of g hs < length hs → same_signature (get_or hs (index_of g hs) g) g ≡ true)
        → same_signature (get_or (h ∷ hs) (cond b 0 (suc (index_of g hs))) g) g ≡ true
    go true e k rec = e
    go false e k rec = rec (omega arith)

-- member j of class d has signature g
pub record There (P : Program) (sigs : Class → List Signature) (g : Signature) (d j : ℕ) : Type 0 where
  pub within : j < length (sigs (class P d))
  pub same : same_signature (get_or (sigs (class P d)) j g) g ≡ true

class_of_spot : Spot → ℕ
class_of_spot nowhere = 0
class_of_spot (spot c j) = c

index_of_spot : Spot → ℕ
index_of_spot nowhere = 0
index_of_spot (spot c j) = j

is_spot : Spot → Bool
is_spot nowhere = false
is_spot (spot c j) = true

module _ (P : Program) (sigs : Class → List Signature) (g : Signature) where
  pub own_there : (c d j : ℕ) → own_spot P sigs g c ≡ spot d j → There P sigs g d j
  unfolding own_spot class_of_spot index_of_spot is_spot
  own_there c d j h = go (ltb (index_of g (sigs (class P c))) (length (sigs (class P c)))) refl h
    where
      go : (b : Bool) → ltb (index_of g (sigs (class P c))) (length (sigs (class P c))) ≡ b → cond b (spot c (index_of g (sigs (class P c)))) nowhere ≡ spot d j → There P sigs g d j
      go false e k = absurd (not_so (ap is_spot k))
      go true e k =
          let x : c ≡ d = ap class_of_spot k in
          let y : index_of g (sigs (class P c)) ≡ j = ap index_of_spot k in
          let l : index_of g (sigs (class P c)) < length (sigs (class P c)) = ltb-true (index_of g (sigs (class P c))) (length (sigs (class P c))) e in
          rw (← x, ← y) (record { within = l; same = index_same g (sigs (class P c)) l })

  seek_there : (n c d j : ℕ) → seek P sigs g n c ≡ spot d j → There P sigs g d j
  unfolding seek own_spot is_spot
  seek_there zero c d j h = absurd (not_so (ap is_spot h))
  seek_there (suc n) c d j h = go (ltb (index_of g (sigs (class P c))) (length (sigs (class P c)))) refl (eqb c 0) h (seek_there n (class P c).parent d j)
    where
      go : (b : Bool) → ltb (index_of g (sigs (class P c))) (length (sigs (class P c))) ≡ b → (z : Bool)
          → cond b (spot c (index_of g (sigs (class P c)))) (cond z nowhere (seek P sigs g n (class P c).parent)) ≡ spot d j
          → (seek P sigs g n (class P c).parent ≡ spot d j → There P sigs g d j) → There P sigs g d j
      go true e z k rec = own_there c d j (rw e k)
      go false e true k rec = absurd (not_so (ap is_spot k))
      go false e false k rec = rec k

  pub lookup_there : (c d j : ℕ) → lookup P sigs g c ≡ spot d j → There P sigs g d j
  unfolding lookup
  lookup_there c d j h = seek_there (class_count P) c d j h
