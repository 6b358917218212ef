-- A word for each member, made of its name and descriptor: members of one signature have one print, so a search compares words first. Assumes nothing.
use Rattle.std.specs.Prelude.{◌≡◌, List, Bool, cond, ◌&&◌, ◌||◌, ◌⊎◌, eqb, length, get_or, take, drop}
use Rattle.std.proofs.Common.{subst, ◌∙◌, inl, inr, add-one, length-take, length-drop, take-take, drop-drop, eq-eqb, ℕ, zero, suc, ◌+◌, ◌-◌, ◌*◌, ◌/◌, ◌%◌, ◌^◌, ◌<◌, ◌≤◌, refl, sym, ap, true, false, not, arith}
use Rattle.std.proofs.lemmas.Bool.{not-false}
use Rattle.kit.specs.Bools.{not_so}
use Rattle.kit.specs.Lists.{eq_list, eq_list_true, eq_list_refl, drop-take}
use Rattle.kit.specs.Pick.{side}
use Rattle.kit.specs.Scan.{first_not, all_of, first_all, all_more, all_none, all_at}
use Rattle.kit.specs.Words.{word, put_word, word-drop, word-part, word_same, word_other, length_put}
use Rattle.texts.specs.Names.{Text}
use Rattle.reader.specs.Program.{Signature, signature, same_signature}
use Rattle.classfiles.specs.Blocks.{block_size}
use Rattle.classfiles.specs.BlockWords.{take_put}
use Rattle.reader.specs.Numbers.{part-block}
use Rattle.reader.specs.Linked.{parents_at}
use Rattle.reader.specs.MemberRows.{block_at, row_count, row_sig, other_sig, first_at, index_first, sig_by}

-- ---- the print
-- n words of a text from word i on, on top of h
unfoldable pub print_words : ℕ → Text → ℕ → ℕ → ℕ
print_words h x zero i = h
print_words h x (suc n) i = print_words ((16777619 * h + word x i) % 4294967296) x n (suc i)

-- a text, four bytes at a time, then the last three at most
unfoldable pub print_from : ℕ → Text → ℕ
print_from h x =
    (16777619 * print_words h x (length x / 4) 0 + get_or x (4 * (length x / 4)) 0 + 256 * get_or x (4 * (length x / 4) + 1) 0 + 65536 * get_or x (4 * (length x / 4) + 2) 0) % 4294967296

unfoldable pub print_of : Signature → ℕ
print_of g = print_from (print_from 0 g.descriptor) g.name

pub print_lt : (g : Signature) → print_of g < 2 ^ 32
unfolding print_of print_from
print_lt g = omega arith

-- a loop over the words of a text, of which i have passed
module _ (x : Text) (n i h R : ℕ) (v : print_words h x (n - i) i ≡ R) where
  pub words_end : n ≤ i → h ≡ R
  unfolding print_words
  words_end l = let z : n - i ≡ 0 = omega arith in sym (ap (λ (k : ℕ). print_words h x k i) z) ∙ v

  pub words_next : i < n → (b : ℕ) → b ≡ word x i → print_words ((16777619 * h + b) % 4294967296) x (n - (i + 1)) (i + 1) ≡ R
  unfolding print_words
  words_next l b e =
      let z : n - i ≡ suc (n - (i + 1)) = omega arith in
      ap (print_words ((16777619 * h + b) % 4294967296) x (n - (i + 1))) (add-one i)
      ∙ ap (λ (k : ℕ). print_words ((16777619 * h + k) % 4294967296) x (n - (i + 1)) (suc i)) e ∙ sym (ap (λ (k : ℕ). print_words h x k i) z) ∙ v

pub words_start : (x : Text) (n h : ℕ) → print_words h x (n - 0) 0 ≡ print_words h x n 0
words_start x n h = let z : n - 0 ≡ n = omega arith in ap (λ (k : ℕ). print_words h x k 0) z

pub print_last : (x : Text) (h v a b c : ℕ) → v ≡ print_words h x (length x / 4) 0 → a ≡ get_or x (4 * (length x / 4)) 0 → b ≡ get_or x (4 * (length x / 4) + 1) 0 → c ≡ get_or x (4 * (length x / 4) + 2) 0
    → (16777619 * v + a + 256 * b + 65536 * c) % 4294967296 ≡ print_from h x
unfolding print_from
print_last x h v a b c e f g k = rw (e, f, g, k)

pub print_by : (x y : Text) (h r : ℕ) → h ≡ print_from 0 y → r ≡ print_from h x → r ≡ print_of (signature x y)
unfolding print_of
print_by x y h r e f = f ∙ ap (λ (k : ℕ). print_from k x) e

-- ---- a word among others
unfoldable pub other_word : List ℕ → ℕ → ℕ → Bool
other_word b p i = not (eqb (word b i) p)

unfoldable pub has_word : List ℕ → ℕ → ℕ → Bool
has_word b p n = not (all_of (other_word b p) n)

pub has_start : (b : List ℕ) (p : ℕ) → false ≡ has_word b p 0
unfolding has_word
has_start b p = sym (ap not (all_none (other_word b p)))

pub has_next : (b : List ℕ) (p i : ℕ) (h : Bool) (a : ℕ) → h ≡ has_word b p i → a ≡ word b i → (h || eqb a p) ≡ has_word b p (i + 1)
unfolding has_word other_word
has_next b p i h a e f =
    ap (λ (k : ℕ). h || eqb k p) f ∙ ap (λ (k : Bool). k || eqb (word b i) p) e ∙ by (all_of (other_word b p) i) (eqb (word b i) p)
    ∙ sym (ap not (all_more (other_word b p) i))
  where
    by : (a e : Bool) → (not a || e) ≡ not (a && not e)
    by true true = refl
    by true false = refl
    by false true = refl
    by false false = refl

pub has_end : (b : List ℕ) (p i n : ℕ) (h : Bool) → i ≤ n → n ≤ i → h ≡ has_word b p i → h ≡ has_word b p n
has_end b p i n h l m e = let z : i ≡ n = omega arith in e ∙ ap (has_word b p) z

pub has_none : (b : List ℕ) (p n : ℕ) (r : Bool) → r ≡ has_word b p n → r ≡ false → (i : ℕ) → i < n → word b i ≡ p → ⊥
unfolding has_word other_word
has_none b p n r e f i l z =
    let a : all_of (other_word b p) n ≡ true = not-false (all_of (other_word b p) n) (sym e ∙ f) in
    let y : not (eqb (word b i) p) ≡ true = all_at (other_word b p) n a i l in
    not_so (sym (ap not (eq-eqb (word b i) p z)) ∙ y)

-- ---- where prints stand: 64 words for the fields, 64 for the methods of each class, behind the methods' types
abbrev pub prints_at : ℕ
prints_at = 46752

abbrev pub prints_end : ℕ
prints_end = 195200

unfoldable pub prints_word : ℕ → Bool → ℕ
prints_word c method = prints_at + 128 * c + cond method 64 0

-- the prints of class c's fields or methods stand in t
pub record PrintedAt (s t : List ℕ) (c : ℕ) (method : Bool) : Type 0 where
  pub long : prints_end ≤ length t
  pub few : row_count (block_at t c) method ≤ 64
  pub at : (j : ℕ) → j < row_count (block_at t c) method → word t (prints_word c method + j) ≡ print_of (row_sig s (block_at t c) method j)

pub record Printed (s : List ℕ) (n : ℕ) (t : List ℕ) : Type 0 where
  pub at : (c : ℕ) → c < n → (method : Bool) → PrintedAt s t c method

-- w has the prints of the first m rows of block b
pub record RowPrints (s b : List ℕ) (method : Bool) (m : ℕ) (w : List ℕ) : Type 0 where
  pub at : (j : ℕ) → j < m → word w j ≡ print_of (row_sig s b method j)

pub word_of : (c : ℕ) (method : Bool) → c < 16 → (prints_at ≤ prints_word c method) × (prints_word c method + 64 ≤ 48800)
unfolding prints_word
word_of c true l = (omega arith, omega arith)
word_of c false l = (omega arith, omega arith)

pub word-method : (c : ℕ) (method : Bool) → method ≡ true → 46816 + 128 * c ≡ prints_word c method
unfolding prints_word
word-method c method e = rw e (omega arith)

pub word-field : (c : ℕ) (method : Bool) → method ≡ false → 46752 + 128 * c ≡ prints_word c method
unfolding prints_word
word-field c method e = rw e (omega arith)

-- ---- rows by their prints
same_sig : (g h : Signature) → same_signature g h ≡ true → g ≡ h
unfolding same_signature
same_sig g h e = go (eq_list g.name h.name) refl e
  where
    go : (b : Bool) → eq_list g.name h.name ≡ b → cond b (eq_list g.descriptor h.descriptor) false ≡ true → g ≡ h
    go true p q =
        let x : g.name ≡ h.name = eq_list_true g.name h.name p in
        let y : g.descriptor ≡ h.descriptor = eq_list_true g.descriptor h.descriptor q in
        ap (λ (n : Text). signature n g.descriptor) x ∙ ap (signature h.name) y
    go false p q = absurd (not_so q)

same_self : (g : Signature) → same_signature g g ≡ true
unfolding same_signature
same_self g = rw (eq_list_refl g.name) (eq_list_refl g.descriptor)

module _ (s b : List ℕ) (method : Bool) (g : Signature) (j : ℕ) where
  -- another print, so another signature
  pub other_by_print : (a p : ℕ) → a ≡ print_of (row_sig s b method j) → p ≡ print_of g → (a ≡ p → ⊥) → true ≡ other_sig s b method g j
  unfolding other_sig
  other_by_print a p e f z = go (same_signature (row_sig s b method j) g) refl
    where
      go : (y : Bool) → same_signature (row_sig s b method j) g ≡ y → true ≡ not y
      go true h = absurd (z (e ∙ ap print_of (same_sig (row_sig s b method j) g h) ∙ sym f))
      go false h = refl

  self_same : other_sig s b method (row_sig s b method j) j ≡ false
  unfolding other_sig
  self_same = ap not (same_self (row_sig s b method j))

-- a test that fails at j fails first there or before, whatever comes behind
first-cut : (f : ℕ → Bool) (j n i : ℕ) → j < n → f (i + j) ≡ false → first_not f n i ≡ first_not f j i
unfolding first_not
first-cut f j zero i l e = absurd (omega arith)
first-cut f zero (suc n) i l e = let z : i + 0 ≡ i = omega arith in rw (ap f (sym z) ∙ e)
first-cut f (suc j) (suc n) i l e =
    let z : suc i + j ≡ i + suc j = omega arith in
    ap (λ (k : ℕ). cond (f i) k i) (first-cut f j n (suc i) (omega arith) (ap f z ∙ e))

pub first_under : (s b : List ℕ) (method : Bool) (j r : ℕ) (g : Signature) → g ≡ row_sig s b method j → j < row_count b method
    → r ≡ first_not (other_sig s b method g) j 0 → eqb r j ≡ first_at s b method j
unfolding first_at
first_under s b method j r g y l e =
    ap (λ (k : ℕ). eqb k j) (e ∙ ap (λ (h : Signature). first_not (other_sig s b method h) j 0) y
    ∙ sym (first-cut f j (row_count b method) 0 l (ap f zj ∙ self_same s b method (row_sig s b method j) j)) ∙ index_first s b method (row_sig s b method j))
  where
    f : ℕ → Bool
    f = other_sig s b method (row_sig s b method j)

    zj : 0 + j ≡ j
    zj = omega arith

-- ---- the prints of a class's first m rows, as the code lends them
module _ (s t : List ℕ) (c : ℕ) (method : Bool) (h : PrintedAt s t c method) (m : ℕ) (l : m ≤ row_count (block_at t c) method) (w : List ℕ) (e : w ≡ take (4 * m) (drop (4 * prints_word c method) t)) where
  lent-word : (j : ℕ) → j < m → word w j ≡ print_of (row_sig s (block_at t c) method j)
  lent-word j k = ap (λ (v : List ℕ). word v j) e ∙ word-part (prints_word c method) (4 * m) t j (omega arith) ∙ h.at j (omega arith)

  pub lent_prints : RowPrints s (block_at t c) method m w
  lent_prints = record { at = lent-word }

  pub first_none : c < 16 → (g : Signature) (p : ℕ) → p ≡ print_of g → (r : Bool) → r ≡ has_word w p (length w / 4) → r ≡ false → m ≡ first_not (other_sig s (block_at t c) method g) m 0
  first_none o g p f r q z =
      sym (first_all (other_sig s (block_at t c) method g) m 0
      (λ k a b. sym (other_by_print s (block_at t c) method g k _ p (lent-word k (omega arith)) f
      (λ x. has_none w p _ r q z k (omega (arith, whole)) x)))
      ∙ omega arith)
    where
      whole : length w ≡ 4 * m
      whole = ap length e ∙ omega (arith, length-take (4 * m) (drop (4 * prints_word c method) t), length-drop (4 * prints_word c method) t, (word_of c method o).1, h.long, h.few)

-- row j, where no print before it is its own
pub first_lone : (s t : List ℕ) (c : ℕ) (method : Bool) (h : PrintedAt s t c method) (j : ℕ) (w : List ℕ) → w ≡ take (4 * j) (drop (4 * prints_word c method) t) → c < 16 → j < row_count (block_at t c) method
    → (p : ℕ) → p ≡ word t (prints_word c method + j) → (r : Bool) → r ≡ has_word w p (length w / 4) → r ≡ false → true ≡ first_at s (block_at t c) method j
first_lone s t c method h j w e o l p f r q z =
    sym (eq-eqb j j refl)
    ∙ first_under s (block_at t c) method j j (row_sig s (block_at t c) method j) refl l
    (first_none s t c method h j (omega arith) w e o (row_sig s (block_at t c) method j) p (f ∙ h.at j l) r q z)

pub first_block : (s t : List ℕ) (c : ℕ) (method : Bool) (g : Signature) (m r : ℕ) → r ≡ first_not (other_sig s (take (6432 * c + 6432 - 6432 * c) (drop (6432 * c) t)) method g) m 0
    → r ≡ first_not (other_sig s (block_at t c) method g) m 0
first_block s t c method g m r h = h ∙ ap (λ (b : List ℕ). first_not (other_sig s b method g) m 0) (part-block t c)

-- the print that stands for row j is that of its texts
pub print_texts : (s t : List ℕ) (c : ℕ) (method : Bool) (j a : ℕ) (p d : Text) → PrintedAt s t c method → j < row_count (block_at t c) method → a ≡ word t (prints_word c method + j)
    → p ≡ (row_sig s (block_at t c) method j).name → d ≡ (row_sig s (block_at t c) method j).descriptor
    → a ≡ print_of (signature p d)
print_texts s t c method j a p d h l e x y = e ∙ h.at j l ∙ ap print_of (sym (sig_by s (block_at t c) method j p d x y))

-- the print of a row's texts is the row's
pub texts_print : (s b : List ℕ) (method : Bool) (j a : ℕ) (p d : Text) → p ≡ (row_sig s b method j).name → d ≡ (row_sig s b method j).descriptor
    → a ≡ print_of (signature p d) → a ≡ print_of (row_sig s b method j)
texts_print s b method j a p d x y e = e ∙ ap print_of (sig_by s b method j p d x y)

-- ---- what stands elsewhere may change
-- the blocks are the same where the scratch is the same up to the parents' numbers
pub same_block : (t u : List ℕ) → take parents_at u ≡ take parents_at t → (c : ℕ) → c < 16 → block_at u c ≡ block_at t c
same_block t u e c l = sym (cut u) ∙ ap (λ (x : List ℕ). block_at x c) e ∙ cut t
  where
    cut : (x : List ℕ) → block_at (take parents_at x) c ≡ block_at x c
    cut x =
        ap (take block_size) (drop-take (block_size * c) parents_at x) ∙ take-take block_size (parents_at - block_size * c) (drop (block_size * c) x) (omega arith)

pub same_front : (a b : ℕ) (t u : List ℕ) → b ≤ a → take a u ≡ take a t → take b u ≡ take b t
same_front a b t u l e = sym (take-take b a u l) ∙ ap (take b) e ∙ take-take b a t l

pub same_back : (a b : ℕ) (t u : List ℕ) → a ≤ b → drop a u ≡ drop a t → drop b u ≡ drop b t
same_back a b t u l e =
    let z : a + (b - a) ≡ b = omega arith in
    ap (λ (k : ℕ). drop k u) (sym z) ∙ sym (drop-drop (b - a) a u) ∙ ap (drop (b - a)) e ∙ drop-drop (b - a) a t ∙ ap (λ (k : ℕ). drop k t) z

module _ (s : List ℕ) (n : ℕ) (t u : List ℕ) (m : n ≤ 16) (f : take parents_at u ≡ take parents_at t) (g : drop 187008 u ≡ drop 187008 t) (k : length u ≡ length t) where
  word_behind : (i : ℕ) → prints_at ≤ i → word u i ≡ word t i
  word_behind i l =
      let z : prints_at + (i - prints_at) ≡ i = omega arith in
      ap (word u) (sym z) ∙ sym (word-drop prints_at u (i - prints_at)) ∙ ap (λ (x : List ℕ). word x (i - prints_at)) g ∙ word-drop prints_at t (i - prints_at) ∙ ap (word t) z

  pub printed_moved : Printed s n t → Printed s n u
  printed_moved p = record { at = λ c l method. moved c l method (p.at c l method) }
    where
      moved : (c : ℕ) → c < n → (method : Bool) → PrintedAt s t c method → PrintedAt s u c method
      moved c l method h =
          let e : block_at u c ≡ block_at t c = same_block t u f c (omega arith) in
          record {
            long = omega (arith, h.long);
            few = rw e h.few;
            at = λ j o. word_behind (prints_word c method + j) (omega (arith, (word_of c method (omega arith)).0)) ∙ h.at j (rw e at o) ∙ ap (λ (b : List ℕ). print_of (row_sig s b method j)) (sym e);
          }

-- ---- the prints as they are written
-- the first n rows of class c's fields or methods
pub record RowsTo (s : List ℕ) (c : ℕ) (method : Bool) (n : ℕ) (t u : List ℕ) : Type 0 where
  pub front : take 187008 u ≡ take 187008 t
  pub long : length u ≡ length t
  pub at : (j : ℕ) → j < n → word u (prints_word c method + j) ≡ print_of (row_sig s (block_at t c) method j)
  pub other : (k : ℕ) → (k < prints_word c method) ⊎ (prints_word c method + 64 ≤ k) → word u k ≡ word t k

pub rows_none : (s : List ℕ) (c : ℕ) (method : Bool) (t : List ℕ) → RowsTo s c method 0 t t
rows_none s c method t = record { front = refl; long = refl; at = λ j l. absurd (omega arith); other = λ k h. refl }

module _ (s : List ℕ) (c : ℕ) (l : c < 16) (method : Bool) (j : ℕ) (t u : List ℕ) (h : RowsTo s c method j t u) where
  rows-block : block_at u c ≡ block_at t c
  rows-block = same_block t u (same_front 187008 parents_at t u (omega arith) h.front) c l

  pub rows_more : prints_end ≤ length t → j < 64 → (p w : ℕ) → p ≡ print_of (row_sig s (block_at u c) method j) → w ≡ prints_word c method → (v : List ℕ) → v ≡ put_word u (w + j) p
      → RowsTo s c method (j + 1) t v
  rows_more o m p w e f v g = record {
    front = ap (take 187008) g ∙ take_put prints_at u (w + j) p (omega (arith, f, (word_of c method l).0)) ∙ h.front;
    long = ap (λ (x : List ℕ). length x) g ∙ length_put u (w + j) p ∙ h.long;
    at = λ i k. at i k (side i j);
    other = λ k z. ap (λ (x : List ℕ). word x k) g ∙ word_other u (w + j) p k (λ y. apart k z y) ∙ h.other k z;
  }
    where
      size : p < 2 ^ 32
      size = omega (arith, e, print_lt (row_sig s (block_at u c) method j))

      apart : (k : ℕ) → (k < prints_word c method) ⊎ (prints_word c method + 64 ≤ k) → k ≡ w + j → ⊥
      apart k (inl z) y = omega (arith, f)
      apart k (inr z) y = omega (arith, f)

      at : (i : ℕ) → i < j + 1 → (i < j) ⊎ (j ≤ i) → word v (prints_word c method + i) ≡ print_of (row_sig s (block_at t c) method i)
      at i k (inl z) =
          ap (λ (x : List ℕ). word x (prints_word c method + i)) g
          ∙ word_other u (w + j) p (prints_word c method + i) (λ y. omega (arith, f))
          ∙ h.at i z
      at i k (inr z) =
          let y : i ≡ j = omega arith in
          let q : prints_word c method + i ≡ w + j = omega (arith, f) in
          ap (λ (x : List ℕ). word x (prints_word c method + i)) g ∙ ap (word (put_word u (w + j) p)) q
          ∙ word_same u (w + j) p (omega (arith, f, h.long, (word_of c method l).1)) size
          ∙ e ∙ ap (λ (b : List ℕ). print_of (row_sig s b method j)) rows-block ∙ ap (λ (a : ℕ). print_of (row_sig s (block_at t c) method a)) (sym y)

pub rows_done : (s : List ℕ) (c : ℕ) (method : Bool) (j n : ℕ) (t u : List ℕ) → j ≤ n → n ≤ j → n ≡ row_count (block_at t c) method → RowsTo s c method j t u
    → RowsTo s c method (row_count (block_at t c) method) t u
rows_done s c method j n t u l m e h = let z : j ≡ row_count (block_at t c) method = omega (arith, e) in subst (λ (k : ℕ). RowsTo s c method k t u) z h

-- those of the first c classes
pub record PrintsTo (s : List ℕ) (c : ℕ) (t u : List ℕ) : Type 0 where
  pub front : take 187008 u ≡ take 187008 t
  pub long : length u ≡ length t
  pub at : (d : ℕ) → d < c → (method : Bool) (j : ℕ) → j < row_count (block_at t d) method → word u (prints_word d method + j) ≡ print_of (row_sig s (block_at t d) method j)

pub prints_none : (s t : List ℕ) → PrintsTo s 0 t t
prints_none s t = record { front = refl; long = refl; at = λ d l method j k. absurd (omega arith) }

-- at most 64 rows each
pub record FewRows (n : ℕ) (t : List ℕ) : Type 0 where
  pub at : (d : ℕ) → d < n → (method : Bool) → row_count (block_at t d) method ≤ 64

module _ (s : List ℕ) (n : ℕ) (m : n ≤ 16) (c : ℕ) (t u : List ℕ) (few : FewRows n t) (h : PrintsTo s c t u) where
  prints_block : (d : ℕ) → d < 16 → block_at u d ≡ block_at t d
  prints_block d l = same_block t u (same_front 187008 parents_at t u (omega arith) h.front) d l

  pub prints_few : FewRows n u
  prints_few = record { at = λ d l method. rw (prints_block d (omega arith)) (few.at d l method) }

  pub prints_done : prints_end ≤ length t → n ≤ c → Printed s n u
  prints_done o l = record {
    at = λ d k method. let e : block_at u d ≡ block_at t d = prints_block d (omega arith) in record {
      long = omega (arith, h.long);
      few = prints_few.at d k method;
      at = λ j i. h.at d (omega arith) method j (rw e at i) ∙ ap (λ (b : List ℕ). print_of (row_sig s b method j)) (sym e);
    };
  }

  module _ (l : c < n) (v : List ℕ) (a : ℕ) (ea : a ≡ row_count (block_at u c) false) (f : RowsTo s c false a u v) where
    pub fields-count : row_count (block_at v c) true ≤ 64
    fields-count = rw (same_block u v (same_front 187008 parents_at u v (omega arith) f.front) c (omega arith)) (prints_few.at c l true)

    pub prints_more : (x : List ℕ) (b : ℕ) → b ≡ row_count (block_at v c) true → RowsTo s c true b v x → PrintsTo s (c + 1) t x
    unfolding prints_word
    prints_more x b eb g = record {
      front = g.front ∙ f.front ∙ h.front;
      long = g.long ∙ f.long ∙ h.long;
      at = λ d k method j i. go d k method j i (side d c);
    }
      where
        both : block_at v c ≡ block_at t c
        both = same_block u v (same_front 187008 parents_at u v (omega arith) f.front) c (omega arith) ∙ prints_block c (omega arith)

        older : (d : ℕ) → d < c → (method : Bool) (j : ℕ) → j < 64 → word x (prints_word d method + j) ≡ word u (prints_word d method + j)
        older d z true j i = g.other (prints_word d true + j) (inl (omega arith)) ∙ f.other (prints_word d true + j) (inl (omega arith))
        older d z false j i = g.other (prints_word d false + j) (inl (omega arith)) ∙ f.other (prints_word d false + j) (inl (omega arith))

        here : (method : Bool) (j : ℕ) → j < row_count (block_at t c) method → word x (prints_word c method + j) ≡ print_of (row_sig s (block_at t c) method j)
        here true j i =
            g.at j (omega (arith, eb, ap (λ (y : List ℕ). row_count y true) both)) ∙ ap (λ (y : List ℕ). print_of (row_sig s y true j)) both
        here false j i =
            g.other (prints_word c false + j) (inl (omega (arith, few.at c l false)))
            ∙ f.at j (omega (arith, ea, ap (λ (y : List ℕ). row_count y false) (prints_block c (omega arith))))
            ∙ ap (λ (y : List ℕ). print_of (row_sig s y false j)) (prints_block c (omega arith))

        go : (d : ℕ) → d < c + 1 → (method : Bool) (j : ℕ) → j < row_count (block_at t d) method → (d < c) ⊎ (c ≤ d)
            → word x (prints_word d method + j) ≡ print_of (row_sig s (block_at t d) method j)
        go d k method j i (inl z) = older d z method j (omega (arith, few.at d (omega arith) method)) ∙ h.at d z method j i
        go d k method j i (inr z) =
            let y : d ≡ c = omega arith in
            rw y (here method j (rw y at i))

-- all classes' prints, and nothing else
pub record AllPrinted (s : List ℕ) (n : ℕ) (t u : List ℕ) : Type 0 where
  pub front : take 187008 u ≡ take 187008 t
  pub long : length u ≡ length t
  pub printed : Printed s n u

pub all_printed : (s : List ℕ) (n : ℕ) → n ≤ 16 → (c : ℕ) (t u : List ℕ) → FewRows n t → PrintsTo s c t u → prints_end ≤ length t → n ≤ c → AllPrinted s n t u
all_printed s n m c t u few h o l = record { front = h.front; long = h.long; printed = prints_done s n m c t u few h o l }
