-- The rows of a block's members as the code compares them: by name and descriptor. Assumes nothing.
use Rattle.std.specs.Prelude.{ℕ, suc, ◌+◌, ◌*◌, ◌<◌, ◌≡◌, Bool, cond, eqb, length, get_or, take, drop}
use Rattle.std.proofs.Common.{◌∙◌, zero-add, arith, refl, sym, ap, List, [], ◌∷◌, true, false, not}
use Rattle.std.proofs.lemmas.Bool.{not-true, not-false}
use Rattle.kit.specs.Lists.{eq_list}
use Rattle.kit.specs.Scan.{first_not}
use Rattle.kit.specs.Words.{word}
use Rattle.texts.specs.Reading.{u2_at}
use Rattle.texts.specs.Names.{Text}
use Rattle.classfiles.specs.Pool.{text}
use Rattle.classfiles.specs.Members.{Member}
use Rattle.classfiles.specs.Attributes.{member_of}
use Rattle.reader.specs.Program.{Signature, signature, same_signature, index_of}
use Rattle.classfiles.specs.Blocks.{block_size, field_count, method_count, field_rows, method_rows, listed, pool_of, row_in}
use Rattle.classfiles.specs.BlockWords.{length-listed}
use Rattle.reader.specs.Numbers.{listed_at}

-- block c of those in t
abbrev pub block_at : List ℕ → ℕ → List ℕ
block_at t c = take block_size (drop (block_size * c) t)

unfoldable pub rows_word : Bool → ℕ
rows_word method = cond method method_rows field_rows

unfoldable pub count_word : Bool → ℕ
count_word method = cond method method_count field_count

unfoldable pub row_start : List ℕ → Bool → ℕ → ℕ
row_start b method j = word b (rows_word method + 6 * j)

unfoldable pub row_count : List ℕ → Bool → ℕ
row_count b method = word b (count_word method)

abbrev pub sig_of : Member → Signature
sig_of m = signature m.name m.descriptor

module _ (s b : List ℕ) (method : Bool) where
  -- the member of row j
  unfoldable pub row_at : ℕ → Member
  row_at j = row_in s (pool_of s b) b (rows_word method + 6 * j)

  unfoldable pub row_sig : ℕ → Signature
  row_sig j =
      signature (text (pool_of s b) (u2_at s (row_start b method j + 2))) (text (pool_of s b) (u2_at s (row_start b method j + 4)))

  unfoldable pub row_sigs : List Signature
  row_sigs = listed row_sig (row_count b method)

  unfoldable pub other_sig : Signature → ℕ → Bool
  other_sig g j = not (same_signature (row_sig j) g)

  -- no earlier one has its signature
  unfoldable pub first_at : ℕ → Bool
  first_at j = eqb (index_of (row_sig j) row_sigs) j

  pub row-sig : (j : ℕ) → sig_of (row_at j) ≡ row_sig j
  unfolding row_at row_sig row_start row_in member_of
  row-sig j = refl

-- ---- the words
pub count-method : (b : List ℕ) (method : Bool) (r : ℕ) → method ≡ true → r ≡ word b method_count → r ≡ row_count b method
unfolding row_count count_word
count-method b method r e h = rw e h

pub count-field : (b : List ℕ) (method : Bool) (r : ℕ) → method ≡ false → r ≡ word b field_count → r ≡ row_count b method
unfolding row_count count_word
count-field b method r e h = rw e h

pub start_by : (b : List ℕ) (method : Bool) (j w r : ℕ) → w ≡ rows_word method → r ≡ word b (w + 6 * j) → r ≡ row_start b method j
unfolding row_start
start_by b method j w r e h = h ∙ ap (λ (k : ℕ). word b (k + 6 * j)) e

-- ---- two signatures, name first
module _ (s b : List ℕ) (method : Bool) (j : ℕ) (x y : Text) (q : ℕ) (hq : q ≡ row_start b method j) (p : Text) (hp : p ≡ text (pool_of s b) (u2_at s (q + 2)))
    (u : Bool) (hu : u ≡ eq_list p x) where
  name_is : u ≡ eq_list (row_sig s b method j).name x
  unfolding row_sig
  name_is = hu ∙ ap (λ (l : List ℕ). eq_list l x) (hp ∙ ap (λ (k : ℕ). text (pool_of s b) (u2_at s (k + 2))) hq)

  pub other_by_name : not u ≡ true → true ≡ other_sig s b method (signature x y) j
  unfolding other_sig same_signature row_sig
  other_by_name e = let z : eq_list (text (pool_of s b) (u2_at s (row_start b method j + 2))) x ≡ false = sym name_is ∙ not-true u e in rw z

  pub other_by_descriptor : not u ≡ false → (d : Text) → d ≡ text (pool_of s b) (u2_at s (q + 4)) → (v : Bool) → v ≡ eq_list d y
      → not v ≡ other_sig s b method (signature x y) j
  unfolding other_sig same_signature row_sig
  other_by_descriptor e d hd v hv =
      let z : eq_list (text (pool_of s b) (u2_at s (row_start b method j + 2))) x ≡ true = sym name_is ∙ not-false u e in
      rw z (ap not (hv ∙ ap (λ (l : List ℕ). eq_list l y) (hd ∙ ap (λ (k : ℕ). text (pool_of s b) (u2_at s (k + 4))) hq)))

-- ---- the index of a signature
-- where the test h fails first, counted from k on
index_from : (hs : List Signature) (g : Signature) (h : ℕ → Bool) (k : ℕ) → ((i : ℕ) → i < length hs → h (k + i) ≡ not (same_signature (get_or hs i g) g))
    → first_not h (length hs) k ≡ k + index_of g hs
unfolding first_not index_of
index_from [] g h k e = omega arith
index_from (n ∷ ns) g h k e =
    go (same_signature n g) here (index_from ns g h (suc k) (λ i l. let z : suc k + i ≡ k + suc i = omega arith in ap h z ∙ e (suc i) (omega arith)))
  where
    here : h k ≡ not (same_signature n g)
    here = let z : k + 0 ≡ k = omega arith in ap h (sym z) ∙ e 0 (omega arith)

    go : (t : Bool) → h k ≡ not t → first_not h (length ns) (suc k) ≡ suc k + index_of g ns → cond (h k) (first_not h (length ns) (suc k)) k ≡ k + cond t 0 (suc (index_of g ns))
    go true z next = rw z (omega arith)
    go false z next = rw z (next ∙ omega arith)

pub length_sigs : (s b : List ℕ) (method : Bool) → length (row_sigs s b method) ≡ row_count b method
unfolding row_sigs
length_sigs s b method = length-listed (row_sig s b method) (row_count b method)

pub index_first : (s b : List ℕ) (method : Bool) (g : Signature) → first_not (other_sig s b method g) (row_count b method) 0 ≡ index_of g (row_sigs s b method)
unfolding other_sig row_sigs
index_first s b method g =
    ap (λ (m : ℕ). first_not (other_sig s b method g) m 0) (sym (length_sigs s b method))
    ∙ index_from (row_sigs s b method) g (other_sig s b method g) 0
    (λ i l. let h : i < row_count b method = omega (arith, length_sigs s b method) in
    ap (other_sig s b method g) (zero-add i) ∙ ap (λ (y : Signature). not (same_signature y g)) (sym (listed_at (row_sig s b method) (row_count b method) i g h)))
    ∙ zero-add (index_of g (row_sigs s b method))

pub index_via : (s b : List ℕ) (method : Bool) (g : Signature) (n r : ℕ) → n ≡ row_count b method → r ≡ first_not (other_sig s b method g) n 0 → r ≡ index_of g (row_sigs s b method)
index_via s b method g n r e h = h ∙ ap (λ (m : ℕ). first_not (other_sig s b method g) m 0) e ∙ index_first s b method g

-- a signature from its two parts
pub sig_by : (s b : List ℕ) (method : Bool) (j : ℕ) (p d : Text) → p ≡ (row_sig s b method j).name → d ≡ (row_sig s b method j).descriptor → signature p d ≡ row_sig s b method j
unfolding row_sig
sig_by s b method j p d h k = rw (h, k)
