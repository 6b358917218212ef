-- The program's members by the rows of the blocks. Assumes nothing.
use Rattle.std.specs.Prelude.{Option, ℕ, zero, suc, ◌+◌, ◌-◌, ◌*◌, ◌<◌, ◌≤◌, ◌≡◌, List, [], ◌∷◌, Bool, not, length, get_or}
use Rattle.std.proofs.Common.{sym, ◌∙◌, arith, ap, true, false, eqb}
use Rattle.std.specs.Bool.{beq}
use Rattle.std.proofs.Math.ListN.{get_or-eq_default}
use Rattle.kit.specs.Words.{word}
use Rattle.texts.specs.Reading.{u2_at}
use Rattle.texts.specs.Names.{Text}
use Rattle.classfiles.specs.Attributes.{member_of}
use Rattle.reader.specs.BuiltIns.{first_class}
use Rattle.reader.specs.Program.{Signature, signature, Field, Method, Program, Class, no_field, no_method, built_in_method, class, method, number_in, class_names, field_of, method_of, class_of, program_of, method_sigs, Spot, nowhere, spot, lookup}
use Rattle.reader.specs.Link.{agrees}
use Rattle.classfiles.specs.Blocks.{field_rows, method_rows, field_count, method_count, listed, pool_of, row_in, rows_in, class_in}
use Rattle.classfiles.specs.BlockWords.{length-listed}
use Rattle.reader.specs.Numbers.{listed_at, map-listed}
use Rattle.reader.specs.Linked.{files_in}
use Rattle.reader.specs.MemberRows.{block_at, rows_word, count_word, row_start, row_count, row_at, row_sig, row-sig, sig_by}
use Rattle.reader.specs.Lookup.{hit_of, class-at, class_past, built_in_class}
use Rattle.reader.specs.declared.lookup.Hit.{Hit}

-- which class a name means
abbrev pub number_as : List ℕ → ℕ → List ℕ → Text → ℕ
number_as s n t = number_in (class_names (files_in s n t))

-- ---- member j of class c is row j of its block
module _ (s : List ℕ) (n : ℕ) (t : List ℕ) (m : n ≤ 16) (c : ℕ) (h : c < n) where
  abbrev P : Program
  P = program_of (files_in s n t)

  abbrev b : List ℕ
  b = block_at t c

  fields_are : (class P (first_class + c)).fields ≡ listed (λ i. field_of (number_as s n t) (row_at s b false i)) (row_count b false)
  unfolding class_of class_in rows_in row_count count_word row_at rows_word
  fields_are =
      ap (λ (C : Class). C.fields) (class-at s n t m c h)
      ∙ map-listed (field_of (number_as s n t)) (λ i. row_in s (pool_of s b) b (field_rows + 6 * i)) (word b field_count)

  methods_are : (class P (first_class + c)).methods ≡ listed (λ i. method_of (number_as s n t) (first_class + c) (row_at s b true i)) (row_count b true)
  unfolding class_of class_in rows_in row_count count_word row_at rows_word
  methods_are =
      ap (λ (C : Class). C.methods) (class-at s n t m c h)
      ∙ map-listed (method_of (number_as s n t) (first_class + c)) (λ i. row_in s (pool_of s b) b (method_rows + 6 * i)) (word b method_count)

  pub fields-count : length (class P (first_class + c)).fields ≡ row_count b false
  fields-count = ap (λ (fs : List Field). length fs) fields_are ∙ length-listed (λ i. field_of (number_as s n t) (row_at s b false i)) (row_count b false)

  pub methods-count : length (class P (first_class + c)).methods ≡ row_count b true
  methods-count = ap (λ (ms : List Method). length ms) methods_are ∙ length-listed (λ i. method_of (number_as s n t) (first_class + c) (row_at s b true i)) (row_count b true)

  pub field_at : (j : ℕ) → j < row_count b false → get_or (class P (first_class + c)).fields j no_field ≡ field_of (number_as s n t) (row_at s b false j)
  field_at j l =
      ap (λ (fs : List Field). get_or fs j no_field) fields_are
      ∙ listed_at (λ i. field_of (number_as s n t) (row_at s b false i)) (row_count b false) j no_field l

  pub method-at : (j : ℕ) → j < row_count b true → method P (first_class + c) j ≡ method_of (number_as s n t) (first_class + c) (row_at s b true j)
  method-at j l =
      ap (λ (ms : List Method). get_or ms j no_method) methods_are
      ∙ listed_at (λ i. method_of (number_as s n t) (first_class + c) (row_at s b true i)) (row_count b true) j no_method l

  method_past : (j : ℕ) → row_count b true ≤ j → method P (first_class + c) j ≡ no_method
  method_past j l =
      get_or-eq_default (class P (first_class + c)).methods no_method
      (rw (methods_are, length-listed (λ i. method_of (number_as s n t) (first_class + c) (row_at s b true i)) (row_count b true)) l)

  static-row : (j v : ℕ) → j < row_count b true → v ≡ u2_at s (row_start b true j) → eqb v 9 ≡ (method P (first_class + c) j).static
  unfolding method_of row_at row_in member_of row_start
  static-row j v l e = ap (λ (k : ℕ). eqb k 9) e ∙ ap (λ (M : Method). M.static) (sym (method-at j l))

  pub method-sig : (j : ℕ) → j < row_count b true → (method P (first_class + c) j).sig ≡ row_sig s b true j
  unfolding method_of
  method-sig j l = ap (λ (M : Method). M.sig) (method-at j l) ∙ row-sig s b true j

  pub field-sig : (j : ℕ) → j < row_count b false → (get_or (class P (first_class + c)).fields j no_field).sig ≡ row_sig s b false j
  unfolding field_of
  field-sig j l = ap (λ (F : Field). F.sig) (field_at j l) ∙ row-sig s b false j

  -- the method above, from what the code found
  pub above_by : (j up : ℕ) (p d : Text) (r : Option Hit) → j < row_count b true → p ≡ (row_sig s b true j).name → d ≡ (row_sig s b true j).descriptor → up ≡ (class P (first_class + c)).parent
      → hit_of r ≡ lookup P method_sigs (signature p d) up
      → hit_of r ≡ lookup P method_sigs (method P (first_class + c) j).sig (class P (first_class + c)).parent
  above_by j up p d r l x y e f =
      f ∙ ap (λ (g : Signature). lookup P method_sigs g up) (sig_by s b true j p d x y ∙ sym (method-sig j l))
      ∙ ap (lookup P method_sigs (method P (first_class + c) j).sig) e

-- ---- whether a method is static
module _ (s : List ℕ) (n : ℕ) (t : List ℕ) (c j : ℕ) where
  abbrev Q : Program
  Q = program_of (files_in s n t)

  pub static_low : c < 11 → false ≡ (method Q c j).static
  static_low h = at j (ap (λ (ms : List Method). (get_or ms j no_method).static) (built_in_class (files_in s n t) c h).0)
    where
      at : (i : ℕ) → (method Q c i).static ≡ (get_or (built_in_method c ∷ []) i no_method).static → false ≡ (method Q c i).static
      at zero e = sym e
      at (suc i) e = sym e

  module _ (m : n ≤ 16) where
    pub static_none : 11 + n ≤ c → false ≡ (method Q c j).static
    static_none h = ap (λ (C : Class). (get_or C.methods j no_method).static) (sym (class_past s n t m c h))

    module _ (l : 11 ≤ c) (h : c < 11 + n) (k : ℕ) (e : k ≡ row_count (block_at t (c - 11)) true) where
      number : first_class + (c - 11) ≡ c
      number = omega arith

      pub static_past : k ≤ j → false ≡ (method Q c j).static
      static_past g =
          let z : row_count (block_at t (c - 11)) true ≤ j = omega arith in
          ap (λ (M : Method). M.static) (sym (method_past s n t m (c - 11) (omega arith) j z)) ∙ ap (λ (i : ℕ). (method Q i j).static) number

      pub static_is : (q v : ℕ) → j < k → q ≡ row_start (block_at t (c - 11)) true j → v ≡ u2_at s q → eqb v 9 ≡ (method Q c j).static
      static_is q v g f w =
          let z : j < row_count (block_at t (c - 11)) true = omega arith in
          static-row s n t m (c - 11) (omega arith) j v z (w ∙ ap (u2_at s) f) ∙ ap (λ (i : ℕ). (method Q i j).static) number

-- ---- as the one above
module _ (s : List ℕ) (n : ℕ) (t : List ℕ) (a : Bool) (X : Spot) where
  abbrev R : Program
  R = program_of (files_in s n t)

  pub agrees_none : nowhere ≡ X → true ≡ agrees R a X
  agrees_none e = rw (← e)

  pub agrees_some : (c i : ℕ) → spot c i ≡ X → (b d r : Bool) → b ≡ a → d ≡ (method R c i).static → r ≡ beq b d → r ≡ agrees R a X
  agrees_some c i e b d r p q v = rw (← e) (rw (p, q) at v)

pub truth_yes : (a b : Bool) → a ≡ true → b ≡ beq a b
truth_yes a true e = rw e
truth_yes a false e = rw e

pub truth_no : (a b : Bool) → a ≡ false → not b ≡ beq a b
truth_no a true e = rw e
truth_no a false e = rw e
