-- Types by base and depth, and values by tag and cell: the verifier's words, what fits where, and what a reference refers to.
-- Assumes nothing.
use Rattle.std.specs.Prelude.{◌≡◌, ℕ, zero, suc, ◌+◌, ◌-◌, ◌/◌, ◌%◌, ◌^◌, ◌<◌, ◌≤◌, Bool, true, false, cond, List, ◌==◌, ◌≢◌, nat_eq, slice_index}
use Rattle.std.proofs.Common.{sym, ◌∙◌, add-one, refl, ap, arith, ne_eqb, eqb-true, eq-eqb}
use Rattle.classfiles.specs.Descriptors.{Ref, cls, arr, Desc, dint, dref}
use Rattle.reader.specs.Program.{Program, below}
use Rattle.rules.specs.Types.{ini, ref_fits, desc_fits, fits, is_dint}
use Rattle.rules.specs.TypeWords.{nest}
use Rattle.rules.specs.TypeWords as types
use Rattle.rules.specs.InstructionWords as words
use Rattle.rules.specs.Ancestry.{lineage, Parents, fits-lineage}
use Rattle.plain.specs.Heap.{heap, ref, int_base, desc_of, ref_of, type_at, refers_to, Heap, Val, empty, num, value_fits, is_num, is_ref, to_cell, from_cell}
use Rattle.rules.specs.TypeWords as types
use Rattle.rules.specs.InstructionWords as words
use Rattle.kit.specs.Bools.{not_so}

-- a slot's tag and cell
unfoldable pub value_of : ℕ → ℕ → Val
value_of t c = cond (t == 1) (num c) (cond (t == 2) (ref c) empty)

module _ (t c : ℕ) where
  pub value_empty : t ≡ 0 → value_of t c ≡ empty
  unfolding value_of
  value_empty e = rw e

  pub value_num : t ≡ 1 → value_of t c ≡ num c
  unfolding value_of
  value_num e = rw e

  pub value_ref : t ≡ 2 → value_of t c ≡ ref c
  unfolding value_of
  value_ref e = rw e

  value_else : (t ≢ 1) → (t ≢ 2) → value_of t c ≡ empty
  unfolding value_of
  value_else h k = rw (ne_eqb t 1 h, ne_eqb t 2 k)

  pub num_tag : nat_eq t 1 ≡ is_num (value_of t c)
  unfolding value_of
  num_tag = go (t == 1) (t == 2)
    where
      go : (p q : Bool) → p ≡ is_num (cond p (num c) (cond q (ref c) empty))
      go true q = refl
      go false true = refl
      go false false = refl

  pub ref_tag : nat_eq t 2 ≡ is_ref (value_of t c)
  unfolding value_of
  ref_tag = go (t == 1) (t == 2) refl refl
    where
      go : (p q : Bool) → (t == 1) ≡ p → (t == 2) ≡ q → q ≡ is_ref (cond p (num c) (cond q (ref c) empty))
      go true true e f = absurd (omega (arith, eqb-true t 1 e, eqb-true t 2 f))
      go true false e f = refl
      go false true e f = refl
      go false false e f = refl

  pub cell-num : t ≡ 1 → c ≡ to_cell (value_of t c)
  cell-num e = rw (value_num e)

  pub cell-ref : t ≡ 2 → c ≡ to_cell (value_of t c)
  cell-ref e = rw (value_ref e)

  pub cell_else : (t ≢ 1) → (t ≢ 2) → 0 ≡ to_cell (value_of t c)
  cell_else h k = rw (value_else h k)

-- ---- the verifier's words of types, where int's base is another number
abbrev pub header_base : ℕ → ℕ
header_base b = cond (b == types.int_base) int_base b

base_word : (b : ℕ) → b < 2 ^ 26 → desc_of (header_base b) 0 ≡ types.base_of b
unfolding desc_of types.base_of
base_word b h = go (b == types.int_base)
  where
    off : nat_eq b int_base ≡ false
    off = ne_eqb b int_base (λ e. omega arith)

    go : (t : Bool) → cond (cond t int_base b == int_base) dint (dref (cls (cond t int_base b))) ≡ cond t dint (dref (cls b))
    go true = refl
    go false = rw off

nest-word : (b d : ℕ) → b < 2 ^ 26 → desc_of (header_base b) d ≡ nest b d
unfolding desc_of nest
nest-word b zero h = base_word b h
nest-word b (suc d) h = ap (λ (x : Desc). dref (arr x)) (nest-word b d h)

module _ (w b : ℕ) where
  pub array-of : w < 2 ^ 32 → b ≡ header_base (w / 64) → ref_of b (w / 8 % 8 + 1) ≡ arr (words.element_of w)
  array-of h p = rw (add-one (w / 8 % 8), p) (ap arr (nest-word (w / 64) (w / 8 % 8) (omega arith)))

  pub named_array : (d : ℕ) → w % 8 ≡ 4 → ref_of b d ≡ arr (words.element_of w) → ref_of b d ≡ words.ref_of w
  named_array d k p = rw (eq-eqb (w % 8) 4 k) p

  pub named-class : (w % 8 ≢ 4) → ref_of (w / 64) 0 ≡ words.ref_of w
  named-class k = rw (ne_eqb (w % 8) 4 k)

  pub described_int : w % 8 ≡ 1 → desc_of int_base 0 ≡ words.desc_of w
  unfolding desc_of
  described_int k = rw (eq-eqb (w % 8) 1 k)

  pub described_array : (d : ℕ) → w % 8 ≡ 4 → ref_of b d ≡ arr (words.element_of w) → desc_of b d ≡ words.desc_of w
  unfolding desc_of
  described_array zero k p = let z : ◌≡◌ {A = ℕ} 0 1 = cc in absurd (omega arith)
  described_array (suc d) k p = rw k (ap dref p)

  pub described_class : (w % 8 ≢ 1) → (w % 8 ≢ 4) → w < 2 ^ 32 → desc_of (w / 64) 0 ≡ words.desc_of w
  unfolding desc_of
  described_class h k l =
      let n : nat_eq (w / 64) int_base ≡ false = ne_eqb (w / 64) int_base (λ e. omega arith) in
      rw (n, ne_eqb (w % 8) 1 h, ne_eqb (w % 8) 4 k)

-- ---- int, and an array's element
module _ (b d : ℕ) where
  pub int-deep : 0 < d → false ≡ is_dint (desc_of b d)
  unfolding desc_of
  int-deep h = go d h
    where
      go : (k : ℕ) → 0 < k → false ≡ is_dint (desc_of b k)
      go zero l = absurd (omega arith)
      go (suc k) l = refl

  pub int_flat : d ≤ 0 → (b == int_base) ≡ is_dint (desc_of b d)
  unfolding desc_of
  int_flat h =
      let e : d ≡ 0 = omega arith in
      rw e (go (b == int_base))
    where
      go : (t : Bool) → t ≡ is_dint (cond t dint (dref (cls b)))
      go true = refl
      go false = refl

  pub element-of : 0 < d → arr (desc_of b (d - 1)) ≡ ref_of b d
  element-of h = go d h
    where
      go : (k : ℕ) → 0 < k → arr (desc_of b (k - 1)) ≡ ref_of b k
      go zero l = absurd (omega arith)
      go (suc k) l =
          let e : suc k - 1 ≡ k = omega arith in
          rw e

  desc_ref : is_dint (desc_of b d) ≡ false → desc_of b d ≡ dref (ref_of b d)
  unfolding desc_of
  desc_ref h = go d h
    where
      flat : (t : Bool) → is_dint (cond t dint (dref (cls b))) ≡ false → cond t dint (dref (cls b)) ≡ dref (cls b)
      flat true e = absurd (not_so (sym e))
      flat false e = refl

      go : (k : ℕ) → is_dint (desc_of b k) ≡ false → desc_of b k ≡ dref (ref_of b k)
      go zero e = flat (b == int_base) e
      go (suc k) e = refl

-- ---- which fits where, by bases and depths
module _ (P : Program) (b e : ℕ) where
  pub base_by : (r : Bool) → r ≡ cond (e == int_base) (b == int_base) (cond (b == int_base) false (below P b e)) → r ≡ desc_fits P (desc_of b 0) (desc_of e 0)
  unfolding desc_of desc_fits ref_fits
  base_by r h = h ∙ go (e == int_base) (b == int_base)
    where
      go : (t s : Bool) → cond t s (cond s false (below P b e)) ≡ desc_fits P (cond s dint (dref (cls b))) (cond t dint (dref (cls e)))
      go true true = refl
      go true false = refl
      go false true = refl
      go false false = refl

  level : (d : ℕ) → desc_fits P (desc_of b 0) (desc_of e 0) ≡ desc_fits P (desc_of b d) (desc_of e d)
  unfolding desc_of desc_fits ref_fits
  level zero = refl
  level (suc d) = level d

  deeper : (d x : ℕ) → x < d → (e == 0) ≡ desc_fits P (desc_of b d) (desc_of e x)
  unfolding desc_of desc_fits ref_fits
  deeper zero x h = absurd (omega arith)
  deeper (suc d) zero h = go (e == int_base) refl
    where
      go : (t : Bool) → (e == int_base) ≡ t → (e == 0) ≡ desc_fits P (dref (arr (desc_of b d))) (cond t dint (dref (cls e)))
      go true q = ne_eqb e 0 (λ z. omega (arith, eqb-true e int_base q))
      go false q = refl
  deeper (suc d) (suc x) h = deeper d x (omega arith)

  shallower : (d x : ℕ) → d < x → false ≡ desc_fits P (desc_of b d) (desc_of e x)
  unfolding desc_of desc_fits ref_fits
  shallower d zero h = absurd (omega arith)
  shallower zero (suc x) h = go (b == int_base)
    where
      go : (t : Bool) → false ≡ desc_fits P (cond t dint (dref (cls b))) (dref (arr (desc_of e x)))
      go true = refl
      go false = refl
  shallower (suc d) (suc x) h = shallower d x (omega arith)

  pub fits_deeper : (d x : ℕ) → x < d → (e == 0) ≡ ref_fits P (ref_of b d) (ref_of e x)
  unfolding ref_fits
  fits_deeper zero x h = absurd (omega arith)
  fits_deeper (suc d) zero h = refl
  fits_deeper (suc d) (suc x) h = deeper d x (omega arith)

  pub fits_shallower : (d x : ℕ) → d < x → false ≡ ref_fits P (ref_of b d) (ref_of e x)
  unfolding ref_fits
  fits_shallower d zero h = absurd (omega arith)
  fits_shallower zero (suc x) h = refl
  fits_shallower (suc d) (suc x) h = shallower d x (omega arith)

  pub fits_flat : (d x : ℕ) (r : Bool) → d ≡ 0 → x ≤ d → r ≡ below P b e → r ≡ ref_fits P (ref_of b d) (ref_of e x)
  unfolding ref_fits
  fits_flat zero zero r z h q = q
  fits_flat zero (suc x) r z h q = absurd (omega arith)
  fits_flat (suc d) x r z h q = absurd (omega arith)

  pub fits_level : (d x : ℕ) (r : Bool) → (d ≢ 0) → x ≤ d → d ≤ x → r ≡ desc_fits P (desc_of b 0) (desc_of e 0) → r ≡ ref_fits P (ref_of b d) (ref_of e x)
  unfolding ref_fits
  fits_level zero x r z h k q = absurd (z refl)
  fits_level (suc d) zero r z h k q = absurd (omega arith)
  fits_level (suc d) (suc x) r z h k q =
      let s : d ≡ x = omega arith in
      q ∙ level d ∙ ap (λ (n : ℕ). desc_fits P (desc_of b d) (desc_of e n)) s

-- ---- references: null, and by whether the object is ready
module _ (P : Program) (l : List ℕ) (n : ℕ) (u : Ref) (r : ℕ) where
  pub refers_null : r ≡ 0 → true ≡ refers_to P (heap l n) u (ref r)
  refers_null e = rw e

  refers_some : (r ≢ 0)
      → refers_to P (heap l n) u (ref r)
      ≡ cond (slice_index l (r - 1 + 3) == 1) (ref_fits P (ref_of (slice_index l (r - 1)) (slice_index l (r - 1 + 1))) u) false
  unfolding type_at
  refers_some h = go r h
    where
      go : (k : ℕ) → (k ≢ 0)
          → refers_to P (heap l n) u (ref k)
          ≡ cond (slice_index l (k - 1 + 3) == 1) (ref_fits P (ref_of (slice_index l (k - 1)) (slice_index l (k - 1 + 1))) u) false
      go zero m = absurd (m refl)
      go (suc k) m =
          let e : suc k - 1 ≡ k = omega arith in
          rw e

  pub refers_ready : (q t : Bool) (b d : ℕ) → (r ≢ 0) → t ≡ true → t ≡ (slice_index l (r - 1 + 3) == 1) → b ≡ slice_index l (r - 1) → d ≡ slice_index l (r - 1 + 1)
      → q ≡ ref_fits P (ref_of b d) u → q ≡ refers_to P (heap l n) u (ref r)
  refers_ready q t b d h e f x y p = rw (refers_some h, ← f, e, ← x, ← y) p

  pub refers_unready : (t : Bool) → (r ≢ 0) → t ≡ false → t ≡ (slice_index l (r - 1 + 3) == 1) → false ≡ refers_to P (heap l n) u (ref r)
  refers_unready t h e f = rw (refers_some h, ← f, e)

  pub refers_not : (t c : ℕ) → (t ≢ 2) → false ≡ refers_to P (heap l n) u (value_of t c)
  unfolding value_of
  refers_not t c h = rw (ne_eqb t 2 h) (go (t == 1))
    where
      go : (p : Bool) → false ≡ refers_to P (heap l n) u (cond p (num c) empty)
      go true = refl
      go false = refl

  pub refers_tag : (q : Bool) (t c : ℕ) → t ≡ 2 → q ≡ refers_to P (heap l n) u (ref c) → q ≡ refers_to P (heap l n) u (value_of t c)
  refers_tag q t c e p = rw (value_ref t c e) p

-- ---- values, by whether int is asked
int_value : (P : Program) (H : Heap) (D : Desc) (w : Val) → is_dint D ≡ true → is_num w ≡ value_fits P H D w
int_value P H dint w e = refl
int_value P H (dref r) w e = absurd (not_so e)

int-cell : (D : Desc) (a : ℕ) → is_dint D ≡ true → num a ≡ from_cell D a
int-cell dint a e = refl
int-cell (dref r) a e = absurd (not_so e)

module _ (b d : ℕ) (i : Bool) (ei : i ≡ is_dint (desc_of b d)) where
  pub fits-int : (P : Program) (H : Heap) (w : Val) (q : Bool) → i ≡ true → q ≡ is_num w → q ≡ value_fits P H (desc_of b d) w
  fits-int P H w q e p = p ∙ int_value P H (desc_of b d) w (sym ei ∙ e)

  pub fits_reference : (P : Program) (H : Heap) (w : Val) (q : Bool) → i ≡ false → q ≡ refers_to P H (ref_of b d) w → q ≡ value_fits P H (desc_of b d) w
  fits_reference P H w q e p = rw (desc_ref b d (sym ei ∙ e)) p

  pub from_int : (a : ℕ) (w : Val) → i ≡ true → w ≡ num a → w ≡ from_cell (desc_of b d) a
  from_int a w e p = p ∙ int-cell (desc_of b d) a (sym ei ∙ e)

  pub from_reference : (a : ℕ) (w : Val) → i ≡ false → w ≡ ref a → w ≡ from_cell (desc_of b d) a
  from_reference a w e p = rw (desc_ref b d (sym ei ∙ e)) p

-- how much is used does not matter to what a value refers to
refers_used : (P : Program) (l : List ℕ) (n m : ℕ) (u : Ref) (w : Val) → refers_to P (heap l n) u w ≡ refers_to P (heap l m) u w
unfolding type_at
refers_used P l n m u empty = refl
refers_used P l n m u (num a) = refl
refers_used P l n m u (ref zero) = refl
refers_used P l n m u (ref (suc a)) = refl

pub fits-used : (P : Program) (l : List ℕ) (n m : ℕ) (D : Desc) (w : Val) → value_fits P (heap l n) D w ≡ value_fits P (heap l m) D w
fits-used P l n m dint w = refl
fits-used P l n m (dref u) w = refers_used P l n m u w

-- ---- a program whose parents stand in the table
module _ (P : Program) (t : List ℕ) (x n : ℕ) (h : Parents P t x n) where
  pub refs_lineage : (r u : Ref) → ref_fits (lineage t x n) r u ≡ ref_fits P r u
  unfolding fits
  refs_lineage r u = fits-lineage P t x n h (ini r) (ini u)

  refers_lineage : (H : Heap) (u : Ref) (w : Val) → refers_to (lineage t x n) H u w ≡ refers_to P H u w
  refers_lineage H u empty = refl
  refers_lineage H u (num a) = refl
  refers_lineage H u (ref zero) = refl
  refers_lineage H u (ref (suc a)) = rw (refs_lineage (type_at H a) u)

  pub values_lineage : (H : Heap) (D : Desc) (w : Val) → value_fits (lineage t x n) H D w ≡ value_fits P H D w
  values_lineage H dint w = refl
  values_lineage H (dref u) w = refers_lineage H u w

pub ruleset tags = (value_empty, value_num, value_ref, num_tag, ref_tag, cell-num, cell-ref, cell_else)

pub ruleset writings = (array-of, named_array, named-class, described_int, described_array, described_class, int-deep, int_flat, element-of)

pub ruleset levels = (fits_deeper, fits_shallower, fits_flat, fits_level)

pub ruleset references = (refers_null, refers_ready, refers_unready, refers_not, refers_tag)

pub ruleset values = (fits-int, fits_reference, from_int, from_reference)
