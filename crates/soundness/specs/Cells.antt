-- The heap's cells: what a store and an allocation leave and change; a header read back as the type that it was made from.
use Rattle.std.specs.Prelude.{ℕ, zero, suc, ◌+◌, ◌-◌, ◌<◌, ◌≤◌, ◌≡◌, List, ◌++◌, take, drop, replicate, T, eqb}
use Rattle.std.proofs.Math.Path.{refl, ap}
use Rattle.std.proofs.Common.{sym, ◌∙◌, length-take-le, eqb→eq, ltb→lt}
use native.Mathlib.Omega.{arith}
use Rattle.std.proofs.Math.ListN.{length, get_or, length-append, length-drop, length-set, get_or-append}
use Rattle.std.proofs.lemmas.List.{length-replicate, get_or-replicate}
use Rattle.std.proofs.Math.Seq.{get_or-append-add, get_or-set_same, get_or-set_other, get_or-take}
use Rattle.kit.specs.Bools.{T_false}
use Rattle.classfiles.specs.Descriptors.{Ref, cls, arr, Desc, dint, dref, known_ref, known_desc, dimensions, depth_of}
use Rattle.plain.specs.Heap.{Heap, cell, int_base, desc_of, ref_of, base_of, element_base, type_at, size_at, ready_at, element_at, store, need, header, allocate}

-- ---- a store
module _ (H : Heap) (i v : ℕ) where
  pub stored : i < length H.cells → cell (store H i v) i ≡ v
  unfolding store
  stored h = get_or-set_same H.cells i v 0 h

  pub unstored : (k : ℕ) → (k ≡ i → ⊥) → cell (store H i v) k ≡ cell H k
  unfolding store
  unstored k n = get_or-set_other H.cells i k v 0 n

  pub store-used : (store H i v).used ≡ H.used
  unfolding store
  store-used = refl

  pub store_cells : length (store H i v).cells ≡ length H.cells
  unfolding store
  store_cells = length-set H.cells i v

-- ---- an allocation with room
module _ (H : Heap) (r : Ref) (n b : ℕ) (h : H.used + need n ≤ length H.cells) where
  abbrev front : List ℕ
  front = take H.used H.cells

  abbrev block : List ℕ
  block = header r n b ++ replicate n 0

  abbrev back : List ℕ
  back = drop (H.used + need n) H.cells

  front_length : length (take H.used H.cells) ≡ H.used
  front_length = length-take-le H.used H.cells (omega arith)

  block-length : length (header r n b ++ replicate n 0) ≡ 4 + n
  block-length = length-append (header r n b) (replicate n 0) ∙ omega (arith, length-replicate {A = ℕ} n 0)

  pub alloc_used : (allocate H r n b).used ≡ H.used + need n
  unfolding allocate
  alloc_used = refl

  pub alloc_cells : length (allocate H r n b).cells ≡ length H.cells
  unfolding allocate
  alloc_cells =
      let x : length (front ++ (block ++ back)) ≡ length front + length (block ++ back) = length-append front (block ++ back) in
      let y : length (block ++ back) ≡ length block + length back = length-append block back in
      let z : length back ≡ length H.cells - (H.used + need n) = length-drop (H.used + need n) H.cells in
      omega (arith, front_length, block-length)

  -- what was there stays
  pub alloc_old : (k : ℕ) → k < H.used → cell (allocate H r n b) k ≡ cell H k
  unfolding allocate
  alloc_old k l = get_or-append front (block ++ back) 0 k (omega (arith, front_length)) ∙ get_or-take H.used H.cells k 0 l

  in_block : (k : ℕ) → k < 4 + n → cell (allocate H r n b) (H.used + k) ≡ get_or (header r n b ++ replicate n 0) k 0
  unfolding allocate
  in_block k l =
      ap (λ (u : ℕ). get_or (front ++ (block ++ back)) (u + k) 0) (sym front_length)
      ∙ get_or-append-add front (block ++ back) k 0 ∙ get_or-append block back 0 k (omega (arith, block-length))

  pub alloc_base : cell (allocate H r n b) H.used ≡ base_of r
  alloc_base = let e : H.used ≡ H.used + 0 = omega arith in ap (λ (k : ℕ). cell (allocate H r n b) k) e ∙ in_block 0 (omega arith)

  pub alloc_depth : cell (allocate H r n b) (H.used + 1) ≡ dimensions r
  alloc_depth = in_block 1 (omega arith)

  pub alloc_size : size_at (allocate H r n b) H.used ≡ n
  alloc_size = in_block 2 (omega arith)

  pub alloc_ready : cell (allocate H r n b) (H.used + 3) ≡ b
  alloc_ready = in_block 3 (omega arith)

  -- new cells are zero
  pub alloc_new : (j : ℕ) → j < n → cell (allocate H r n b) (element_at H.used j) ≡ 0
  alloc_new j l =
      let e : element_at H.used j ≡ H.used + (4 + j) = omega arith in
      ap (λ (k : ℕ). cell (allocate H r n b) k) e ∙ in_block (4 + j) (omega arith)
      ∙ get_or-append-add (header r n b) (replicate n 0) j 0 ∙ get_or-replicate n j 0 0 l

  pub alloc_type : ref_of (base_of r) (dimensions r) ≡ r → type_at (allocate H r n b) H.used ≡ r
  unfolding type_at
  alloc_type e = rw (alloc_base, alloc_depth) e

-- ---- headers
module _ (n : ℕ) (few : n < int_base) where
  mutual
    unfolding desc_of base_of element_base dimensions depth_of known_ref known_desc

    element_again : (r : Ref) → T (known_ref n r) → desc_of (base_of r) (dimensions r) ≡ dref r
    element_again (cls c) h =
        let l : c < n = ltb→lt c n h in
        rw (T_false (eqb c int_base) (λ t. let e : c ≡ int_base = eqb→eq c int_base t in omega arith)) refl
    element_again (arr d) h = ap (λ (e : Desc). dref (arr e)) (desc_again d h)

    desc_again : (d : Desc) → T (known_desc n d) → desc_of (element_base d) (depth_of d) ≡ d
    desc_again dint h = refl
    desc_again (dref r) h = element_again r h

  pub array_again : (d : Desc) → T (known_desc n d) → ref_of (base_of (arr d)) (dimensions (arr d)) ≡ arr d
  unfolding base_of dimensions
  array_again d h = ap arr (desc_again d h)

pub class_again : (c : ℕ) → ref_of (base_of (cls c)) (dimensions (cls c)) ≡ cls c
unfolding base_of dimensions
class_again c = refl

-- an object's class is its first cell
pub class-cell : (H : Heap) (a c : ℕ) → type_at H a ≡ cls c → cell H a ≡ c
unfolding type_at
class-cell H a c e = go (cell H (a + 1)) e
  where
    go : (d : ℕ) → ref_of (cell H a) d ≡ cls c → cell H a ≡ c
    go zero e = cc
    go (suc d) e = let z : ◌≡◌ {A = ℕ} 0 1 = cc in absurd (omega arith)

-- ---- the block of n elements at a is the same in both heaps
pub record Same (H H' : Heap) (a n : ℕ) : Type 0 where
  pub kept : (k : ℕ) → k < 4 + n → cell H' (a + k) ≡ cell H (a + k)

module _ {H H' : Heap} {a n : ℕ} (s : Same H H' a n) where
  pub same_type : type_at H' a ≡ type_at H a
  unfolding type_at
  same_type =
      let e : a + 0 ≡ a = omega arith in
      let x : cell H' a ≡ cell H a = rw e at (s.kept 0 (omega arith)) in
      rw (x, s.kept 1 (omega arith)) refl

  pub same_size : size_at H' a ≡ size_at H a
  same_size = s.kept 2 (omega arith)

  pub same_ready : ready_at H' a ≡ ready_at H a
  same_ready = ap (λ (v : ℕ). eqb v 1) (s.kept 3 (omega arith))

  pub same_element : (j : ℕ) → j < n → cell H' (element_at a j) ≡ cell H (element_at a j)
  same_element j l =
      let e : a + (4 + j) ≡ element_at a j = omega arith in
      rw e at (s.kept (4 + j) (omega arith))
