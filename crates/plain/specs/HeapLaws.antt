-- The heap in cells: what the code's stores leave, and types by their two numbers. Assumes nothing.
use Rattle.std.specs.Prelude.{◌≡◌, ℕ, zero, suc, ◌+◌, ◌-◌, ◌<◌, ◌≤◌, Bool, true, false, cond, List, [], ◌∷◌, ◌++◌, length, take, drop, replicate, ◌==◌, slice_index, slice_set}
use Rattle.std.proofs.Common.{sym, ap, ◌∙◌, append_assoc, add-zero, add_assoc, arith, eqb-true, leb-true, length-append, length-drop, take-append-drop, length-take-le, take-take, drop_at, drop-drop, refl}
use Rattle.std.proofs.lemmas.List.{length-replicate, take-append-le}
use Rattle.std.proofs.lemmas.List.Edits.{sets-eq}
use borrow.Rule.Slice.PartMut.{put_mid}
use Rattle.kit.specs.Lists.{length_part, set_append_right, fill_step}
use Rattle.classfiles.specs.Descriptors.{cls, dint, dref, dimensions, depth_of}
use Rattle.plain.specs.Heap.{heap, int_base, desc_of, ref_of, base_of, element_base, type_at, store, mark_ready, allocate, has_room}

-- n cells from a on made zero
unfoldable pub cleared : List ℕ → ℕ → ℕ → List ℕ
cleared l a n = take a l ++ (replicate n 0 ++ drop (a + n) l)

-- a loop that clears: before the first cell, and one more
pub clear_none : (l : List ℕ) (a : ℕ) → l ≡ cleared l a 0
unfolding cleared
clear_none l a = rw (add-zero a) (sym (take-append-drop a l))

pub clear_more : (l t : List ℕ) (a k : ℕ) → a + k < length l → t ≡ cleared l a k → slice_set t (a + k) 0 ≡ cleared l a (k + 1)
unfolding cleared
clear_more l t a k h q =
    let i : a + k - length (take a l) ≡ k = omega (arith, length-take-le a l (omega arith)) in
    rw q
    (set_append_right (take a l) (replicate k 0 ++ drop (a + k) l) (a + k) 0 (omega (arith, length-take-le a l (omega arith)))
    ∙ ap (λ (x : List ℕ). take a l ++ x)
    (rw (i, ← drop-drop k a l) (fill_step (drop a l) k 0 (omega (arith, length-drop a l)) ∙ rw (drop-drop (k + 1) a l))))

-- as `fill` leaves a part
pub clear_part : (l m : List ℕ) (a n k : ℕ) → a + n ≤ length l → k ≡ n → m ≡ replicate (length (take k (drop a l))) 0 → put_mid a k l m ≡ cleared l a n
unfolding cleared
clear_part l m a n k h e p =
    let z : length (take k (drop a l)) ≡ n = rw e (length_part a n l h) in
    rw (p, z, e, drop-drop n a l)

pub length-cleared : (l : List ℕ) (a n : ℕ) → a + n ≤ length l → length (cleared l a n) ≡ length l
unfolding cleared
length-cleared l a n h =
    let p : length (take a l) ≡ a = length-take-le a l (omega arith) in
    simp (length-append, length-replicate, length-drop, p) (omega arith)

-- four stores in a row
pub header_put : (l : List ℕ) (a b d n r : ℕ) → a + 4 ≤ length l
    → slice_set (slice_set (slice_set (slice_set l a b) (a + 1) d) (a + 2) n) (a + 3) r ≡ take a l ++ ((b ∷ d ∷ n ∷ r ∷ []) ++ drop (a + 4) l)
header_put l a b d n r h =
    let e1 : a + 1 ≡ suc a = omega arith in
    let e2 : a + 2 ≡ suc (suc a) = omega arith in
    let e3 : a + 3 ≡ suc (suc (suc a)) = omega arith in
    rw (e1, e2, e3) (sets-eq (b ∷ d ∷ n ∷ r ∷ []) l a h ∙ append_assoc (take a l) (b ∷ d ∷ n ∷ r ∷ []) (drop (a + 4) l))

-- ---- types by base and depth
base_desc : (b d : ℕ) → element_base (desc_of b d) ≡ b
unfolding desc_of element_base base_of
base_desc b zero = go (b == int_base) refl
  where
    go : (t : Bool) → (b == int_base) ≡ t → element_base (cond t dint (dref (cls b))) ≡ b
    go true e = sym (eqb-true b int_base e)
    go false e = refl
base_desc b (suc d) = base_desc b d

depth_desc : (b d : ℕ) → depth_of (desc_of b d) ≡ d
unfolding desc_of depth_of dimensions
depth_desc b zero = go (b == int_base)
  where
    go : (t : Bool) → depth_of (cond t dint (dref (cls b))) ≡ 0
    go true = refl
    go false = refl
depth_desc b (suc d) = ap suc (depth_desc b d)

pub base_ref : (b d : ℕ) → base_of (ref_of b d) ≡ b
unfolding base_of
base_ref b zero = refl
base_ref b (suc d) = base_desc b d

pub depth_ref : (b d : ℕ) → dimensions (ref_of b d) ≡ d
unfolding dimensions
depth_ref b zero = refl
depth_ref b (suc d) = ap suc (depth_desc b d)

pub room_in : (l : List ℕ) (u n : ℕ) → has_room (heap l u) n ≡ true → u + (4 + n) ≤ length l
unfolding has_room
room_in l u n h = leb-true (u + (4 + n)) (length l) h

-- what the code leaves is what the definition allocates
pub allocated : (l t s : List ℕ) (u b d n r k : ℕ) → has_room (heap l u) n ≡ true → t ≡ cleared l (u + 4) n
    → s ≡ take u t ++ ((b ∷ d ∷ n ∷ r ∷ []) ++ drop (u + 4) t) → k ≡ u + (4 + n) → heap s k ≡ allocate (heap l u) (ref_of b d) n r
unfolding cleared allocate
allocated l t s u b d n r k h p q e =
    let room : u + (4 + n) ≤ length l = room_in l u n h in
    let m : length (take (u + 4) l) ≡ u + 4 = length-take-le (u + 4) l (omega arith) in
    let x : take u t ≡ take u l =
    ap (take u) p ∙ take-append-le u (take (u + 4) l) (replicate n 0 ++ drop (u + 4 + n) l) (omega arith) ∙ take-take u (u + 4) l (omega arith) in
    let y : drop (u + 4) t ≡ replicate n 0 ++ drop (u + 4 + n) l =
    ap (drop (u + 4)) p ∙ drop_at (take (u + 4) l) (replicate n 0 ++ drop (u + 4 + n) l) (u + 4) m in
    rw (q, e, x, y, base_ref b d, depth_ref b d, add_assoc u 4 n)

-- ---- what the store of one cell is to the heap
module _ (l : List ℕ) (u i v : ℕ) where
  pub stored : heap (slice_set l i v) u ≡ store (heap l u) i v
  unfolding store
  stored = refl

pub marked : (l : List ℕ) (u a : ℕ) → heap (slice_set l (a + 3) 1) u ≡ mark_ready (heap l u) a
unfolding mark_ready store
marked l u a = refl

pub typed : (l : List ℕ) (u a b d : ℕ) → b ≡ slice_index l a → d ≡ slice_index l (a + 1) → ref_of b d ≡ type_at (heap l u) a
unfolding type_at
typed l u a b d p q = cc
