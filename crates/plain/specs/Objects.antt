-- What instructions ask of the objects that values refer to, as tests: the definitions of Machine and Step that hand on an object, read as
-- a test and what follows it, in the code's order. Assumes nothing.
use Rattle.std.specs.Prelude.{◌≡◌, ℕ, zero, suc, ◌+◌, ◌-◌, Bool, true, false, cond, not, List, ◌==◌, ◌≢◌, nat_eq, nat_lt, slice_index, refl}
use Rattle.std.proofs.Common.{sym, ◌∙◌, arith, ne_eqb, lt-ltb, ap}
use Rattle.reader.specs.BuiltIns.{null_pointer}
use Rattle.classfiles.specs.Descriptors.{Ref, cls, Desc, dref}
use Rattle.reader.specs.Program.{Program}
use Rattle.rules.specs.Types.{ref_fits}
use Rattle.rules.specs.Ancestry.{lineage, Parents}
use Rattle.plain.specs.Heap.{Heap, heap, Val, empty, num, ref, desc_of, ref_of, type_at, ready_at, to_cell, value_fits}
use Rattle.plain.specs.Machine.{Result, Here, only, with_object, with_class, with_element, receiver, fault}
use Rattle.plain.specs.Step.{with_unready, self_ready}
use Rattle.plain.specs.ValueLaws.{value_of, value_ref, refs_lineage, values_lineage, fits-used}

-- null, or a ready object
abbrev pub usable : Heap → Val → Bool
usable H empty = false
usable H (num a) = false
usable H (ref zero) = true
usable H (ref (suc a)) = ready_at H a

-- an unready object of a type that fits u
abbrev pub unmade : Program → Heap → Ref → Val → Bool
unmade P H u empty = false
unmade P H u (num a) = false
unmade P H u (ref zero) = false
unmade P H u (ref (suc a)) = cond (ready_at H a) false (ref_fits P (type_at H a) u)

-- null goes one way, an object the other
abbrev pub null_or : Val → Result → (ℕ → Result) → Result
null_or v n k = cond (to_cell v == 0) n (k (to_cell v - 1))

module _ (H : Heap) (n : Result) (k : ℕ → Result) where
  some_object : (a : ℕ) → null_or (ref (suc a)) n k ≡ k a
  some_object a =
      let e : suc a - 1 ≡ a = omega arith in
      let z : nat_eq (suc a) 0 ≡ false = ne_eqb (suc a) 0 (λ q. omega arith) in
      rw (z, e)

  pub object_by : (v : Val) → with_object H v n k ≡ only (usable H v) (null_or v n k)
  object_by empty = refl
  object_by (num a) = refl
  object_by (ref zero) = refl
  object_by (ref (suc a)) = rw (some_object a)

  -- a test that null passes, and of a ready object alone
  twice : (P : Program) (u : Ref) (a : ℕ) → only (ready_at H a) (only (value_fits P H (dref u) (ref (suc a))) (k a)) ≡ only (value_fits P H (dref u) (ref (suc a))) (k a)
  twice P u a = go (ready_at H a)
    where
      go : (t : Bool) → only t (only (cond t (ref_fits P (type_at H a) u) false) (k a)) ≡ only (cond t (ref_fits P (type_at H a) u) false) (k a)
      go true = refl
      go false = refl

  pub fitting_by : (P : Program) (u : Ref) (v : Val)
      → with_object H v n (λ a. only (value_fits P H (dref u) v) (k a)) ≡ only (value_fits P H (dref u) v) (null_or v n k)
  fitting_by P u empty = refl
  fitting_by P u (num a) = refl
  fitting_by P u (ref zero) = refl
  fitting_by P u (ref (suc a)) = twice P u a ∙ ap (only (value_fits P H (dref u) (ref (suc a)))) (sym (some_object a))

pub receiver_by : (P : Program) (x : Here) (u : Ref) (v : Val) (k : ℕ → Result)
    → receiver P x u v k ≡ only (value_fits P x.heap (dref u) v) (null_or v (fault P x null_pointer) k)
unfolding receiver
receiver_by P x u v k = fitting_by x.heap (fault P x null_pointer) k P u v

pub unready_by : (P : Program) (H : Heap) (c : ℕ) (v : Val) (k : ℕ → Result)
    → with_unready P H c v k ≡ only (unmade P H (cls c) v) (k (to_cell v - 1))
unready_by P H c empty k = refl
unready_by P H c (num a) k = refl
unready_by P H c (ref zero) k = refl
unready_by P H c (ref (suc a)) k =
    let e : suc a - 1 ≡ a = omega arith in
    rw e (go (ready_at H a))
  where
    go : (t : Bool) → only (not t) (only (ref_fits P (type_at H a) (cls c)) (k a)) ≡ only (cond t false (ref_fits P (type_at H a) (cls c))) (k a)
    go true = refl
    go false = refl

-- ---- a type by its two numbers
module _ (b d : ℕ) where
  pub class_by : (k : ℕ → Result) → with_class (ref_of b d) k ≡ only (d == 0) (k b)
  class_by k = go d
    where
      go : (n : ℕ) → with_class (ref_of b n) k ≡ only (n == 0) (k b)
      go zero = refl
      go (suc n) = rw (ne_eqb (suc n) 0 (λ q. omega arith))

  pub element_by : (k : Desc → Result) → with_element (ref_of b d) k ≡ only (nat_lt 0 d) (k (desc_of b (d - 1)))
  element_by k = go d
    where
      go : (n : ℕ) → with_element (ref_of b n) k ≡ only (nat_lt 0 n) (k (desc_of b (n - 1)))
      go zero = refl
      go (suc n) =
          let e : suc n - 1 ≡ n = omega arith in
          rw (lt-ltb 0 (suc n) (omega arith), e)

-- ---- the code's tests, in its order, on a value's tag t and cell c
not_ref : (f : Val → Bool) (t c : ℕ) → (t ≢ 2) → false ≡ f empty → false ≡ f (num c) → false ≡ f (value_of t c)
unfolding value_of
not_ref f t c h p q = rw (ne_eqb t 2 h) (go (t == 1))
  where
    go : (b : Bool) → false ≡ f (cond b (num c) empty)
    go true = q
    go false = p

some_ref : (c : ℕ) → (c ≢ 0) → suc (c - 1) ≡ c
some_ref c h = omega arith

module _ (l : List ℕ) (n t c : ℕ) where
  pub not_usable : (t ≢ 2) → false ≡ usable (heap l n) (value_of t c)
  not_usable h = not_ref (usable (heap l n)) t c h refl refl

  pub null-usable : t ≡ 2 → c ≡ 0 → true ≡ usable (heap l n) (value_of t c)
  null-usable e z = rw (value_ref t c e, z)

  pub some_usable : (r : Bool) → t ≡ 2 → (c ≢ 0) → r ≡ (slice_index l (c - 1 + 3) == 1) → r ≡ usable (heap l n) (value_of t c)
  some_usable r e h p = p ∙ ap (λ (x : ℕ). usable (heap l n) (ref x)) (some_ref c h) ∙ ap (usable (heap l n)) (sym (value_ref t c e))

  module _ (P : Program) (u : Ref) where
    pub not_unmade : (t ≢ 2) → false ≡ unmade P (heap l n) u (value_of t c)
    not_unmade h = not_ref (unmade P (heap l n) u) t c h refl refl

    pub null-unmade : t ≡ 2 → c ≡ 0 → false ≡ unmade P (heap l n) u (value_of t c)
    null-unmade e z = rw (value_ref t c e, z)

    tested : t ≡ 2 → (c ≢ 0)
        → cond (slice_index l (c - 1 + 3) == 1) false (ref_fits P (ref_of (slice_index l (c - 1)) (slice_index l (c - 1 + 1))) u) ≡ unmade P (heap l n) u (value_of t c)
    unfolding type_at
    tested e h =
        ap (λ (x : ℕ). unmade P (heap l n) u (ref x)) (some_ref c h) ∙ ap (unmade P (heap l n) u) (sym (value_ref t c e))

    pub made-unmade : (q : Bool) → t ≡ 2 → (c ≢ 0) → q ≡ true → q ≡ (slice_index l (c - 1 + 3) == 1) → false ≡ unmade P (heap l n) u (value_of t c)
    made-unmade q e h z p = rw (← tested e h, ← p, z)

    pub some_unmade : (r q : Bool) (b d : ℕ) → t ≡ 2 → (c ≢ 0) → q ≡ false → q ≡ (slice_index l (c - 1 + 3) == 1) → b ≡ slice_index l (c - 1)
        → d ≡ slice_index l (c - 1 + 1) → r ≡ ref_fits P (ref_of b d) u → r ≡ unmade P (heap l n) u (value_of t c)
    some_unmade r q b d e h z p x y k = rw (← tested e h, ← p, z, ← x, ← y) k

pub self_null : (l : List ℕ) (n q : ℕ) → q ≡ 0 → true ≡ self_ready (heap l n) q
self_null l n q e = rw e

pub self_some : (l : List ℕ) (n q : ℕ) (r : Bool) → (q ≢ 0) → r ≡ (slice_index l (q - 1 + 3) == 1) → r ≡ self_ready (heap l n) q
self_some l n q r h p = p ∙ ap (self_ready (heap l n)) (some_ref q h)

pub ruleset objects = (not_usable, null-usable, some_usable, not_unmade, null-unmade, made-unmade, some_unmade, self_null, self_some)

-- ---- what the code's answers, over the table of parents and the cells alone, say of the program and the heap
module _ (l : List ℕ) (n : ℕ) (q : Bool) where
  pub usable_here : (w : Val) → q ≡ usable (heap l 0) w → q ≡ usable (heap l n) w
  usable_here empty p = p
  usable_here (num a) p = p
  usable_here (ref zero) p = p
  usable_here (ref (suc a)) p = p

  pub self_here : (i : ℕ) → q ≡ self_ready (heap l 0) i → q ≡ self_ready (heap l n) i
  self_here zero p = p
  self_here (suc a) p = p

  module _ (P : Program) (t : List ℕ) (x m : ℕ) (h : Parents P t x m) where
    pub type_here : (r u : Ref) → q ≡ ref_fits (lineage t x m) r u → q ≡ ref_fits P r u
    type_here r u p = p ∙ refs_lineage P t x m h r u

    pub fits_here : (D : Desc) (w : Val) → q ≡ value_fits (lineage t x m) (heap l 0) D w → q ≡ value_fits P (heap l n) D w
    fits_here D w p = p ∙ values_lineage P t x m h (heap l 0) D w ∙ fits-used P l 0 n D w

    pub unmade_here : (u : Ref) (w : Val) → q ≡ unmade (lineage t x m) (heap l 0) u w → q ≡ unmade P (heap l n) u w
    unfolding type_at
    unmade_here u empty p = p
    unmade_here u (num a) p = p
    unmade_here u (ref zero) p = p
    unmade_here u (ref (suc a)) p =
        p ∙ ap (λ (b : Bool). cond (ready_at (heap l 0) a) false b) (refs_lineage P t x m h (type_at (heap l 0) a) u)
