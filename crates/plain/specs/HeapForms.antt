-- The forms that read or write the heap, by the code's tests on operands and headers. Assumes nothing.
use Rattle.std.specs.Prelude.{Result as Answer, Ok, Err, IsErrAnd, OnOk, ◌≡◌, ℕ, zero, suc, ◌+◌, ◌-◌, ◌<◌, ◌≤◌, Bool, true, false, cond, not, List, [], ◌∷◌, length, ◌==◌, ◌≢◌, nat_eq, nat_le, nat_lt, slice_index, slice_index_or}
use Rattle.std.proofs.Common.{subst, ◌∙◌, le-leb, lt-ltb, le-ltb, ne_eqb, refl, sym, ap, arith}
use Rattle.std.specs.Int.{from_bool}
use Rattle.std.specs.Bool.{beq}
use Rattle.reader.specs.BuiltIns.{object, array_store, class_cast, array_index, negative_size, null_pointer}
use Rattle.classfiles.specs.Descriptors.{Ref, cls, arr, Desc, dref}
use Rattle.reader.specs.Program.{Program, layout}
use Rattle.rules.specs.Instruction.{FieldRef, arraylength, iaload, aaload, iastore, aastore, getfield, putfield, new, newarray, checkcast, instanceof, ifacmp, ifnull}
use Rattle.rules.specs.Types.{is_dint, ref_fits}
use Rattle.rules.specs.Ancestry.{lineage, Parents}
use Rattle.plain.specs.Integers.{negative}
use Rattle.plain.specs.Heap.{Heap, heap, Val, empty, num, ref, cell, type_at, ready_at, element_at, desc_of, ref_of, store, to_cell, from_cell, is_num, value_fits}
use Rattle.plain.specs.Machine.{stuck, Result, stopped, Here, only, pop_any, pop_int, with_int, with_object, with_element, push, push_on, branch, fault, receiver}
use Rattle.plain.specs.Step.{object_desc, truth, element, load, make_array, make, get_field, put_field, execute}
use Rattle.plain.specs.Objects.{usable, receiver_by, element_by, object_by, fits_here, type_here, usable_here}
use Rattle.plain.specs.Windows.{Turn, val_at, ops_of, Stands, length_ops, pushing, choosing, either, faulting}
use Rattle.plain.specs.WindowForms.{doing, any_by}
use Rattle.plain.specs.HeapTurns.{Steps, As, guarded, writing, making, guard_not, guard_so, if_zero, if_some, either_yes, either_no, steps_fault, likewise}
use Rattle.plain.specs.Turns.{untrue, holds_so}
use Rattle.plain.specs.declared.window.Place.{Place}
use Rattle.plain.specs.declared.window.Halt.{Halt}
use Rattle.plain.specs.declared.window.Halt.TheVariants.{Fault, Stuck}

-- ---- several operands
stop : (b : Bool) → only b (stopped stuck) ≡ stopped stuck
stop true = refl
stop false = refl

module _ (w g : List ℕ) where
  pub pop2 : (n : ℕ) (T : Val → Bool) (f : Val → Val → List Val → Result)
      → pop_any (ops_of w g n) (λ v r. only (T v) (pop_any r λ u q. f v u q)) ≡ only (nat_le 2 n) (only (T (val_at w g (31 + n))) (f (val_at w g (31 + n)) (val_at w g (30 + n)) (ops_of w g (n - 2))))
  unfolding ops_of
  pop2 zero T f = refl
  pop2 (suc zero) T f = stop (T (val_at w g 32))
  pop2 (suc (suc n)) T f =
      let e : 31 + suc (suc n) ≡ 32 + suc n = omega arith in
      let e2 : 30 + suc (suc n) ≡ 32 + n = omega arith in
      let d : suc (suc n) - 2 ≡ n = omega arith in
      rw (le-leb 2 (suc (suc n)) (omega arith), e, e2, d)

  pub pop3 : (n : ℕ) (T : Val → Bool) (U : Val → Bool) (f : Val → Val → Val → List Val → Result)
      → pop_any (ops_of w g n) (λ v r. only (T v) (pop_any r λ u q. only (U u) (pop_any q λ y z. f v u y z)))
      ≡ only (nat_le 3 n) (only (T (val_at w g (31 + n))) (only (U (val_at w g (30 + n))) (f (val_at w g (31 + n)) (val_at w g (30 + n)) (val_at w g (29 + n)) (ops_of w g (n - 3)))))
  unfolding ops_of
  pop3 zero T U f = refl
  pop3 (suc zero) T U f = stop (T (val_at w g 32))
  pop3 (suc (suc zero)) T U f = ap (only (T (val_at w g 33))) (stop (U (val_at w g 32))) ∙ stop (T (val_at w g 33))
  pop3 (suc (suc (suc n))) T U f =
      let e : 31 + suc (suc (suc n)) ≡ 32 + suc (suc n) = omega arith in
      let e2 : 30 + suc (suc (suc n)) ≡ 32 + suc n = omega arith in
      let e3 : 29 + suc (suc (suc n)) ≡ 32 + n = omega arith in
      let d : suc (suc (suc n)) - 3 ≡ n = omega arith in
      rw (le-leb 3 (suc (suc (suc n))) (omega arith), e, e2, e3, d)

-- an int, by its kind
int_as : (v : Val) (f : ℕ → Result) → with_int v f ≡ only (is_num v) (f (to_cell v))
int_as empty f = refl
int_as (num a) f = refl
int_as (ref r) f = refl

pub int-pop : (vs : List Val) (f : ℕ → List Val → Result) → pop_int vs f ≡ pop_any vs (λ v r. only (is_num v) (f (to_cell v) r))
int-pop [] f = refl
int-pop (v ∷ vs) f = int_as v (λ a. f a vs)

pub pop_same : (vs : List Val) (f h : Val → List Val → Result) → ((v : Val) (r : List Val) → f v r ≡ h v r) → pop_any vs f ≡ pop_any vs h
pop_same [] f h e = refl
pop_same (v ∷ vs) f h e = e v vs

-- ---- what is asked of a receiver, and of an array and an index
abbrev pub fit : Program → List ℕ → Desc → Val → Bool
fit L cells D v = value_fits L (heap cells 0) D v

unfoldable pub reaching : Program → List ℕ → Ref → Val → (Program → Here → Result) → Program → Here → Result
reaching L cells u v rest = guarded (fit L cells (dref u) v) (either (to_cell v == 0) (faulting null_pointer) rest)

abbrev pub head_of : Val → ℕ
head_of v = to_cell v - 1

-- base, depth and size of what a value refers to
abbrev pub base_in : List ℕ → Val → ℕ
base_in cells v = slice_index cells (head_of v)

abbrev pub depth_in : List ℕ → Val → ℕ
depth_in cells v = slice_index cells (head_of v + 1)

abbrev pub size_in : List ℕ → Val → ℕ
size_in cells v = slice_index cells (head_of v + 2)

abbrev pub element_of : List ℕ → Val → Desc
element_of cells v = desc_of (base_in cells v) (depth_in cells v - 1)

-- an array
unfoldable pub arraying : Program → List ℕ → Val → (Program → Here → Result) → Program → Here → Result
arraying L cells v rest = reaching L cells (cls object) v (guarded (nat_lt 0 (depth_in cells v)) rest)

-- every array is an Object, so that one is found without a look at parents
abbrev ready-array : List ℕ → Val → (Program → Here → Result) → Program → Here → Result
ready-array cells v rest = guarded (usable (heap cells 0) v) (either (to_cell v == 0) (faulting null_pointer) (guarded (nat_lt 0 (depth_in cells v)) rest))

array_by : (L : Program) (cells : List ℕ) (v : Val) (rest : Program → Here → Result) (P : Program) (x : Here) → arraying L cells v rest P x ≡ ready-array cells v rest P x
unfolding arraying reaching guarded either faulting type_at ref_fits
array_by L cells empty rest P x = refl
array_by L cells (num a) rest P x = refl
array_by L cells (ref zero) rest P x = refl
array_by L cells (ref (suc a)) rest P x =
    let e : suc a - 1 ≡ a = omega arith in
    let z : nat_eq (suc a) 0 ≡ false = ne_eqb (suc a) 0 (λ q. omega arith) in
    rw (z, e) (go (ready_at (heap cells 0) a) (slice_index cells a) (slice_index cells (a + 1)))
  where
    go : (t : Bool) (b d : ℕ) → only (cond t (ref_fits L (ref_of b d) (cls object)) false) (only (nat_lt 0 d) (rest P x)) ≡ only t (only (nat_lt 0 d) (rest P x))
    go true b zero = stop (ref_fits L (cls b) (cls object))
    go true b (suc d) = refl
    go false b d = refl

unfoldable pub indexing : Program → List ℕ → Bool → Val → ℕ → (Program → Here → Result) → Program → Here → Result
indexing L cells ints v i rest =
    arraying L cells v (guarded (beq ints (is_dint (element_of cells v))) (either (nat_lt i (size_in cells v)) rest (faulting array_index)))

module _ (t : List ℕ) (a m : ℕ) (c : Place) (w g cells : List ℕ) (P : Program) (x : Here) (p : Parents P t a m) (s : Stands P x c w g cells) where
  fits_now : (D : Desc) (v : Val) → value_fits P x.heap D v ≡ value_fits (lineage t a m) (heap cells 0) D v
  fits_now D v = rw s.heap (sym (fits_here cells c.used (value_fits (lineage t a m) (heap cells 0) D v) P t a m p D v refl))

  pub reach_now : (u : Ref) (v : Val) (k : ℕ → Result) (rest : Program → Here → Result) → k (head_of v) ≡ rest P x → receiver P x u v k ≡ reaching (lineage t a m) cells u v rest P x
  unfolding reaching guarded either faulting
  reach_now u v k rest e = receiver_by P x u v k ∙ rw (fits_now (dref u) v, e)

  pub index_now : (ints : Bool) (v : Val) (i : ℕ) (k : Desc → ℕ → Result) (rest : Program → Here → Result)
      → k (element_of cells v) (element_at (head_of v) i) ≡ rest P x → element P x ints v i k ≡ indexing (lineage t a m) cells ints v i rest P x
  unfolding element indexing arraying guarded either faulting type_at
  index_now ints v i k rest e =
      reach_now (cls object) v (λ b. with_element (type_at x.heap b) λ d. only (beq ints (is_dint d)) (cond (nat_lt i (slice_index x.heap.cells (b + 2))) (k d (element_at b i)) (fault P x array_index)))
      (guarded (nat_lt 0 (depth_in cells v)) (guarded (beq ints (is_dint (element_of cells v))) (either (nat_lt i (size_in cells v)) rest (faulting array_index))))
      (ap (λ (H : Heap). with_element (type_at H (head_of v)) λ d. only (beq ints (is_dint d)) (cond (nat_lt i (slice_index H.cells (head_of v + 2))) (k d (element_at (head_of v) i)) (fault P x array_index))) s.heap ∙ element_by (base_in cells v) (depth_in cells v) _ ∙ rw e)

-- ---- the code's checks of a receiver, and of an array and an index: a halt, or what follows decides
abbrev pub checked_by : (Program → Type 0) → Place → List ℕ → ((Program → Here → Result) → Program → Here → Result) → Answer (Unit {0}) Halt → Type 0
checked_by K c cells chain (Err h) = (w g : List ℕ) (rest : Program → Here → Result) → Steps K c w g cells w g cells (Err h) (chain rest)
checked_by K c cells chain (Ok u) = (w g w' g' cells' : List ℕ) (q : Turn) (rest : Program → Here → Result) → Steps K c w g cells w' g' cells' q rest → Steps K c w g cells w' g' cells' q (chain rest)

pub record Checked (K : Program → Type 0) (c : Place) (cells : List ℕ) (r : Answer (Unit {0}) Halt) (chain : (Program → Here → Result) → Program → Here → Result) : Type 0 where
  pub by : checked_by K c cells chain r

-- ---- what calls gave, of the reference n
module _ (cells : List ℕ) (r n k : ℕ) where
  pub cell_as : (i : ℕ) → r ≡ slice_index cells (element_at (n - 1) i) → n ≡ k → r ≡ slice_index cells (element_at (k - 1) i)
  cell_as i e f = cc

  pub size_as : r ≡ slice_index cells (n - 1 + 2) → n ≡ k → r ≡ slice_index cells (k - 1 + 2)
  size_as e f = cc

  pub depth_zero : r ≡ 0 → r ≡ slice_index cells (n - 1 + 1) → n ≡ k → nat_lt 0 (slice_index cells (k - 1 + 1)) ≡ false
  depth_zero z e f = rw (← f, ← e, z)

  pub depth_there : (r ≢ 0) → r ≡ slice_index cells (n - 1 + 1) → n ≡ k → 0 < slice_index cells (k - 1 + 1)
  depth_there z e f = rw (← f, ← e) (omega arith)

  pub depth_known : 0 < slice_index cells (k - 1 + 1) → r ≡ slice_index cells (n - 1 + 1) → n ≡ k → 0 < r
  depth_known z e f = rw (e, f) z

  pub depth_some : (r ≢ 0) → r ≡ slice_index cells (n - 1 + 1) → n ≡ k → nat_lt 0 (slice_index cells (k - 1 + 1)) ≡ true
  depth_some z e f = rw (← f, ← e) (lt-ltb 0 r (omega arith))

-- what an array's type is an array of
abbrev element_or : Ref → Desc → Desc
element_or (cls k) d = d
element_or (arr e) d = e

element_desc : (b d : ℕ) (D : Desc) → 0 < d → arr D ≡ ref_of b d → D ≡ desc_of b (d - 1)
element_desc b zero D h e = absurd (omega arith)
element_desc b (suc d) D h e =
    let z : suc d - 1 ≡ d = omega arith in
    ap (λ (u : Ref). element_or u D) e ∙ rw z

module _ (K : Program → Type 0) (c : Place) (cells : List ℕ) (L : Program) (v : Val) where
  module _ (u : Ref) where
    pub reach_unfit : (q : Bool) → not q ≡ true → q ≡ fit L cells (dref u) v → Checked K c cells (Err Stuck) (reaching L cells u v)
    unfolding reaching
    reach_unfit q f e = record { by = λ w g rest. guard_not K c w g cells _ _ (untrue q _ f e) }

    pub reach_null : (q : Bool) (n : ℕ) → not q ≡ false → q ≡ fit L cells (dref u) v → n ≡ 0 → n ≡ to_cell v → Checked K c cells (Err (Fault null_pointer)) (reaching L cells u v)
    unfolding reaching
    reach_null q n f e y k = record {
      by = λ w g rest. guard_so K c w g cells w g cells _ _ _ (holds_so q _ f e) (if_zero K c w g cells w g cells _ n (to_cell v) _ _ y k (steps_fault K c w g cells null_pointer));
    }

    pub reach_on : (q : Bool) (n : ℕ) (o : Unit {0}) → not q ≡ false → q ≡ fit L cells (dref u) v → (n ≢ 0) → n ≡ to_cell v → Checked K c cells (Ok o) (reaching L cells u v)
    unfolding reaching
    reach_on q n o f e y k = record {
      by = λ w g w' g' cells' p rest s. guard_so K c w g cells w' g' cells' p _ _ (holds_so q _ f e) (if_some K c w g cells w' g' cells' p n (to_cell v) _ _ y k s);
    }

  by_array : (w g w' g' cells' : List ℕ) (p : Turn) (rest : Program → Here → Result) → Steps K c w g cells w' g' cells' p (ready-array cells v rest) → Steps K c w g cells w' g' cells' p (arraying L cells v rest)
  by_array w g w' g' cells' p rest s = likewise K c w g cells w' g' cells' p _ _ (record { is = λ P x _ _. array_by L cells v rest P x }) s

  -- q is whether it is usable, n the reference, td the header's depth
  module _ (q : Bool) (e : q ≡ usable (heap cells 0) v) where
    pub array_unfit : not q ≡ true → Checked K c cells (Err Stuck) (arraying L cells v)
    array_unfit f = record { by = λ w g rest. by_array w g w g cells _ rest (guard_not K c w g cells _ _ (untrue q _ f e)) }

    module _ (f : not q ≡ false) (n : ℕ) (k : n ≡ to_cell v) where
      pub array_null : n ≡ 0 → Checked K c cells (Err (Fault null_pointer)) (arraying L cells v)
      array_null y = record {
        by = λ w g rest. by_array w g w g cells _ rest (guard_so K c w g cells w g cells _ _ _ (holds_so q _ f e) (if_zero K c w g cells w g cells _ n (to_cell v) _ _ y k (steps_fault K c w g cells null_pointer)));
      }

      module _ (y : n ≡ 0 → ⊥) (td : ℕ) (d : td ≡ slice_index cells (n - 1 + 1)) where
        pub array_flat : td ≡ 0 → Checked K c cells (Err Stuck) (arraying L cells v)
        array_flat o = record {
          by = λ w g rest. by_array w g w g cells _ rest (guard_so K c w g cells w g cells _ _ _ (holds_so q _ f e)
              (if_some K c w g cells w g cells _ n (to_cell v) _ _ y k (guard_not K c w g cells _ _ (depth_zero cells td n (to_cell v) o d k))));
        }

        pub array_on : (z : Unit {0}) → (td ≢ 0) → Checked K c cells (Ok z) (arraying L cells v)
        array_on z o = record {
          by = λ w g w' g' cells' p rest s. by_array w g w' g' cells' p rest (guard_so K c w g cells w' g' cells' p _ _ (holds_so q _ f e)
              (if_some K c w g cells w' g' cells' p n (to_cell v) _ _ y k (guard_so K c w g cells w' g' cells' p _ _ (depth_some cells td n (to_cell v) o d k) s)));
        }

  module _ (ints : Bool) (i : ℕ) where
    pub index-refused : (r : Answer (Unit {0}) Halt) (h : Halt) → IsErrAnd r (λ z. z ≡ h) → Checked K c cells (Err h) (arraying L cells v) → Checked K c cells r (indexing L cells ints v i)
    unfolding indexing
    index-refused (Ok z) h p k = absurd p
    index-refused (Err z) h p k = rw p (record { by = λ w g rest. k.by w g _ })

    -- n is the reference, tb and td are the header's base and depth
    module _ (z : Unit {0}) (h : Checked K c cells (Ok z) (arraying L cells v)) (n td : ℕ) (y : n ≡ to_cell v) (f : td ≡ slice_index cells (n - 1 + 1))
        (tb : ℕ) (x : tb ≡ slice_index cells (n - 1)) (e : 0 < depth_in cells v) (D : Desc) (ed : arr D ≡ ref_of tb td) (q b : Bool) (eq : q ≡ is_dint D) (eb : b ≡ beq ints q) where
      kind_is : b ≡ beq ints (is_dint (element_of cells v))
      kind_is =
          let depth_is : td ≡ depth_in cells v = f ∙ ap (λ (k : ℕ). slice_index cells (k - 1 + 1)) y in
          let base_is : tb ≡ base_in cells v = x ∙ ap (λ (k : ℕ). slice_index cells (k - 1)) y in
          let desc_is : D ≡ element_of cells v = element_desc tb td D (rw depth_is e) ed ∙ rw (base_is, depth_is) in
          eb ∙ ap (beq ints) (eq ∙ ap is_dint desc_is)

      pub index_kind : not b ≡ true → Checked K c cells (Err Stuck) (indexing L cells ints v i)
      unfolding indexing
      index_kind j = record { by = λ w g rest. h.by w g w g cells _ _ (guard_not K c w g cells _ _ (untrue b _ j kind_is)) }

      module _ (j : not b ≡ false) (size : ℕ) (l : size ≡ slice_index cells (n - 1 + 2)) where
        size_is : size ≡ size_in cells v
        size_is = l ∙ ap (λ (k : ℕ). slice_index cells (k - 1 + 2)) y

        pub index_out : size ≤ i → Checked K c cells (Err (Fault array_index)) (indexing L cells ints v i)
        unfolding indexing
        index_out o = record {
          by = λ w g rest. h.by w g w g cells _ _
              (guard_so K c w g cells w g cells _ _ _ (holds_so b _ j kind_is)
              (either_no K c w g cells w g cells _ _ _ _ (le-ltb i (size_in cells v) (rw (← size_is) o)) (steps_fault K c w g cells array_index)));
        }

        pub index_on : (a : Unit {0}) → i < size → Checked K c cells (Ok a) (indexing L cells ints v i)
        unfolding indexing
        index_on a o = record {
          by = λ w g w' g' cells' x rest s. h.by w g w' g' cells' x _
              (guard_so K c w g cells w' g' cells' x _ _ (holds_so b _ j kind_is)
              (either_yes K c w g cells w' g' cells' x _ _ _ (lt-ltb i (size_in cells v) (rw (← size_is) o)) s));
        }

-- a load from an array, the index on top
unfoldable pub loading : List ℕ → ℕ → ℕ → Place → List ℕ → List ℕ → List ℕ → Bool → Program → Here → Result
loading t a m c w g cells ints =
    let i = val_at w g (31 + c.operands) in
    let v = val_at w g (30 + c.operands) in
    guarded (nat_le 2 c.operands) (guarded (is_num i) (indexing (lineage t a m) cells ints v (to_cell i) (pushing (from_cell (element_of cells v) (slice_index cells (element_at (head_of v) (to_cell i)))) w g (c.operands - 2))))

-- ---- forms
module _ (t : List ℕ) (a m : ℕ) (c : Place) (w g cells : List ℕ) where
  abbrev v1 : Val
  v1 = val_at w g (31 + c.operands)

  abbrev v2 : Val
  v2 = val_at w g (30 + c.operands)

  abbrev v3 : Val
  v3 = val_at w g (29 + c.operands)

  pub ifnull_as : (e : Bool) (o : ℕ)
      → As (λ P. Parents P t a m) c w g cells (doing w g c.operands (ifnull e o)) (guarded (nat_le 1 c.operands) (guarded (fit (lineage t a m) cells object_desc v1) (choosing (beq e (to_cell v1 == 0)) o w g (c.operands - 1))))
  unfolding doing execute guarded choosing
  ifnull_as e o = record {
    is = λ P x p s. any_by w g c.operands _ ∙ rw (fits_now t a m c w g cells P x p s object_desc v1);
  }

  pub ifacmp_as : (e : Bool) (o : ℕ)
      → As (λ P. Parents P t a m) c w g cells (doing w g c.operands (ifacmp e o))
      (guarded (nat_le 2 c.operands) (guarded (fit (lineage t a m) cells object_desc v1) (guarded (fit (lineage t a m) cells object_desc v2) (choosing (beq e (to_cell v2 == to_cell v1)) o w g (c.operands - 2)))))
  unfolding doing execute guarded choosing
  ifacmp_as e o = record {
    is = λ P x p s. pop2 w g c.operands (λ v. value_fits P x.heap object_desc v) (λ v u r. only (value_fits P x.heap object_desc u) (branch P x (beq e (to_cell u == to_cell v)) o r))
        ∙ rw (fits_now t a m c w g cells P x p s object_desc v1, fits_now t a m c w g cells P x p s object_desc v2);
  }

  pub length_as : As (λ P. Parents P t a m) c w g cells (doing w g c.operands arraylength)
      (guarded (nat_le 1 c.operands) (arraying (lineage t a m) cells v1 (pushing (num (size_in cells v1)) w g (c.operands - 1))))
  unfolding doing execute arraying guarded either faulting pushing type_at
  length_as = record {
    is = λ P x p s. any_by w g c.operands _
        ∙ ap (only (nat_le 1 c.operands))
        (reach_now t a m c w g cells P x p s (cls object) v1 _ (guarded (nat_lt 0 (depth_in cells v1)) (pushing (num (size_in cells v1)) w g (c.operands - 1)))
        (rw s.heap (element_by (base_in cells v1) (depth_in cells v1) _)));
  }

  load_as : (ints : Bool) (P : Program) (x : Here) → Parents P t a m → Stands P x c w g cells
      → load P x ints (ops_of w g c.operands) ≡ guarded (nat_le 2 c.operands) (guarded (is_num v1) (indexing (lineage t a m) cells ints v2 (to_cell v1) (pushing (from_cell (element_of cells v2) (slice_index cells (element_at (head_of v2) (to_cell v1)))) w g (c.operands - 2)))) P x
  unfolding load guarded pushing
  load_as ints P x p s =
      int-pop (ops_of w g c.operands) _
      ∙ pop2 w g c.operands is_num (λ i v r. element P x ints v (to_cell i) λ d j. push P x (from_cell d (cell x.heap j) ∷ r))
      ∙ ap (λ (z : Result). only (nat_le 2 c.operands) (only (is_num v1) z))
      (index_now t a m c w g cells P x p s ints v2 (to_cell v1) _ (pushing (from_cell (element_of cells v2) (slice_index cells (element_at (head_of v2) (to_cell v1)))) w g (c.operands - 2)) (pushed P x s))
    where
      push_is : (P : Program) (x : Here)
          → push P x (from_cell (element_of cells v2) (slice_index cells (element_at (head_of v2) (to_cell v1))) ∷ ops_of w g (c.operands - 2))
          ≡ pushing (from_cell (element_of cells v2) (slice_index cells (element_at (head_of v2) (to_cell v1)))) w g (c.operands - 2) P x
      push_is P x = refl

      pushed : (P : Program) (x : Here) → Stands P x c w g cells
          → push P x (from_cell (element_of cells v2) (cell x.heap (element_at (head_of v2) (to_cell v1))) ∷ ops_of w g (c.operands - 2))
          ≡ pushing (from_cell (element_of cells v2) (slice_index cells (element_at (head_of v2) (to_cell v1)))) w g (c.operands - 2) P x
      pushed P x s = ap (λ (H : Heap). push P x (from_cell (element_of cells v2) (cell H (element_at (head_of v2) (to_cell v1))) ∷ ops_of w g (c.operands - 2))) s.heap ∙ push_is P x

  pub iaload_as : As (λ P. Parents P t a m) c w g cells (doing w g c.operands iaload) (loading t a m c w g cells true)
  unfolding doing execute loading
  iaload_as = record { is = λ P x p s. load_as true P x p s }

  pub aaload_as : As (λ P. Parents P t a m) c w g cells (doing w g c.operands aaload) (loading t a m c w g cells false)
  unfolding doing execute loading
  aaload_as = record { is = λ P x p s. load_as false P x p s }

  pub iastore_as : As (λ P. Parents P t a m) c w g cells (doing w g c.operands iastore)
      (guarded (nat_le 3 c.operands) (guarded (is_num v1) (guarded (is_num v2) (indexing (lineage t a m) cells true v3 (to_cell v2) (writing (element_at (head_of v3) (to_cell v2)) (to_cell v1) w g (c.operands - 3))))))
  unfolding doing execute guarded writing
  iastore_as = record {
    is = λ P x p s. int-pop (ops_of w g c.operands) _
        ∙ pop_same (ops_of w g c.operands) _ _ (λ v r. ap (only (is_num v)) (int-pop r _))
        ∙ pop3 w g c.operands is_num is_num (λ b i v r. element P x true v (to_cell i) λ d j. push_on P x (store x.heap j (to_cell b)) r)
        ∙ ap (λ (z : Result). only (nat_le 3 c.operands) (only (is_num v1) (only (is_num v2) z)))
        (index_now t a m c w g cells P x p s true v3 (to_cell v2) _ (writing (element_at (head_of v3) (to_cell v2)) (to_cell v1) w g (c.operands - 3)) refl);
  }

  pub aastore_as : As (λ P. Parents P t a m) c w g cells (doing w g c.operands aastore)
      (guarded (nat_le 3 c.operands) (guarded (fit (lineage t a m) cells object_desc v1) (guarded (is_num v2) (indexing (lineage t a m) cells false v3 (to_cell v2)
      (either (fit (lineage t a m) cells (element_of cells v3) v1) (writing (element_at (head_of v3) (to_cell v2)) (to_cell v1) w g (c.operands - 3)) (faulting array_store))))))
  unfolding doing execute guarded writing either faulting
  aastore_as = record {
    is = λ P x p s. pop_same (ops_of w g c.operands) _ _ (λ v r. ap (only (value_fits P x.heap object_desc v)) (int-pop r _))
        ∙ pop3 w g c.operands (λ v. value_fits P x.heap object_desc v) is_num
        (λ y i v r. element P x false v (to_cell i) λ d j. cond (value_fits P x.heap d y) (push_on P x (store x.heap j (to_cell y)) r) (fault P x array_store))
        ∙ ap (λ (b : Bool). only (nat_le 3 c.operands) (only b (only (is_num v2) (element P x false v3 (to_cell v2) λ d j. cond (value_fits P x.heap d v1) (push_on P x (store x.heap j (to_cell v1)) (ops_of w g (c.operands - 3))) (fault P x array_store)))))
        (fits_now t a m c w g cells P x p s object_desc v1)
        ∙ ap (λ (z : Result). only (nat_le 3 c.operands) (only (fit (lineage t a m) cells object_desc v1) (only (is_num v2) z)))
        (index_now t a m c w g cells P x p s false v3 (to_cell v2) _ (either (fit (lineage t a m) cells (element_of cells v3) v1) (writing (element_at (head_of v3) (to_cell v2)) (to_cell v1) w g (c.operands - 3)) (faulting array_store))
        (ap (λ (b : Bool). cond b (push_on P x (store x.heap (element_at (head_of v3) (to_cell v2)) (to_cell v1)) (ops_of w g (c.operands - 3))) (fault P x array_store)) (fits_now t a m c w g cells P x p s (element_of cells v3) v1)));
  }

  pub getfield_as : (f : FieldRef) → As (λ P. Parents P t a m) c w g cells (doing w g c.operands (getfield f))
      (guarded (nat_le 1 c.operands) (reaching (lineage t a m) cells (cls f.named) v1 (pushing (from_cell f.type (slice_index cells (element_at (head_of v1) f.slot))) w g (c.operands - 1))))
  unfolding doing execute get_field guarded pushing
  getfield_as f = record {
    is = λ P x p s. any_by w g c.operands _
        ∙ ap (only (nat_le 1 c.operands))
        (reach_now t a m c w g cells P x p s (cls f.named) v1 _ (pushing (from_cell f.type (slice_index cells (element_at (head_of v1) f.slot))) w g (c.operands - 1))
        (ap (λ (H : Heap). push P x (from_cell f.type (cell H (element_at (head_of v1) f.slot)) ∷ ops_of w g (c.operands - 1))) s.heap));
  }

  pub putfield_as : (f : FieldRef) → As (λ P. Parents P t a m) c w g cells (doing w g c.operands (putfield f))
      (guarded (nat_le 2 c.operands) (guarded (fit (lineage t a m) cells f.type v1) (reaching (lineage t a m) cells (cls f.named) v2 (writing (element_at (head_of v2) f.slot) (to_cell v1) w g (c.operands - 2)))))
  unfolding doing execute put_field guarded writing
  putfield_as f = record {
    is = λ P x p s. pop2 w g c.operands (λ v. value_fits P x.heap f.type v) (λ y v r. receiver P x (cls f.named) v λ b. push_on P x (store x.heap (element_at b f.slot) (to_cell y)) r)
        ∙ ap (λ (b : Bool). only (nat_le 2 c.operands) (only b (receiver P x (cls f.named) v2 λ b. push_on P x (store x.heap (element_at b f.slot) (to_cell v1)) (ops_of w g (c.operands - 2))))) (fits_now t a m c w g cells P x p s f.type v1)
        ∙ ap (λ (z : Result). only (nat_le 2 c.operands) (only (fit (lineage t a m) cells f.type v1) z))
        (reach_now t a m c w g cells P x p s (cls f.named) v2 _ (writing (element_at (head_of v2) f.slot) (to_cell v1) w g (c.operands - 2)) refl);
  }

  pub checkcast_as : (u : Ref) → As (λ P. Parents P t a m) c w g cells (doing w g c.operands (checkcast u))
      (guarded (nat_le 1 c.operands) (guarded (fit (lineage t a m) cells object_desc v1) (either (fit (lineage t a m) cells (dref u) v1) (pushing v1 w g (c.operands - 1)) (faulting class_cast))))
  unfolding doing execute guarded either faulting pushing
  checkcast_as u = record {
    is = λ P x p s. any_by w g c.operands _ ∙ rw (fits_now t a m c w g cells P x p s object_desc v1, fits_now t a m c w g cells P x p s (dref u) v1);
  }

  pub newarray_as : (d : Desc) → As (λ P. Parents P t a m) c w g cells (doing w g c.operands (newarray d))
      (guarded (nat_le 1 c.operands) (guarded (is_num v1) (either (negative (to_cell v1)) (faulting negative_size) (making (arr d) (to_cell v1) 1 w g (c.operands - 1)))))
  unfolding doing execute guarded either faulting making make_array
  newarray_as d = record { is = λ P x p s. int-pop (ops_of w g c.operands) _ ∙ any_by w g c.operands _ }

  pub instanceof_as : (u : Ref) → As (λ P. Parents P t a m) c w g cells (doing w g c.operands (instanceof u))
      (guarded (nat_le 1 c.operands) (guarded (usable (heap cells 0) v1)
      (either (to_cell v1 == 0) (pushing (num 0) w g (c.operands - 1)) (pushing (truth (ref_fits (lineage t a m) (ref_of (base_in cells v1) (depth_in cells v1)) u)) w g (c.operands - 1)))))
  unfolding doing execute guarded either pushing type_at
  instanceof_as u = record {
    is = λ P x p s. any_by w g c.operands _
        ∙ ap (only (nat_le 1 c.operands))
        (ap (λ (H : Heap). with_object H v1 (push P x (num 0 ∷ ops_of w g (c.operands - 1))) λ b. push P x (truth (ref_fits P (type_at H b) u) ∷ ops_of w g (c.operands - 1))) s.heap
        ∙ object_by (heap cells c.used) _ _ v1
        ∙ rw (sym (usable_here cells c.used (usable (heap cells 0) v1) v1 refl), sym (type_here cells c.used (ref_fits (lineage t a m) (ref_of (base_in cells v1) (depth_in cells v1)) u) P t a m p (ref_of (base_in cells v1) (depth_in cells v1)) u refl)));
  }

-- the size of an object of that class is known
pub new_as : (k size : ℕ) (c : Place) (w g cells : List ℕ) → As (λ P. size ≡ length (layout P k)) c w g cells (doing w g c.operands (new k))
    (guarded (nat_lt c.operands c.most) (making (cls k) size 0 w g c.operands))
unfolding doing execute guarded making make
new_as k size c w g cells = record { is = λ P x p s. rw (length_ops w g c.operands, s.most, ← p) }

-- an array's element, by what its type's element is
module _ (cells : List ℕ) (n k tb td : ℕ) (D : Desc) (x : tb ≡ slice_index cells (n - 1)) (f : td ≡ slice_index cells (n - 1 + 1)) (y : n ≡ k) (h : 0 < slice_index cells (k - 1 + 1)) (e : arr D ≡ ref_of tb td) where
  pub element_as : D ≡ desc_of (slice_index cells (k - 1)) (slice_index cells (k - 1 + 1) - 1)
  element_as =
      let b : tb ≡ slice_index_or cells (k - 1) 0 = x ∙ ap (λ (j : ℕ). slice_index cells (j - 1)) y in
      let d : td ≡ slice_index_or cells (k - 1 + 1) 0 = f ∙ ap (λ (j : ℕ). slice_index cells (j - 1 + 1)) y in
      element_desc tb td D (rw d h) e ∙ rw (b, d)

pub checked_as : (K : Program → Type 0) (c : Place) (cells : List ℕ) (r : Answer (Unit {0}) Halt) (L : Program) (ints : Bool) (v : Val) (n k : ℕ) → n ≡ k → Checked K c cells r (indexing L cells ints v n) → Checked K c cells r (indexing L cells ints v k)
checked_as K c cells r L ints v n k e h = subst (λ (j : ℕ). Checked K c cells r (indexing L cells ints v j)) e h

pub loaded_as : (cells : List ℕ) (r n k i j : ℕ) → r ≡ slice_index cells (element_at (n - 1) i) → n ≡ k → i ≡ j → r ≡ slice_index cells (element_at (k - 1) j)
loaded_as cells r n k i j e f h = cc

pub negative_as : (b : Bool) (n k : ℕ) → b ≡ negative n → n ≡ k → b ≡ negative k
negative_as b n k e f = cc

pub equal_as : (q e : Bool) (n k m l : ℕ) → q ≡ beq e (n == m) → n ≡ k → m ≡ l → q ≡ beq e (k == l)
equal_as q e n k m l p f h = cc

pub refers_as : (b : Bool) (L : Program) (cells : List ℕ) (u y : Ref) (v : Val) → b ≡ fit L cells (dref u) v → u ≡ y → b ≡ fit L cells (dref y) v
refers_as b L cells u y v e f = cc

pub fits_as : (b : Bool) (L : Program) (cells : List ℕ) (D E : Desc) (v : Val) → b ≡ fit L cells D v → D ≡ E → b ≡ fit L cells E v
fits_as b L cells D E v e f = cc

pub from_as : (u : Val) (D E : Desc) (a b : ℕ) → u ≡ from_cell D a → D ≡ E → a ≡ b → u ≡ from_cell E b
from_as u D E a b e f g = cc

pub fits-element : (b : Bool) (L : Program) (cells : List ℕ) (n k tb td : ℕ) (D : Desc) (v : Val) → b ≡ fit L cells D v → arr D ≡ ref_of tb td → tb ≡ slice_index cells (n - 1) → td ≡ slice_index cells (n - 1 + 1) → n ≡ k
    → 0 < slice_index cells (k - 1 + 1) → b ≡ fit L cells (desc_of (slice_index cells (k - 1)) (slice_index cells (k - 1 + 1) - 1)) v
fits-element b L cells n k tb td D v p e x f y h = fits_as b L cells D _ v p (element_as cells n k tb td D x f y h e)

pub from_element : (u : Val) (cells : List ℕ) (n k tb td i j r : ℕ) (D : Desc) → u ≡ from_cell D r → arr D ≡ ref_of tb td → tb ≡ slice_index cells (n - 1) → td ≡ slice_index cells (n - 1 + 1) → n ≡ k
    → 0 < slice_index cells (k - 1 + 1) → r ≡ slice_index cells (element_at (n - 1) i) → i ≡ j → u ≡ from_cell (desc_of (slice_index cells (k - 1)) (slice_index cells (k - 1 + 1) - 1)) (slice_index cells (element_at (k - 1) j))
from_element u cells n k tb td i j r D p e x f y h q z = from_as u D _ r _ p (element_as cells n k tb td D x f y h e) (loaded_as cells r n k i j q y z)

pub bit_as : (q : ℕ) (b : Bool) → q ≡ from_bool b → q ≡ cond b 1 0
bit_as q true e = e
bit_as q false e = e

pub kind_as : (v : Val) (q : ℕ) (b : Bool) (L : Program) (cells : List ℕ) (n k tb td : ℕ) (u y : Ref) → v ≡ num q → q ≡ cond b 1 0 → b ≡ ref_fits L (ref_of tb td) u → tb ≡ slice_index cells (n - 1)
    → td ≡ slice_index cells (n - 1 + 1) → n ≡ k → u ≡ y → v ≡ truth (ref_fits L (ref_of (slice_index cells (k - 1)) (slice_index cells (k - 1 + 1))) y)
kind_as v q b L cells n k tb td u y o z e f h p w =
    let t : b ≡ ref_fits L (ref_of (slice_index cells (k - 1)) (slice_index cells (k - 1 + 1))) y = cc in
    o ∙ ap num z ∙ ap truth t

-- what is said of a value says nothing of the halt that `?` hands on
pub on_err : (r : Answer (Unit {0}) Halt) (h : Halt) (A : Type 0) → IsErrAnd r (λ z. z ≡ h) → OnOk r A
on_err (Ok z) h A p = absurd p
on_err (Err z) h A p = tt

pub ruleset checks = (reach_unfit, reach_null, reach_on, array_unfit, array_null, array_flat, array_on, index-refused, index_kind, index_out, index_on)
