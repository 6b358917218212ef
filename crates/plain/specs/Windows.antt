-- The running call's window of 64 slots with their tags: locals from 0 on, operands from 32 on; and how it is read back.
use Rattle.std.specs.Prelude.{Result as Answer, Ok, Err, ◌≡◌, ℕ, zero, suc, ◌+◌, ◌<◌, ◌≤◌, Bool, cond, ◌⊎◌, List, [], ◌∷◌, length, nat_lt, slice_index, slice_index_or, slice_set}
use Rattle.std.proofs.Common.{subst, sym, ap, ◌∙◌, inl, inr, lt-ltb, le-ltb, refl, arith, get_or-set_same, get_or-set_other}
use Rattle.kit.specs.Pick.{side}
use Rattle.rules.specs.Opcodes.{body}
use Rattle.reader.specs.Program.{Program}
use Rattle.plain.specs.Heap.{heap, Val, empty}
use Rattle.plain.specs.Machine.{heap_full, depth_full, stuck, Result, next, stopped, Here, method_at, resumed, go_on, push, branch, set_locals, fault}
use Rattle.plain.specs.ValueLaws.{value_of}
use Rattle.plain.specs.declared.window.Place.{Place}
use Rattle.plain.specs.declared.window.Onward.{Onward}
use Rattle.plain.specs.declared.window.Halt.{Halt}
use Rattle.plain.specs.declared.window.Halt.TheVariants.{Fault, HeapFull, DepthFull, Stuck}

abbrev pub val_at : List ℕ → List ℕ → ℕ → Val
val_at w g i = value_of (slice_index g i) (slice_index w i)

-- n locals from b on
unfoldable pub locs_from : List ℕ → List ℕ → ℕ → ℕ → List Val
locs_from w g b zero = []
locs_from w g b (suc n) = val_at w g b ∷ locs_from w g (suc b) n

abbrev pub locs_of : List ℕ → List ℕ → ℕ → List Val
locs_of w g n = locs_from w g 0 n

-- n operands, the top first
unfoldable pub ops_of : List ℕ → List ℕ → ℕ → List Val
ops_of w g zero = []
ops_of w g (suc n) = val_at w g (32 + n) ∷ ops_of w g n

-- ---- what a step's answer stands for: on, a fault of a class, or stopped
abbrev pub Turn : Type 0
Turn = Answer Onward Halt

abbrev pub halt_of : Program → Here → Halt → Result
halt_of P x (Fault k) = fault P x k
halt_of P x HeapFull = stopped heap_full
halt_of P x DepthFull = stopped depth_full
halt_of P x Stuck = stopped stuck

abbrev pub turn_of : Program → Here → ℕ → List ℕ → List ℕ → List ℕ → Turn → Result
turn_of P x n w g cells (Ok r) = next (resumed x (heap cells r.used) r.at (locs_of w g n) (ops_of w g r.operands))
turn_of P x n w g cells (Err h) = halt_of P x h

-- how many operands there are then
abbrev pub operands_of : Turn → ℕ
operands_of (Ok r) = r.operands
operands_of (Err h) = 0

-- the window has its size
pub record Sized (c : Place) (w g : List ℕ) : Type 0 where
  pub words : length w ≡ 64
  pub tags : length g ≡ 64
  pub operands : c.operands ≤ 32
  pub most : c.most ≤ 32
  pub locals : c.locals ≤ 32

-- a context of the definitions is the place that the code has
pub record Stands (P : Program) (x : Here) (c : Place) (w g cells : List ℕ) : Type 0 where
  pub heap : x.heap ≡ heap cells c.used
  pub locals : x.locals ≡ locs_of w g c.locals
  pub after : x.after ≡ c.after
  pub most : (body (method_at P x)).max_stack ≡ c.most

-- what a form that leaves the heap alone answers and leaves is what the definitions say, in every such context
pub record Goes (c : Place) (w g w' g' : List ℕ) (r : Turn) (what : Program → Here → Result) : Type 0 where
  pub is : (P : Program) (x : Here) (cells : List ℕ) → Stands P x c w g cells → turn_of P x c.locals w' g' cells r ≡ what P x
  pub kept : (h : Halt) → r ≡ Err h → (w' ≡ w) × (g' ≡ g)
  pub room : operands_of r ≤ 32

-- on at an offset with the operands that are there; to the next instruction with a value more
unfoldable pub going : ℕ → List ℕ → List ℕ → ℕ → Program → Here → Result
going at w g n P x = go_on P x x.heap at x.locals (ops_of w g n)

unfoldable pub pushing : Val → List ℕ → List ℕ → ℕ → Program → Here → Result
pushing v w g n P x = push P x (v ∷ ops_of w g n)

-- a local set; one of two offsets; one of two results; a fault
unfoldable pub storing : Val → ℕ → List ℕ → List ℕ → ℕ → Program → Here → Result
storing v j w g n P x = set_locals P x (slice_set x.locals j v) (ops_of w g n)

unfoldable pub choosing : Bool → ℕ → List ℕ → List ℕ → ℕ → Program → Here → Result
choosing b t w g n P x = branch P x b t (ops_of w g n)

unfoldable pub either : Bool → (Program → Here → Result) → (Program → Here → Result) → Program → Here → Result
either t a b P x = cond t (a P x) (b P x)

unfoldable pub faulting : ℕ → Program → Here → Result
faulting k P x = fault P x k

-- ---- windows that agree
abbrev pub Same : ℕ → ℕ → List ℕ → List ℕ → Type 0
Same lo hi s t = (i : ℕ) → lo ≤ i → i < hi → slice_index s i ≡ slice_index t i

module _ (s t g h : List ℕ) where
  pub ops_same : (n : ℕ) → Same 32 (32 + n) s t → Same 32 (32 + n) g h → ops_of s g n ≡ ops_of t h n
  unfolding ops_of
  ops_same zero p q = refl
  ops_same (suc n) p q =
      let e = p (32 + n) (omega arith) (omega arith) in
      let f = q (32 + n) (omega arith) (omega arith) in
      rw (e, f, ops_same n (λ i l u. p i l (omega arith)) (λ i l u. q i l (omega arith)))

  pub locs_same : (b n : ℕ) → Same b (b + n) s t → Same b (b + n) g h → locs_from s g b n ≡ locs_from t h b n
  unfolding locs_from
  locs_same b zero p q = refl
  locs_same b (suc n) p q =
      let e = p b (omega arith) (omega arith) in
      let f = q b (omega arith) (omega arith) in
      rw (e, f, locs_same (suc b) n (λ i l u. p i (omega arith) (omega arith)) (λ i l u. q i (omega arith) (omega arith)))

-- a store outside
pub same_set : (s : List ℕ) (lo hi i v : ℕ) → ((i < lo) ⊎ (hi ≤ i)) → Same lo hi (slice_set s i v) s
same_set s lo hi i v (inl z) j l u = get_or-set_other s i j v 0 (λ q. omega arith)
same_set s lo hi i v (inr z) j l u = get_or-set_other s i j v 0 (λ q. omega arith)

-- ---- a store at the n-th operand's slot
module _ (w g : List ℕ) (n v k : ℕ) where
  pub ops_put : 32 + n < length w → 32 + n < length g → ops_of (slice_set w (32 + n) v) (slice_set g (32 + n) k) (suc n) ≡ value_of k v ∷ ops_of w g n
  unfolding ops_of
  ops_put h l =
      let e = get_or-set_same w (32 + n) v 0 h in
      let f = get_or-set_same g (32 + n) k 0 l in
      rw (
        e,
        f,
        ops_same (slice_set w (32 + n) v) w (slice_set g (32 + n) k) g n (same_set w 32 (32 + n) (32 + n) v (inr (omega arith))) (same_set g 32 (32 + n) (32 + n) k (inr (omega arith))),
      )

  pub locs_put : (m : ℕ) → m ≤ 32 → locs_of (slice_set w (32 + n) v) (slice_set g (32 + n) k) m ≡ locs_of w g m
  locs_put m h =
      locs_same (slice_set w (32 + n) v) w (slice_set g (32 + n) k) g 0 m (same_set w 0 (0 + m) (32 + n) v (inr (omega arith))) (same_set g 0 (0 + m) (32 + n) k (inr (omega arith)))

pub length_ops : (w g : List ℕ) (n : ℕ) → length (ops_of w g n) ≡ n
unfolding ops_of
length_ops w g zero = refl
length_ops w g (suc n) = ap suc (length_ops w g n)

pub length_locs : (w g : List ℕ) (b n : ℕ) → length (locs_from w g b n) ≡ n
unfolding locs_from
length_locs w g b zero = refl
length_locs w g b (suc n) = ap suc (length_locs w g (suc b) n)

-- ---- locals by number
pub local-at : (w g : List ℕ) (b n j : ℕ) → slice_index_or (locs_from w g b n) j empty ≡ cond (nat_lt j n) (val_at w g (b + j)) empty
unfolding locs_from
local-at w g b zero j = rw (le-ltb j 0 (omega arith))
local-at w g b (suc n) zero =
    let e : b + 0 ≡ b = omega arith in
    rw (lt-ltb 0 (suc n) (omega arith), e)
local-at w g b (suc n) (suc j) =
    let e : b + suc j ≡ suc b + j = omega arith in
    rw e (local-at w g (suc b) n j ∙ ap (λ (t : Bool). cond t (val_at w g (suc b + j)) empty) (both j n))
  where
    both : (j n : ℕ) → nat_lt j n ≡ nat_lt (suc j) (suc n)
    both j n = go (side j n)
      where
        go : (j < n) ⊎ (n ≤ j) → nat_lt j n ≡ nat_lt (suc j) (suc n)
        go (inl h) = rw (lt-ltb j n h, lt-ltb (suc j) (suc n) (omega arith))
        go (inr h) = rw (le-ltb j n h, le-ltb (suc j) (suc n) (omega arith))

module _ (w g : List ℕ) (v k : ℕ) where
  pub local_put : (b n j : ℕ) → j < n → b + j < length w → b + j < length g
      → slice_set (locs_from w g b n) j (value_of k v) ≡ locs_from (slice_set w (b + j) v) (slice_set g (b + j) k) b n
  unfolding locs_from
  local_put b zero j h l m = absurd (omega arith)
  local_put b (suc n) zero h l m =
      let e : b + 0 ≡ b = omega arith in
      subst (λ (i : ℕ). slice_set (locs_from w g b (suc n)) 0 (value_of k v) ≡ locs_from (slice_set w i v) (slice_set g i k) b (suc n)) (sym e)
      (rw (
        get_or-set_same w b v 0 (omega arith),
        get_or-set_same g b k 0 (omega arith),
        locs_same (slice_set w b v) w (slice_set g b k) g (suc b) n (same_set w (suc b) (suc b + n) b v (inl (omega arith))) (same_set g (suc b) (suc b + n) b k (inl (omega arith))),
      ))
  local_put b (suc n) (suc j) h l m =
      let e : b + suc j ≡ suc b + j = omega arith in
      subst (λ (i : ℕ). slice_set (locs_from w g b (suc n)) (suc j) (value_of k v) ≡ locs_from (slice_set w i v) (slice_set g i k) b (suc n)) (sym e)
      (rw (
        get_or-set_other w (suc b + j) b v 0 (λ q. omega arith),
        get_or-set_other g (suc b + j) b k 0 (λ q. omega arith),
        ← local_put (suc b) n j (omega arith) (omega arith) (omega arith),
      ))

  -- the operands stay
  pub ops_local : (n j : ℕ) → j < 32 → ops_of (slice_set w j v) (slice_set g j k) n ≡ ops_of w g n
  ops_local n j h =
      ops_same (slice_set w j v) w (slice_set g j k) g n (same_set w 32 (32 + n) j v (inl h)) (same_set g 32 (32 + n) j k (inl h))

pub set_past : {A : Type 0} (l : List A) (j : ℕ) (v : A) → length l ≤ j → slice_set l j v ≡ l
set_past [] j v h = refl
set_past (a ∷ l) zero v h = absurd (omega arith)
set_past (a ∷ l) (suc j) v h = ap (λ (m : List _). a ∷ m) (set_past l j v (omega arith))
