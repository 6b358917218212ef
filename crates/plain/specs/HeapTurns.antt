-- Steps that read or write the heap, by the code's tests, of every program of which K is known. Assumes nothing.
use Rattle.std.specs.Prelude.{Ok, Err, IsErrAnd, ◌≡◌, ℕ, suc, ◌+◌, ◌-◌, ◌<◌, ◌≤◌, Bool, true, false, List, ◌∷◌, length, set, ◌==◌, ◌≢◌}
use Rattle.std.proofs.Common.{sym, ap, ◌∙◌, refl, arith, le-leb, eq-eqb, ne_eqb}
use borrow.Author.Tests.{lt-leb}
use Rattle.classfiles.specs.Descriptors.{Ref}
use Rattle.reader.specs.Program.{Program}
use Rattle.plain.specs.Heap.{heap, Val, ref, element_at, store, allocate, has_room}
use Rattle.plain.specs.Machine.{stuck, Result, next, stopped, Here, only, go_on, push_on, with_room, create, resumed}
use Rattle.plain.specs.ValueLaws.{value_of}
use Rattle.plain.specs.Windows.{Turn, operands_of, locs_of, ops_of, turn_of, Sized, Stands, Goes, going, pushing, choosing, either, faulting, ops_put, locs_put, length_ops}
use Rattle.plain.specs.Turns.{push_low, go_low, go_next}
use Rattle.plain.specs.declared.window.Place.{Place}
use Rattle.plain.specs.declared.window.Halt.{Halt}
use Rattle.plain.specs.declared.window.Halt.TheVariants.{Fault, HeapFull, Stuck}

pub record Steps (K : Program → Type 0) (c : Place) (w g cells w' g' cells' : List ℕ) (r : Turn) (what : Program → Here → Result) : Type 0 where
  pub is : (P : Program) (x : Here) → K P → Stands P x c w g cells → turn_of P x c.locals w' g' cells' r ≡ what P x
  pub kept : (h : Halt) → r ≡ Err h → (w' ≡ w) × (g' ≡ g) × (cells' ≡ cells)
  pub room : operands_of r ≤ 32

-- one and the same for every such program, in every such context
pub record As (K : Program → Type 0) (c : Place) (w g cells : List ℕ) (what rest : Program → Here → Result) : Type 0 where
  pub is : (P : Program) (x : Here) → K P → Stands P x c w g cells → what P x ≡ rest P x

unfoldable pub guarded : Bool → (Program → Here → Result) → Program → Here → Result
guarded t rest P x = only t (rest P x)

-- a cell written, and on to the next instruction; something made, and its reference pushed
unfoldable pub writing : ℕ → ℕ → List ℕ → List ℕ → ℕ → Program → Here → Result
writing i v w g n P x = push_on P x (store x.heap i v) (ops_of w g n)

unfoldable pub making : Ref → ℕ → ℕ → List ℕ → List ℕ → ℕ → Program → Here → Result
making u n ready w g k P x = create x.heap u n ready λ q H. push_on P x H (ref q ∷ ops_of w g k)

module _ (K : Program → Type 0) (c : Place) (w g cells : List ℕ) where
  pub steps_stuck : (what : Program → Here → Result) → ((P : Program) (x : Here) → K P → Stands P x c w g cells → what P x ≡ stopped stuck)
      → Steps K c w g cells w g cells (Err Stuck) what
  steps_stuck what h = record { is = λ P x q s. sym (h P x q s); kept = λ h e. (refl, refl, refl); room = omega arith }

  pub steps_fault : (k : ℕ) → Steps K c w g cells w g cells (Err (Fault k)) (faulting k)
  unfolding faulting
  steps_fault k = record { is = λ P x q s. refl; kept = λ h e. (refl, refl, refl); room = omega arith }

  pub guard_not : (t : Bool) (rest : Program → Here → Result) → t ≡ false → Steps K c w g cells w g cells (Err Stuck) (guarded t rest)
  unfolding guarded
  guard_not t rest q = steps_stuck (guarded t rest) (λ P x k s. rw q)

  -- the halt that `?` hands on
  pub handed : (r : Turn) (h : Halt) (what : Program → Here → Result) → IsErrAnd r (λ z. z ≡ h) → Steps K c w g cells w g cells (Err h) what → Steps K c w g cells w g cells r what
  handed (Ok z) h what p s = absurd p
  handed (Err z) h what p s = rw p s

module _ (K : Program → Type 0) (c : Place) (w g cells w' g' cells' : List ℕ) (r : Turn) where
  pub likewise : (what rest : Program → Here → Result) → As K c w g cells what rest → Steps K c w g cells w' g' cells' r rest → Steps K c w g cells w' g' cells' r what
  likewise what rest e k = record { is = λ P x q s. k.is P x q s ∙ sym (e.is P x q s); kept = k.kept; room = k.room }

  pub guard_so : (t : Bool) (rest : Program → Here → Result) → t ≡ true → Steps K c w g cells w' g' cells' r rest → Steps K c w g cells w' g' cells' r (guarded t rest)
  unfolding guarded
  guard_so t rest e k = likewise (guarded t rest) rest (record { is = λ P x q s. rw e }) k

  pub if_zero : (n k : ℕ) (a b : Program → Here → Result) → n ≡ 0 → n ≡ k → Steps K c w g cells w' g' cells' r a → Steps K c w g cells w' g' cells' r (either (k == 0) a b)
  unfolding either
  if_zero n k a b e f s = likewise (either (k == 0) a b) a (record { is = λ P x q u. rw (eq-eqb k 0 (sym f ∙ e)) }) s

  pub if_some : (n k : ℕ) (a b : Program → Here → Result) → (n ≢ 0) → n ≡ k → Steps K c w g cells w' g' cells' r b → Steps K c w g cells w' g' cells' r (either (k == 0) a b)
  unfolding either
  if_some n k a b e f s = likewise (either (k == 0) a b) b (record { is = λ P x q u. rw (ne_eqb k 0 (λ z. e (f ∙ z))) }) s

  pub either_yes : (t : Bool) (a b : Program → Here → Result) → t ≡ true → Steps K c w g cells w' g' cells' r a → Steps K c w g cells w' g' cells' r (either t a b)
  unfolding either
  either_yes t a b e s = likewise (either t a b) a (record { is = λ P x q u. rw e }) s

  pub either_no : (t : Bool) (a b : Program → Here → Result) → t ≡ false → Steps K c w g cells w' g' cells' r b → Steps K c w g cells w' g' cells' r (either t a b)
  unfolding either
  either_no t a b e s = likewise (either t a b) b (record { is = λ P x q u. rw e }) s

-- a step that leaves the heap alone
module _ (K : Program → Type 0) (c : Place) (w g cells w' g' : List ℕ) (r : Turn) where
  pub windowed : (what : Program → Here → Result) → Goes c w g w' g' r what → Steps K c w g cells w' g' cells r what
  windowed what k = record { is = λ P x q s. k.is P x cells s; kept = λ h e. ((k.kept h e).0, (k.kept h e).1, refl); room = k.room }

  pub push-heap : (d : Place) (u v : Val) (n : ℕ) → d ≡ record { operands = n; most = c.most; locals = c.locals; after = c.after; used = c.used } → u ≡ v
      → Goes d w g w' g' r (pushing u w g d.operands) → Steps K c w g cells w' g' cells r (pushing v w g n)
  push-heap d u v n e f k = windowed _ (push_low c w g w' g' r d u v n e f k)

  pub go_heap : (d : Place) (n at : ℕ) → d ≡ record { operands = n; most = c.most; locals = c.locals; after = c.after; used = c.used }
      → Goes d w g w' g' r (going at w g d.operands) → Steps K c w g cells w' g' cells r (going at w g n)
  go_heap d n at e k = windowed _ (go_low c w g w' g' r d n at at e refl k)

  pub choose_so : (d : Place) (b : Bool) (n t : ℕ) → b ≡ true → d ≡ record { operands = n; most = c.most; locals = c.locals; after = c.after; used = c.used }
      → Goes d w g w' g' r (going t w g d.operands) → Steps K c w g cells w' g' cells r (choosing b t w g n)
  unfolding choosing going
  choose_so d b n t q e k = likewise K c w g cells w' g' cells r (choosing b t w g n) (going t w g n) (record { is = λ P x z s. rw q }) (windowed _ (go_low c w g w' g' r d n t t e refl k))

  pub choose_not : (d : Place) (b : Bool) (n t : ℕ) → b ≡ false → d ≡ record { operands = n; most = c.most; locals = c.locals; after = c.after; used = c.used }
      → Goes d w g w' g' r (going d.after w g d.operands) → Steps K c w g cells w' g' cells r (choosing b t w g n)
  unfolding choosing going
  choose_not d b n t q e k = likewise K c w g cells w' g' cells r (choosing b t w g n) (going c.after w g n) (record { is = λ P x z s. rw (q, s.after) }) (windowed _ (go_next c w g w' g' r d n e k))

-- ---- writing a cell
module _ (K : Program → Type 0) (c : Place) (w g cells : List ℕ) (i v n : ℕ) where
  pub write_stuck : c.most < n → Steps K c w g cells w g cells (Err Stuck) (writing i v w g n)
  unfolding writing go_on
  write_stuck h = steps_stuck K c w g cells (writing i v w g n) (λ P x q s. rw (length_ops w g n, s.most, lt-leb n c.most h))

  pub write_on : (cells' : List ℕ) → n ≤ c.most → n ≤ 32 → cells' ≡ set cells i v → Steps K c w g cells w g cells' (Ok (record { at = c.after; operands = n; used = c.used })) (writing i v w g n)
  unfolding writing go_on store
  write_on cells' h l e = record {
    is = λ P x q s. rw (e, length_ops w g n, s.most, le-leb n c.most h, s.heap, s.locals, s.after);
    kept = λ h e. absurd cc;
    room = l;
  }

-- ---- making
module _ (K : Program → Type 0) (c : Place) (w g cells : List ℕ) (u : Ref) (size ready k : ℕ) where
  pub make_full : has_room (heap cells c.used) size ≡ false → Steps K c w g cells w g cells (Err HeapFull) (making u size ready w g k)
  unfolding making create with_room
  make_full h = record { is = λ P x q s. rw (s.heap, h); kept = λ h e. (refl, refl, refl); room = omega arith }

  pub make-stuck : has_room (heap cells c.used) size ≡ true → c.most ≤ k → Steps K c w g cells w g cells (Err Stuck) (making u size ready w g k)
  unfolding making create with_room go_on
  make-stuck h l = steps_stuck K c w g cells (making u size ready w g k) (λ P x q s. rw (s.heap, h, length_ops w g k, s.most, lt-leb (suc k) c.most (omega arith)))

  pub make_on : (cells' : List ℕ) (q : ℕ) → has_room (heap cells c.used) size ≡ true → k < c.most → Sized c w g → heap cells' q ≡ allocate (heap cells c.used) u size ready
      → Steps K c w g cells (set w (32 + k) (c.used + 1)) (set g (32 + k) 2) cells' (Ok (record { at = c.after; operands = k + 1; used = q })) (making u size ready w g k)
  unfolding making create with_room go_on value_of
  make_on cells' q h l z e =
      let o : k + 1 ≡ suc k = omega arith in
      let p : c.used + 1 ≡ suc c.used = omega arith in
      let hw : 32 + k < length w = rw z.words (omega (arith, z.most)) in
      let hg : 32 + k < length g = rw z.tags (omega (arith, z.most)) in
      record {
        is = λ P x y s. rw (e, s.heap, h, length_ops w g k, s.most, le-leb (suc k) c.most (omega arith), s.locals, s.after, o, p, ops_put w g k (suc c.used) 2 hw hg, locs_put w g k (suc c.used) 2 c.locals z.locals) (made P x s);
        kept = λ h e. absurd cc;
        room = omega (arith, z.most);
      }
    where
      made : (P : Program) (x : Here) → Stands P x c w g cells
          → next (resumed x (allocate (heap cells c.used) u size ready) c.after (locs_of w g c.locals) (value_of 2 (suc c.used) ∷ ops_of w g k))
          ≡ next (resumed x (allocate (heap cells c.used) u size ready) c.after (locs_of w g c.locals) (ref (suc c.used) ∷ ops_of w g k))
      made P x s = refl

-- ---- nothing need be known of the program
abbrev pub AnyProgram : Program → Type 0
AnyProgram P = Unit {0}

pub make_low : (K : Program → Type 0) (c d : Place) (w g cells w' g' cells' : List ℕ) (r : Turn) (u u' : Ref) (size size' ready n : ℕ) → d ≡ record { operands = n; most = c.most; locals = c.locals; after = c.after; used = c.used }
    → u ≡ u' → size ≡ size' → Steps AnyProgram d w g cells w' g' cells' r (making u size ready w g d.operands) → Steps K c w g cells w' g' cells' r (making u' size' ready w g n)
make_low K c d w g cells w' g' cells' r u u' size size' ready n e f h k = record { is = λ P x q s. moved P x s; kept = k.kept; room = k.room }
  where
    moved : (P : Program) (x : Here) → Stands P x c w g cells → turn_of P x c.locals w' g' cells' r ≡ making u' size' ready w g n P x
    moved P x s =
        let l : d.locals ≡ c.locals = ap (λ (p : Place). p.locals) e in
        let o : d.operands ≡ n = ap (λ (p : Place). p.operands) e in
        rw (← l, ← o, ← f, ← h)
        (k.is P x tt (record { heap = s.heap ∙ sym (ap (λ (p : Place). heap cells p.used) e); locals = s.locals ∙ sym (ap (λ (p : Place). locs_of w g p.locals) e); after = s.after ∙ sym (ap (λ (p : Place). p.after) e); most = s.most ∙ sym (ap (λ (p : Place). p.most) e) }))

-- a cell written whatever stands in the window
pub record Writes (c : Place) (n : ℕ) (cells cells' : List ℕ) (r : Turn) (i v : ℕ) : Type 0 where
  pub all : (w g : List ℕ) → Steps AnyProgram c w g cells w g cells' r (writing i v w g n)

pub writes_stuck : (c : Place) (n : ℕ) (cells : List ℕ) (i v : ℕ) → c.most < n → Writes c n cells cells (Err Stuck) i v
writes_stuck c n cells i v h = record { all = λ w g. write_stuck AnyProgram c w g cells i v n h }

pub writes_on : (c : Place) (n : ℕ) (cells cells' : List ℕ) (i v : ℕ) → n ≤ c.most → n ≤ 32 → cells' ≡ set cells i v → Writes c n cells cells' (Ok (record { at = c.after; operands = n; used = c.used })) i v
writes_on c n cells cells' i v h l e = record { all = λ w g. write_on AnyProgram c w g cells i v n cells' h l e }

pub write_any : (K : Program → Type 0) (c : Place) (w g cells cells' : List ℕ) (r : Turn) (n k a j i v u : ℕ) → Writes c n cells cells' r (element_at (k - 1) i) v → k ≡ a → i ≡ j → v ≡ u
    → Steps K c w g cells w g cells' r (writing (element_at (a - 1) j) u w g n)
write_any K c w g cells cells' r n k a j i v u h e f p =
    let s : Steps AnyProgram c w g cells w g cells' r (writing (element_at (a - 1) j) u w g n) = rw (← e, ← f, ← p) (h.all w g) in
    record { is = λ P x q z. s.is P x tt z; kept = s.kept; room = s.room }

pub ruleset heapsteps = (steps_fault, guard_not, guard_so, if_zero, if_some, either_yes, either_no, push-heap, go_heap, choose_so, choose_not, write_stuck, write_on, make_full, make-stuck, make_on)
