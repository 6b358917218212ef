-- A stretch of steps that stay in one window, as so many steps of the plain machine. Assumes nothing.
use Rattle.std.specs.Prelude.{Ok, Err, OnErr, ℕ, zero, suc, ◌+◌, ◌-◌, ◌<◌, ◌≤◌, ◌≡◌, refl, List, length}
use Rattle.std.proofs.Common.{sym, ◌∙◌, arith, ap, lt-ltb}
use Rattle.classfiles.specs.Limits.{max_heap}
use Rattle.reader.specs.Program.{Program, method}
use Rattle.rules.specs.Opcodes.{body, code_of, size_at, instruction}
use Rattle.plain.specs.Heap.{heap}
use Rattle.plain.specs.Machine.{Call, call, Machine, machine, heap_of, Result, next, Here}
use Rattle.plain.specs.Step.{step}
use Rattle.plain.specs.Run.{turn, run}
use Rattle.plain.specs.Windows.{Turn, locs_of, ops_of, Stands}
use Rattle.plain.specs.declared.window.Onward.{Onward}
use Rattle.stretching.specs.Quick.{Ready, Known, Moves, Quick, place_at, made_at}
use Rattle.stretching.specs.declared.quick.Ground.{Ground}
use Rattle.stretching.specs.declared.stretch.Spot.{Spot}

-- the window has its size
pub record Fit (code cells w g : List ℕ) (y : Ground) (n : ℕ) : Type 0 where
  pub words : length w ≡ 64
  pub tags : length g ≡ 64
  pub operands : n ≤ 32
  pub most : y.most ≤ 32
  pub locals : y.locals ≤ 32
  pub size : length cells ≤ max_heap
  pub short : length code ≤ 4096

pub fit-ready : (code cells w g : List ℕ) (y : Ground) (at n : ℕ) → Fit code cells w g y n → at < length code → Ready code cells w g y at n
fit-ready code cells w g y at n h l = record {
  words = h.words;
  tags = h.tags;
  operands = h.operands;
  most = h.most;
  locals = h.locals;
  size = h.size;
  here = l;
  short = h.short;
}

-- method j of class c of a program has that code, and the instructions that are made of it
pub record Fetches (b t code : List ℕ) (y : Ground) (P : Program) (c j : ℕ) : Type 0 where
  pub known : Known t y P
  pub code_is : code_of (method P c j) ≡ code
  pub most : (body (method P c j)).max_stack ≡ y.most
  pub made : (o : ℕ) → o < length code → instruction P (method P c j) o ≡ made_at b t y.class code o P

-- such a call, over those that wait
abbrev pub machine_at : Ground → ℕ → ℕ → ℕ → List Call → Spot → List ℕ → List ℕ → List ℕ → Machine
machine_at y c j self ks q w g cells = machine (heap cells q.used) (call c j q.at self (locs_of w g y.locals) (ops_of w g q.operands)) ks

pub record Low (y : Ground) (q : Spot) : Type 0 where
  pub operands : q.operands ≤ y.most
  pub offset : q.at < 65536

-- the steps from one spot to the other are the machine's
pub record Reached (y : Ground) (from q : Spot) (w g cells w' g' cells' : List ℕ) (P : Program) (c j self : ℕ) (ks : List Call) : Type 0 where
  pub is : (m : ℕ) → run P from.left m (machine_at y c j self ks from w g cells) ≡ run P q.left (m + (from.left - q.left)) (machine_at y c j self ks q w' g' cells')
  pub low : Low y q

pub record Stretched (b t code : List ℕ) (y : Ground) (from : Spot) (w g cells w' g' cells' : List ℕ) (q : Spot) : Type 0 where
  pub reached : (P : Program) (c j self : ℕ) (ks : List Call) → Fetches b t code y P c j → Low y from → Reached y from q w g cells w' g' cells' P c j self ks
  pub left : q.left ≤ from.left
  pub room : q.operands ≤ 32

pub stretch_start : (b t code : List ℕ) (y : Ground) (from : Spot) (w g cells : List ℕ) → from.operands ≤ 32 → Stretched b t code y from w g cells w g cells from
stretch_start b t code y from w g cells h = record {
  reached = λ P c j self ks f low. record {
    is = λ m. let e : m + (from.left - from.left) ≡ m = omega arith in ap (λ (i : ℕ). run P from.left i (machine_at y c j self ks from w g cells)) (sym e);
    low = low;
  };
  left = omega arith;
  room = h;
}

pub stretch_begin : (b t code : List ℕ) (y : Ground) (from : Spot) (w g cells : List ℕ) → from.operands ≤ 32
    → Stretched b t code y from w g cells w g cells (record { at = from.at; operands = from.operands; used = from.used; left = from.left - 0 })
stretch_begin b t code y from w g cells h = let e : from.left - 0 ≡ from.left = omega arith in rw e (stretch_start b t code y from w g cells h)

-- a step of a run that has some left
pub run-turn : (P : Program) (left m : ℕ) (K : Machine) → 0 < left → run P left m K ≡ turn (step P K) m (heap_of K) (λ (L : Machine). run P (left - 1) (suc m) L)
unfolding run
run-turn P zero m K h = absurd (omega arith)
run-turn P (suc left) m K h =
    let z : suc left - 1 ≡ left = omega arith in
    rw z

module _ (b t code : List ℕ) (y : Ground) (w g cells w' g' cells' : List ℕ) (at n used : ℕ) (r : Onward) (short : length code ≤ 4096) (here : at < length code)
    (h : Quick b t code y at n used w g cells w' g' cells' (Ok r)) (P : Program) (c j self : ℕ) (ks : List Call) (f : Fetches b t code y P c j) where
  abbrev X : Here
  X = record {
    heap = heap cells used;
    class = c;
    index = j;
    offset = at;
    after = at + size_at code at;
    self = self;
    locals = locs_of w g y.locals;
    waiting = ks;
  }

  abbrev before : Machine
  before = machine (heap cells used) (call c j at self (locs_of w g y.locals) (ops_of w g n)) ks

  abbrev after : Machine
  after = machine (heap cells' r.used) (call c j r.at self (locs_of w' g' y.locals) (ops_of w' g' r.operands)) ks

  stands : Stands P X (place_at y at n used (size_at code at)) w g cells
  stands = record { heap = refl; locals = refl; after = refl; most = f.most }

  moves : Moves b t code y at n w g w' g' cells' r P X
  moves = h.on P X f.known stands (omega arith)

  steps_to : step P before ≡ next after
  unfolding step
  steps_to =
      let q = lt-ltb at (length code) here in
      rw (f.code_is, q, f.made at here) (sym moves.is)

  pub one_more : (left m : ℕ) → 0 < left → run P left m before ≡ run P (left - 1) (suc m) after
  unfolding turn
  one_more left m l = run-turn P left m before l ∙ ap (λ (R : Result). turn R m (heap cells used) (λ (L : Machine). run P (left - 1) (suc m) L)) steps_to

  pub still_low : (r.operands ≤ y.most) × (r.at < 65536)
  still_low = (moves.operands, moves.offset)

pub stretch_next : (b t code : List ℕ) (y : Ground) (from : Spot) (w₀ g₀ cells₀ w g cells w' g' cells' : List ℕ) (at n used left : ℕ) (r : Onward) → length code ≤ 4096 → at < length code → 0 < left
    → Stretched b t code y from w₀ g₀ cells₀ w g cells (record { at = at; operands = n; used = used; left = left }) → Quick b t code y at n used w g cells w' g' cells' (Ok r)
    → Stretched b t code y from w₀ g₀ cells₀ w' g' cells' (record { at = r.at; operands = r.operands; used = r.used; left = left - 1 })
stretch_next b t code y from w₀ g₀ cells₀ w g cells w' g' cells' at n used left r short here l s h = record {
  reached = λ P c j self ks f low.
      let u = s.reached P c j self ks f low in
      let v = still_low b t code y w g cells w' g' cells' at n used r short here h P c j self ks f in
      record {
        is = λ m.
            let e : suc (m + (from.left - left)) ≡ m + (from.left - (left - 1)) = omega (arith, s.left) in
            u.is m ∙ one_more b t code y w g cells w' g' cells' at n used r short here h P c j self ks f left (m + (from.left - left)) l
            ∙ ap (λ (i : ℕ). run P (left - 1) i (machine (heap cells' r.used) (call c j r.at self (locs_of w' g' y.locals) (ops_of w' g' r.operands)) ks)) e;
        low = record { operands = v.0; offset = v.1 };
      };
  left = omega (arith, s.left);
  room = h.room;
}

-- one step fewer is left
pub stretch_spent : (b t code : List ℕ) (y : Ground) (from : Spot) (w₀ g₀ cells₀ w g cells : List ℕ) (at n used i : ℕ)
    → Stretched b t code y from w₀ g₀ cells₀ w g cells (record { at = at; operands = n; used = used; left = from.left - i - 1 })
    → Stretched b t code y from w₀ g₀ cells₀ w g cells (record { at = at; operands = n; used = used; left = from.left - (i + 1) })
stretch_spent b t code y from w₀ g₀ cells₀ w g cells at n used i h = let e : from.left - (i + 1) ≡ from.left - i - 1 = omega arith in rw e h

pub stretch_over : (b t code : List ℕ) (y : Ground) (from : Spot) (w₀ g₀ cells₀ w g cells : List ℕ) (at n used i : ℕ) → from.left ≤ i
    → Stretched b t code y from w₀ g₀ cells₀ w g cells (record { at = at; operands = n; used = used; left = from.left - i })
    → Stretched b t code y from w₀ g₀ cells₀ w g cells (record { at = at; operands = n; used = used; left = 0 })
stretch_over b t code y from w₀ g₀ cells₀ w g cells at n used i l h = let e : 0 ≡ from.left - i = omega arith in rw e h

-- an instruction that did nothing
pub kept_stop : (r : Turn) (A : Type 0) → ((o : Onward) → r ≡ Ok o → ⊥) → OnErr r A → A
kept_stop (Ok o) A h k = absurd (h o refl)
kept_stop (Err i) A h k = k

pub stretch_stop : (b t code : List ℕ) (y : Ground) (from : Spot) (w₀ g₀ cells₀ w g cells w' g' cells' : List ℕ) (q : Spot) → Stretched b t code y from w₀ g₀ cells₀ w g cells q
    → (w' ≡ w) × (g' ≡ g) × (cells' ≡ cells) → Stretched b t code y from w₀ g₀ cells₀ w' g' cells' q
stretch_stop b t code y from w₀ g₀ cells₀ w g cells w' g' cells' q h e = rw (e.0, e.1, e.2) h

pub fit_next : (code cells w g cells' w' g' : List ℕ) (y : Ground) (n n' : ℕ) → Fit code cells w g y n → length cells' ≡ length cells → length w' ≡ length w → length g' ≡ length g → n' ≤ 32
    → Fit code cells' w' g' y n'
fit_next code cells w g cells' w' g' y n n' h lc lw lg l = record {
  words = lw ∙ h.words;
  tags = lg ∙ h.tags;
  operands = l;
  most = h.most;
  locals = h.locals;
  size = omega (arith, lc, h.size);
  short = h.short;
}
