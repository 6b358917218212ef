-- From a call into another, with all but the records of the calls that wait kept. Assumes nothing.
use Rattle.std.specs.Prelude.{Ok, Err, IfOk, IfErr, OnErr, OnOk, ℕ, ◌+◌, ◌-◌, ◌*◌, ◌<◌, ◌≤◌, ◌≡◌, refl, List, length}
use Rattle.std.proofs.Common.{sym, ◌∙◌, arith}
use Rattle.kit.specs.Words.{word, put_word}
use Rattle.texts.specs.Reading.{u2_at}
use Rattle.classfiles.specs.Blocks.{method_rows}
use Rattle.reader.specs.MemberRows.{block_at}
use Rattle.rules.specs.Opcodes.{body}
use Rattle.rules.specs.Sites.{front}
use Rattle.verifier.specs.Besides.{Besides, besides_none, besides_put}
use Rattle.shaping.specs.Phases.{program_now}
use Rattle.plain.specs.Machine.{Here, enter}
use Rattle.plain.specs.Windows.{ops_of}
use Rattle.plain.specs.Calls.{window_at, Saved}
use Rattle.plain.specs.NextWindow.{Fresh}
use Rattle.plain.specs.CallSteps.{Lent, Runs, Going, going_of, args_at, Enters, enter_full, enter_on}
use Rattle.plain.specs.declared.frames.Frame.{Frame}
use Rattle.plain.specs.declared.calls.Running.{Running}
use Rattle.plain.specs.declared.window.Halt.{Halt}
use Rattle.plain.specs.declared.window.Halt.TheVariants.{DepthFull}
use Rattle.running.specs.declared.entering.Way.{Way}
use Rattle.running.specs.Standing.{records, Row, method_by, AtCall, Standing, Passed, passed, row_small, locals-word, few_operands, standing-enter}

-- ---- six words put
pub besides_six : (t t1 t2 t3 t4 t5 t6 : List ℕ) (d v1 v2 v3 v4 v5 v6 : ℕ) → d < 64
    → t1 ≡ put_word t (records + 6 * d) v1 → t2 ≡ put_word t1 (records + 6 * d + 1) v2 → t3 ≡ put_word t2 (records + 6 * d + 2) v3
    → t4 ≡ put_word t3 (records + 6 * d + 3) v4 → t5 ≡ put_word t4 (records + 6 * d + 4) v5 → t6 ≡ put_word t5 (records + 6 * d + 5) v6 → Besides records 384 t t6
besides_six t t1 t2 t3 t4 t5 t6 d v1 v2 v3 v4 v5 v6 h e1 e2 e3 e4 e5 e6 =
    let z0 : Besides records 384 t t = besides_none records 384 t in
    let z1 : Besides records 384 t t1 = rw e1 (besides_put records 384 (records + 6 * d) v1 t t (omega arith) (omega arith) z0) in
    let z2 : Besides records 384 t t2 = rw e2 (besides_put records 384 (records + 6 * d + 1) v2 t t1 (omega arith) (omega arith) z1) in
    let z3 : Besides records 384 t t3 = rw e3 (besides_put records 384 (records + 6 * d + 2) v3 t t2 (omega arith) (omega arith) z2) in
    let z4 : Besides records 384 t t4 = rw e4 (besides_put records 384 (records + 6 * d + 3) v4 t t3 (omega arith) (omega arith) z3) in
    let z5 : Besides records 384 t t5 = rw e5 (besides_put records 384 (records + 6 * d + 4) v5 t t4 (omega arith) (omega arith) z4) in
    rw e6 (besides_put records 384 (records + 6 * d + 5) v6 t t5 (omega arith) (omega arith) z5)

-- ---- entering
pub record Entered (t s g t' s' g' : List ℕ) (d : ℕ) (k : Frame) (n : ℕ) (into : Frame) (r : Going) : Type 0 where
  pub enters : Enters t s g t' s' g' records d k n into r
  pub besides : Besides records 384 t t'
  pub full : OnOk r (d < 63)
  pub low : IfErr r (λ h. h ≡ DepthFull)

module _ (t s g : List ℕ) (d : ℕ) (k : Frame) (n : ℕ) (into : Frame) where
  pub entered_full : 63 ≤ d → Entered t s g t s g d k n into (Err DepthFull)
  entered_full h = record { enters = enter_full t s g records d k n into h; besides = besides_none records 384 t; full = tt; low = refl }

  pub entered_on : (t' s' g' : List ℕ) → d < 63 → k.operands + n ≤ 32 → into.locals ≤ 32 → into.offset ≡ 0 → into.operands ≡ 0
      → Saved t t' records d k → Besides records 384 t t' → Fresh s s' d k.operands n into.locals → Fresh g g' d k.operands n into.locals
      → Entered t s g t' s' g' d k n into (Ok (record { depth = d + 1; call = into }))
  entered_on t' s' g' h b l o z v y p q =
      record { enters = enter_on t s g records d k n into t' s' g' h b l o z v p q; besides = y; full = h; low = tt }

-- ---- into a method of the bundle
-- what a call brings along: its arguments are above the operands that are left, and there is room for its results
pub record Enterable (b : List ℕ) (n : ℕ) (t s g : List ℕ) (d : ℕ) (k : Frame) (y : Way) : Type 0 where
  pub standing : Standing b n t s g d k
  pub call : AtCall b n (front t) k
  pub of : Row n (front t) y.class y.method
  pub args : y.count ≤ (body (method_by b n (front t) y.class y.method)).max_locals
  pub operands : y.left + y.count ≤ k.operands
  pub room : y.left + length (method_by b n (front t) y.class y.method).results ≤ (body (method_by b n (front t) k.class k.method)).max_stack

pub record Into (b : List ℕ) (n : ℕ) (t s g t' s' g' : List ℕ) (d : ℕ) (k : Frame) (y : Way) (r : Going) : Type 0 where
  pub is : (x : Here) → Runs x t s g records d k
      → going_of (program_now b n t) x x.heap t' records s' g' r ≡ enter (program_now b n t) x y.class y.method y.own (args_at s g d y.left y.count) (ops_of (window_at s d) (window_at g d) y.left)
  pub stands : IfOk r (λ o. Standing b n t' s' g' o.depth o.call)
  pub kept : OnErr r ((t' ≡ t) × (s' ≡ s) × (g' ≡ g))
  -- a call that is entered makes no fault
  pub low : IfErr r (λ h. h ≡ DepthFull)
  pub besides : Besides records 384 t t'

-- the call that waits, and the one that is entered
abbrev pub leaving : Frame → Way → Frame
leaving k y = record { class = k.class; method = k.method; offset = k.offset; own = k.own; operands = y.left; locals = k.locals }

abbrev pub entering : Way → ℕ → Frame
entering y m = record { class = y.class; method = y.method; offset = 0; own = y.own; operands = 0; locals = m }

module _ (b : List ℕ) (n : ℕ) (t s g : List ℕ) (d : ℕ) (k : Frame) (y : Way) (h : Enterable b n t s g d k y) where
  callee : Passed (method_by b n (front t) y.class y.method)
  callee = passed b n t h.standing.ready h.standing.shaped y.class y.method h.of

  pub way_small : (11 ≤ y.class) × (y.class - 11 < 16) × (y.method < 64)
  way_small =
      let z = row_small b n t h.standing.ready h.standing.shaped y.class y.method h.of in
      (h.of.low, z.0, z.1)

  -- max_locals as the code reads it
  pub way_read : (m : ℕ) → m ≡ u2_at b (word (block_at (front t) (y.class - 11)) (method_rows + 6 * y.method + 2) + 2) → m ≡ (body (method_by b n (front t) y.class y.method)).max_locals
  way_read m e = e ∙ locals-word b n t h.standing.ready h.standing.shaped y.class y.method h.of

  pub way_asked : (m : ℕ) → m ≡ (body (method_by b n (front t) y.class y.method)).max_locals → Lent t s g records × (y.left + y.count ≤ 32) × (y.count ≤ m) × (m ≤ 32) × (◌≡◌ {A = ℕ} 0 0) × (◌≡◌ {A = ℕ} 0 0)
  way_asked m e = (h.standing.lent, omega (arith, h.operands, few_operands b n t s g d k h.standing), omega (arith, e, h.args), omega (arith, e, callee.fits.locals), refl, refl)

  pub way_left : y.left ≤ 32
  way_left = omega (arith, h.operands, few_operands b n t s g d k h.standing)

  pub way-locals : (m : ℕ) → m ≡ (body (method_by b n (front t) y.class y.method)).max_locals → m ≤ 32
  way-locals m e = omega (arith, e, callee.fits.locals)

  pub into_by : (t' s' g' : List ℕ) (m : ℕ) (r : Going) → m ≡ (body (method_by b n (front t) y.class y.method)).max_locals
      → Entered t s g t' s' g' d (leaving k y) y.count (entering y m) r → Into b n t s g t' s' g' d k y r
  into_by t' s' g' m r e z = record {
    is = λ x w. z.enters.is (program_now b n t) x
        (record { class = w.class; index = w.index; offset = w.offset; self = w.self; locals = w.locals; waiting = w.waiting })
        (padded (body (method_by b n (front t) y.class y.method)).max_locals h.args ∙ sym e);
    stands = stands r z.enters.on z.full;
    kept = kept r z.enters.kept;
    low = z.low;
    besides = z.besides;
  }
    where
      stands : (r : Going) → ((o : Running) → r ≡ Ok o → (o.depth ≡ d + 1) × (o.call ≡ entering y m) × Saved t t' records d (leaving k y)) → OnOk r (d < 63) → IfOk r (λ o. Standing b n t' s' g' o.depth o.call)
      stands (Err i) on f = tt
      stands (Ok o) on f =
          let p = on o refl in
          rw (p.0, p.1)
          (standing-enter b n t t' s g s' g' d k (leaving k y) (entering y m) h.standing z.besides (z.enters.lent h.standing.lent) p.2 f
          refl refl refl refl (omega (arith, h.operands)) h.call h.room h.of refl refl e)

      kept : (r : Going) → ((i : Halt) → r ≡ Err i → (t' ≡ t) × (s' ≡ s) × (g' ≡ g)) → OnErr r ((t' ≡ t) × (s' ≡ s) × (g' ≡ g))
      kept (Ok o) q = tt
      kept (Err i) q = q i refl

      padded : (x : ℕ) → y.count ≤ x → y.count + (x - y.count) ≡ x
      padded x l = omega arith
