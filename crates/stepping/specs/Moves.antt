-- What a part of a step answers, held against what the definition says in the context that the step has. Assumes nothing.
use Rattle.std.specs.Prelude.{Option as Found, Some, None, Result as Answer, Ok, Err, IfOk, IfErr, OnErr, ok_or, ℕ, ◌+◌, ◌≤◌, ◌≡◌, refl, List, [], length}
use Rattle.std.proofs.Common.{sym, ap, subst, ◌∙◌, arith}
use Rattle.classfiles.specs.Limits.{max_heap}
use Rattle.rules.specs.Instruction.{Instr, athrow}
use Rattle.rules.specs.Sites.{front}
use Rattle.verifier.specs.Besides.{Besides, besides_none, besides_front}
use Rattle.shaping.specs.Phases.{program_now}
use Rattle.plain.specs.Heap.{heap, Val, to_cell}
use Rattle.plain.specs.Machine.{stuck, returned, Result, next, ended, stopped, Here}
use Rattle.plain.specs.Step.{execute}
use Rattle.plain.specs.Run.{result}
use Rattle.plain.specs.ValueLaws.{value_of}
use Rattle.plain.specs.Windows.{locs_of, ops_of, halt_of}
use Rattle.plain.specs.Calls.{window_at, waiting}
use Rattle.plain.specs.CallSteps.{Runs}
use Rattle.plain.specs.declared.frames.Frame.{Frame}
use Rattle.plain.specs.CallSteps.{Going}
use Rattle.plain.specs.declared.values.Value.{Value}
use Rattle.plain.specs.declared.calls.Running.{Running}
use Rattle.plain.specs.declared.window.Halt.{Halt}
use Rattle.plain.specs.declared.window.Halt.TheVariants.{Fault, HeapFull, DepthFull, Stuck}
use Rattle.running.specs.Standing.{records, machine_of, Standing}
use Rattle.running.specs.Dispatching.{Dispatch, dispatch_kept}
use Rattle.running.specs.Calling.{CalledBy}
use Rattle.running.specs.Leaving.{given_of, Leaves}
use Rattle.running.specs.Throwing.{Move, moved_of, if_stopped, kept_by, unreturned, ending, Faults}
use Rattle.running.specs.Athrow.{Athrows}
use Rattle.running.specs.declared.leaving.Left.{Left}
use Rattle.running.specs.declared.leaving.Left.TheVariants.{Back, Out}
use Rattle.running.specs.declared.ends.Moved.{Moved}
use Rattle.running.specs.declared.ends.End.{End}
use Rattle.running.specs.declared.ends.End.TheVariants.{Returned, Uncaught, HeapFull as NoRoom, DepthFull as NoDepth, Stuck as NoWay}
use Rattle.stepping.specs.Stepping.{valued}

-- ---- the context of the call k at depth d, whose instruction has z bytes
abbrev pub here_of : List ℕ → List ℕ → List ℕ → List ℕ → ℕ → ℕ → Frame → ℕ → Here
here_of t s g cells used d k z = record {
  heap = heap cells used;
  class = k.class;
  index = k.method;
  offset = k.offset;
  after = k.offset + z;
  self = k.own;
  locals = locs_of (window_at s d) (window_at g d) k.locals;
  waiting = waiting t records s g d;
}

abbrev pub executed : List ℕ → ℕ → List ℕ → List ℕ → List ℕ → List ℕ → ℕ → ℕ → Frame → ℕ → Instr → Result
executed b n t s g cells used d k z I = execute (program_now b n t) (here_of t s g cells used d k z) (ops_of (window_at s d) (window_at g d) k.operands) I

pub here_runs : (t s g cells : List ℕ) (used d : ℕ) (k : Frame) (z : ℕ) → Runs (here_of t s g cells used d k z) t s g records d k
here_runs t s g cells used d k z = record { class = refl; index = refl; offset = refl; self = refl; locals = refl; waiting = refl }

-- ---- what a part of a step does: its answer stands for R
pub record Does (b : List ℕ) (n : ℕ) (t s g cells : List ℕ) (d : ℕ) (k : Frame) (used : ℕ) (t' s' g' cells' : List ℕ) (r : Move) (R : Result) : Type 0 where
  pub results : List Val
  pub value : IfErr r (λ e. valued results e.end)
  pub is : moved_of results cells' t' s' g' r ≡ R
  pub stands : IfOk r (λ o. Standing b n t' s' g' o.depth o.call)
  pub dispatch : Dispatch b n t → Dispatch b n t'
  pub front : front t' ≡ front t
  pub kept : kept_by (cells' ≡ cells) used r

-- an end that is neither a return nor an uncaught object
abbrev pub stop_of : Halt → End
stop_of HeapFull = NoRoom
stop_of DepthFull = NoDepth
stop_of (Fault c) = NoWay
stop_of Stuck = NoWay

pub record Stops (h : Halt) (used : ℕ) (m : Move) : Type 0 where
  pub is : m ≡ Err (ending (stop_of h) used)

module _ (h : Halt) (used : ℕ) (m : Move) where
  pub stops_heap : h ≡ HeapFull → m ≡ Err (ending NoRoom used) → Stops h used m
  stops_heap e q = rw e (record { is = q })

  pub stops_depth : h ≡ DepthFull → m ≡ Err (ending NoDepth used) → Stops h used m
  stops_depth e q = rw e (record { is = q })

  pub stops_stuck : (h ≡ HeapFull → ⊥) → (h ≡ DepthFull → ⊥) → m ≡ Err (ending NoWay used) → Stops h used m
  stops_stuck e f q = record { is = q ∙ sym (ap (λ (E : End). Err (ending E used)) (go h e f)) }
    where
      go : (h : Halt) → (h ≡ HeapFull → ⊥) → (h ≡ DepthFull → ⊥) → stop_of h ≡ NoWay
      go HeapFull e f = absurd (e refl)
      go DepthFull e f = absurd (f refl)
      go (Fault c) e f = refl
      go Stuck e f = refl

module _ (b : List ℕ) (n : ℕ) (t s g cells : List ℕ) (d : ℕ) (k : Frame) (used : ℕ) (R : Result) where
  pub does_on : (t' s' g' cells' : List ℕ) (m : Moved) → next (machine_of cells' m.used t' s' g' m.depth m.call) ≡ R
      → Standing b n t' s' g' m.depth m.call → Besides records 384 t t' → Does b n t s g cells d k used t' s' g' cells' (Ok m) R
  does_on t' s' g' cells' m i h z = record {
    results = [];
    value = tt;
    is = i;
    stands = h;
    dispatch = λ y. dispatch_kept b n t t' z y;
    front = besides_front records 384 t t' z (omega arith);
    kept = tt;
  }

  pub does_stuck : stopped stuck ≡ R → Does b n t s g cells d k used t s g cells (Err (ending NoWay used)) R
  does_stuck i = record { results = []; value = tt; is = i; stands = tt; dispatch = λ y. y; front = refl; kept = (refl, refl) }

  pub does_returned : (s' g' : List ℕ) (v : ℕ) (rs : List Val) → result rs ≡ v → ended (returned rs) (heap cells used) ≡ R
      → Does b n t s g cells d k used t s' g' cells (Err (ending (Returned v) used)) R
  does_returned s' g' v rs e i = record { results = rs; value = e; is = i; stands = tt; dispatch = λ y. y; front = refl; kept = tt }

  -- what throws
  pub does_thrown : (s' g' cells' : List ℕ) (m : Move) → moved_of [] cells' t s' g' m ≡ R → kept_by ((cells' ≡ cells) × (s' ≡ s) × (g' ≡ g)) used m → IfErr m (λ e. unreturned e.end)
      → IfOk m (λ o. Standing b n t s' g' o.depth o.call) → Does b n t s g cells d k used t s' g' cells' m R
  does_thrown s' g' cells' (Ok m) i q u h = record { results = []; value = tt; is = i; stands = h; dispatch = λ y. y; front = refl; kept = tt }
  does_thrown s' g' cells' (Err m) i q u h = record { results = []; value = value m.end u; is = i; stands = tt; dispatch = λ y. y; front = refl; kept = kept m.end q }
    where
      value : (E : End) → unreturned E → valued [] E
      value (Returned v) w = absurd w
      value (Uncaught c) w = tt
      value NoRoom w = tt
      value NoDepth w = tt
      value NoWay w = tt

      kept : (E : End) → if_stopped (((cells' ≡ cells) × (s' ≡ s) × (g' ≡ g)) × (m.used ≡ used)) E → if_stopped ((cells' ≡ cells) × (m.used ≡ used)) E
      kept (Returned v) w = tt
      kept (Uncaught c) w = tt
      kept NoRoom w = (w.0.0, w.1)
      kept NoDepth w = (w.0.0, w.1)
      kept NoWay w = (w.0.0, w.1)

-- where nothing has changed
pub does_kept : (b : List ℕ) (n : ℕ) (t s g cells : List ℕ) (d : ℕ) (k : Frame) (used : ℕ) (R : Result) (t' s' g' cells' : List ℕ) (m : Move)
    → t' ≡ t → s' ≡ s → g' ≡ g → cells' ≡ cells → Does b n t s g cells d k used t s g cells m R → Does b n t s g cells d k used t' s' g' cells' m R
does_kept b n t s g cells d k used R t' s' g' cells' m et es eg ec h = rw (et, es, eg, ec) h

-- ---- thrown objects
pub athrown_by : (b : List ℕ) (n : ℕ) (t s g cells s' g' cells' : List ℕ) (d : ℕ) (k : Frame) (used : ℕ) (m : Move) (z : ℕ) → Athrows b n t cells s g cells' s' g' d k used m
    → Does b n t s g cells d k used t s' g' cells' m (executed b n t s g cells used d k z athrow)
athrown_by b n t s g cells s' g' cells' d k used m z h =
    does_thrown b n t s g cells d k used _ s' g' cells' m (h.is (here_of t s g cells used d k z) (here_runs t s g cells used d k z) refl) h.kept h.never h.on

-- ---- returns
abbrev pub cell_of : Found Value → ℕ
cell_of None = 0
cell_of (Some v) = to_cell (value_of v.tag v.cell)

abbrev pub given_by : ℕ → Answer Left Halt → Move
given_by used (Ok (Back r)) = Ok (record { depth = r.depth; call = r.call; used = used })
given_by used (Ok (Out v)) = Err (ending (Returned (cell_of v)) used)
given_by used (Err h) = Err (ending (stop_of h) used)

pub record Given (used : ℕ) (r : Answer Left Halt) (m : Move) : Type 0 where
  pub is : m ≡ given_by used r

pub given_on : (used : ℕ) (r : Answer Left Halt) (o : Running) (m : Move) → r ≡ Ok (Back o) → m ≡ Ok (record { depth = o.depth; call = o.call; used = used }) → Given used r m
given_on used r o m e q = rw e (record { is = q })

pub given_out : (used : ℕ) (r : Answer Left Halt) (v : Found Value) (m : Move) → r ≡ Ok (Out v) → m ≡ Err (ending (Returned (cell_of v)) used) → Given used r m
given_out used r v m e q = rw e (record { is = q })

pub given_stop : (used : ℕ) (r : Answer Left Halt) (h : Halt) (m : Move) → r ≡ Err h → Stops h used m → Given used r m
given_stop used r h m e z = rw e (record { is = z.is })

value_given : (v : Found Value) → result (given_of v) ≡ cell_of v
value_given None = refl
value_given (Some v) = refl

pub given_does : (b : List ℕ) (n : ℕ) (t s g cells s' g' : List ℕ) (d : ℕ) (k : Frame) (used z : ℕ) (r : Found Left) (m : Move) (what : Here → Result)
    → Leaves b n t s g cells s' g' d k r what → Given used (ok_or r Stuck) m → Does b n t s g cells d k used t s' g' cells m (what (here_of t s g cells used d k z))
given_does b n t s g cells s' g' d k used z r m what h y = rw y.is (go r h)
  where
    go : (r : Found Left) → Leaves b n t s g cells s' g' d k r what → Does b n t s g cells d k used t s' g' cells (given_by used (ok_or r Stuck)) (what (here_of t s g cells used d k z))
    go None l =
        let i : stopped stuck ≡ what (here_of t s g cells used d k z) = l.is (here_of t s g cells used d k z) used (here_runs t s g cells used d k z) refl in
        rw (l.stands.0, l.stands.1) (does_stuck b n t s g cells d k used _ i)
    go (Some (Back o)) l = does_on b n t s g cells d k used _ t s' g' cells _ (l.is (here_of t s g cells used d k z) used (here_runs t s g cells used d k z) refl) l.stands (besides_none records 384 t)
    go (Some (Out v)) l = does_returned b n t s g cells d k used _ s' g' (cell_of v) (given_of v) (value_given v) (l.is (here_of t s g cells used d k z) used (here_runs t s g cells used d k z) refl)

-- ---- an answer that goes on, or a halt
abbrev pub after_by : List ℕ → ℕ → List ℕ → List ℕ → List ℕ → List ℕ → List ℕ → List ℕ → List ℕ → ℕ → Frame → ℕ → Move → Answer Move Halt → Type 0
after_by b n t s g cells s' g' cells' d k used m (Ok o) = (m ≡ o) × (s' ≡ s) × (g' ≡ g) × (cells' ≡ cells)
after_by b n t s g cells s' g' cells' d k used m (Err h) = Faults b n t cells s g cells' s' g' d k used h m

pub record After (b : List ℕ) (n : ℕ) (t s g cells s' g' cells' : List ℕ) (d : ℕ) (k : Frame) (used : ℕ) (r : Answer Move Halt) (m : Move) : Type 0 where
  pub by : after_by b n t s g cells s' g' cells' d k used m r

pub after_on : (b : List ℕ) (n : ℕ) (t s g cells : List ℕ) (d : ℕ) (k : Frame) (used : ℕ) (r : Answer Move Halt) (o m : Move) → r ≡ Ok o → m ≡ o → After b n t s g cells s g cells d k used r m
after_on b n t s g cells d k used r o m e q = rw e (record { by = (q, refl, refl, refl) })

pub after_halt : (b : List ℕ) (n : ℕ) (t s g cells s' g' cells' : List ℕ) (d : ℕ) (k : Frame) (used : ℕ) (r : Answer Move Halt) (h : Halt) (m : Move) → r ≡ Err h → Faults b n t cells s g cells' s' g' d k used h m
    → After b n t s g cells s' g' cells' d k used r m
after_halt b n t s g cells s' g' cells' d k used r h m e f = rw e (record { by = f })

-- what it asks for: where it does not go on, the run stands
pub record Lands (b : List ℕ) (n : ℕ) (t s g cells : List ℕ) (d : ℕ) (k : Frame) (r : Answer Move Halt) : Type 0 where
  pub stands : OnErr r (Standing b n t s g d k)
  pub size : length cells ≤ max_heap

pub lands_halt : (b : List ℕ) (n : ℕ) (t s g cells : List ℕ) (d : ℕ) (k : Frame) (r : Answer Move Halt) (h : Halt) → r ≡ Err h → Lands b n t s g cells d k r → Standing b n t s g d k × (length cells ≤ max_heap)
lands_halt b n t s g cells d k r h e z = let w : Lands b n t s g cells d k (Err h) = rw e at z in (w.stands, w.size)

-- a halt where nothing has changed
pub halted_does : (b : List ℕ) (n : ℕ) (t s g cells : List ℕ) (d : ℕ) (k : Frame) (used z : ℕ) (h : Halt) (R : Result) → halt_of (program_now b n t) (here_of t s g cells used d k z) h ≡ R
    → (t₁ s₁ g₁ cells₁ s' g' cells' : List ℕ) (m : Move) → t₁ ≡ t → s₁ ≡ s → g₁ ≡ g → cells₁ ≡ cells → Faults b n t₁ cells₁ s₁ g₁ cells' s' g' d k used h m
    → Does b n t s g cells d k used t₁ s' g' cells' m R
halted_does b n t s g cells d k used z h R i t₁ s₁ g₁ cells₁ s' g' cells' m et es eg ec f =
    let F : Faults b n t cells s g cells' s' g' d k used h m = subst (λ (u : List ℕ). Faults b n u cells s g cells' s' g' d k used h m) et
    (subst (λ (u : List ℕ). Faults b n t₁ u s g cells' s' g' d k used h m) ec
    (subst (λ (u : List ℕ). Faults b n t₁ cells₁ u g cells' s' g' d k used h m) es
    (subst (λ (u : List ℕ). Faults b n t₁ cells₁ s₁ u cells' s' g' d k used h m) eg f))) in
    subst (λ (u : List ℕ). Does b n t s g cells d k used u s' g' cells' m R) (sym et)
    (does_thrown b n t s g cells d k used R s' g' cells' m (F.is (here_of t s g cells used d k z) (here_runs t s g cells used d k z) refl ∙ i) F.kept F.never F.on)

-- ---- calls
abbrev pub going_on : ℕ → Going → Answer Move Halt
going_on used (Ok r) = Ok (Ok (record { depth = r.depth; call = r.call; used = used }))
going_on used (Err h) = Err h

module _ {F : Halt → Type 0} (b : List ℕ) (n : ℕ) (t s g cells t' s₁ g₁ cells₁ s' g' cells' : List ℕ) (d : ℕ) (k : Frame) (used : ℕ) (m : Move) (what : Here → Result) where
  called_goes : (r : Going) → CalledBy F b n t s g cells t' s₁ g₁ cells₁ d k r what → After b n t' s₁ g₁ cells₁ s' g' cells' d k used (going_on used r) m
      → Does b n t s g cells d k used t' s' g' cells' m (what (here_of t s g cells used d k 3))
  called_goes (Ok r) h y =
      rw (y.by.0, y.by.1, y.by.2, y.by.3) (does_on b n t s g cells d k used _ t' s₁ g₁ cells₁ _ (h.is (here_of t s g cells used d k 3) used (record { runs = here_runs t s g cells used d k 3; heap = refl; after = refl })) h.stands h.besides)
  called_goes (Err i) h y =
      halted_does b n t s g cells d k used 3 i _ (h.is (here_of t s g cells used d k 3) used (record { runs = here_runs t s g cells used d k 3; heap = refl; after = refl })) t' s₁ g₁ cells₁ s' g' cells' m h.kept.0 h.kept.1 h.kept.2 h.kept.3 y.by

  pub called_does : (r : Going) → CalledBy F b n t s g cells t' s₁ g₁ cells₁ d k r what → (o : Answer Move Halt) → o ≡ going_on used r
      → After b n t' s₁ g₁ cells₁ s' g' cells' d k used o m → Does b n t s g cells d k used t' s' g' cells' m (what (here_of t s g cells used d k 3))
  called_does r h o e y = called_goes r h (subst (λ (u : Answer Move Halt). After b n t' s₁ g₁ cells₁ s' g' cells' d k used u m) e y)

pub called_lands : {F : Halt → Type 0} (b : List ℕ) (n : ℕ) (t s g cells t' s₁ g₁ cells₁ : List ℕ) (d : ℕ) (k : Frame) (used : ℕ) (r : Going) (what : Here → Result) (o : Answer Move Halt) → o ≡ going_on used r → CalledBy F b n t s g cells t' s₁ g₁ cells₁ d k r what
    → Standing b n t s g d k → length cells ≤ max_heap → length cells₁ ≡ length cells → Lands b n t' s₁ g₁ cells₁ d k o
called_lands {F = F} b n t s g cells t' s₁ g₁ cells₁ d k used r what o e h z l q = rw e (go r h)
  where
    go : (r : Going) → CalledBy F b n t s g cells t' s₁ g₁ cells₁ d k r what → Lands b n t' s₁ g₁ cells₁ d k (going_on used r)
    go (Ok r) y = record { stands = tt; size = omega (arith, l, q) }
    go (Err i) y = record { stands = rw (y.kept.0, y.kept.1, y.kept.2) z; size = omega (arith, l, q) }
