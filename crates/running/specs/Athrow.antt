-- athrow: what is thrown, and where it lands. Assumes nothing.
use Rattle.std.specs.Prelude.{[], Result as Answer, Ok, Err, IfOk, IfErr, ℕ, suc, ◌+◌, ◌*◌, ◌-◌, ◌<◌, ◌≤◌, ◌≡◌, refl, Bool, true, false, cond, not, List, eqb, leb, length, get_or}
use Rattle.std.proofs.Common.{sym, ◌∙◌, arith, le-leb, eq-eqb, ne_eqb, ap}
use Rattle.std.proofs.lemmas.Bool.{lt-leb}
use Rattle.kit.specs.Lists.{get_d_part}
use Rattle.reader.specs.BuiltIns.{first_class, throwable, null_pointer}
use Rattle.classfiles.specs.Descriptors.{cls, dref}
use Rattle.reader.specs.Program.{Program}
use Rattle.reader.specs.Lookup.{class-count}
use Rattle.rules.specs.Instruction.{athrow}
use Rattle.rules.specs.Ancestry.{lineage, Parents}
use Rattle.rules.specs.Sites.{front}
use Rattle.shaping.specs.Phases.{program_now}
use Rattle.plain.specs.Heap.{heap, Val, cell, to_cell, refers_to, value_fits}
use Rattle.plain.specs.Machine.{Result, Here, only, throw, fault, receiver}
use Rattle.plain.specs.Step.{execute}
use Rattle.plain.specs.ValueLaws.{value_of}
use Rattle.plain.specs.Objects.{null_or, receiver_by, fits_here}
use Rattle.plain.specs.Turns.{untrue, holds_so}
use Rattle.plain.specs.Windows.{val_at, ops_of}
use Rattle.plain.specs.WindowForms.{any_by}
use Rattle.plain.specs.Calls.{window_at}
use Rattle.plain.specs.CallSteps.{Runs}
use Rattle.plain.specs.declared.frames.Frame.{Frame}
use Rattle.running.specs.Standing.{records, Standing, few_operands}
use Rattle.plain.specs.Windows.{halt_of}
use Rattle.plain.specs.declared.window.Halt.{Halt}
use Rattle.plain.specs.declared.window.Halt.TheVariants.{Fault, Stuck}
use Rattle.running.specs.Throwing.{Move, moved_of, if_stopped, kept_by, unreturned, null_only, Faults, Throws}
use Rattle.running.specs.declared.ends.End.{End}
use Rattle.running.specs.declared.ends.End.TheVariants.{Returned, Uncaught, HeapFull as NoRoom, DepthFull as NoDepth, Stuck as NoWay}
use Rattle.running.specs.declared.athrow.Thrown.{Thrown}

-- ---- what is thrown: an object of a class, or a fault of null, or nothing
abbrev pub thrown_of : Program → Here → Answer Thrown Halt → Result
thrown_of P x (Ok r) = throw P x r.object r.class
thrown_of P x (Err h) = halt_of P x h

-- what the check answers is what athrow comes to
pub record ChecksBy (F : Halt → Type 0) (n : ℕ) (t cells s g : List ℕ) (d : ℕ) (k : Frame) (r : Answer Thrown Halt) : Type 0 where
  pub is : (P : Program) (x : Here) (used : ℕ) → Parents P (front t) 25728 (first_class + n) → x.heap ≡ heap cells used
      → thrown_of P x r ≡ execute P x (ops_of (window_at s d) (window_at g d) k.operands) athrow
  -- what F asks of its halt
  pub one : IfErr r F

-- its only fault is that of null
abbrev pub Checks : ℕ → List ℕ → List ℕ → List ℕ → List ℕ → ℕ → Frame → Answer Thrown Halt → Type 0
Checks n t cells s g d k r = ChecksBy null_only n t cells s g d k r

module _ (n : ℕ) (t cells s g : List ℕ) (d : ℕ) (k : Frame) where
  abbrev L : Program
  L = lineage (front t) 25728 (first_class + n)

  abbrev top : Val
  top = val_at (window_at s d) (window_at g d) (31 + k.operands)

  athrow_by : (P : Program) (x : Here) (used : ℕ) → Parents P (front t) 25728 (first_class + n) → x.heap ≡ heap cells used
      → execute P x (ops_of (window_at s d) (window_at g d) k.operands) athrow
      ≡ only (leb 1 k.operands) (only (refers_to L (heap cells 0) (cls throwable) top) (null_or top (fault P x null_pointer) (λ a. throw P x (suc a) (get_or cells a 0))))
  unfolding execute
  athrow_by P x used p e =
      any_by (window_at s d) (window_at g d) k.operands (λ v r. receiver P x (cls throwable) v λ a. throw P x (suc a) (cell x.heap a))
      ∙ ap (only (leb 1 k.operands)) (receiver_by P x (cls throwable) top (λ a. throw P x (suc a) (cell x.heap a)) ∙ rw (fits, e))
    where
      fits : value_fits P x.heap (dref (cls throwable)) top ≡ refers_to L (heap cells 0) (cls throwable) top
      fits = rw e (sym (fits_here cells used (value_fits L (heap cells 0) (dref (cls throwable)) top) P (front t) 25728 (first_class + n) p (dref (cls throwable)) top refl))

  pub thrown_none : k.operands < 1 → Checks n t cells s g d k (Err Stuck)
  thrown_none h = record { is = λ P x used p e. (sym (athrow_by P x used p e ∙ rw (lt-leb 1 k.operands h))); one = tt }

  module _ (h : 1 ≤ k.operands) (m : k.operands ≤ 32) where
    -- the top operand where the code finds it
    abbrev found : Val
    found = value_of (get_or g (64 * d + 31 + k.operands) 0) (get_or s (64 * d + 31 + k.operands) 0)

    top_found : top ≡ found
    top_found =
        let i : 64 * d + (31 + k.operands) ≡ 64 * d + 31 + k.operands = omega arith in
        rw (get_d_part (64 * d) 64 g (31 + k.operands) 0 (omega arith), get_d_part (64 * d) 64 s (31 + k.operands) 0 (omega arith), i)

    found-by : (P : Program) (x : Here) (used : ℕ) → Parents P (front t) 25728 (first_class + n) → x.heap ≡ heap cells used
        → execute P x (ops_of (window_at s d) (window_at g d) k.operands) athrow
        ≡ only (refers_to L (heap cells 0) (cls throwable) found) (null_or found (fault P x null_pointer) (λ a. throw P x (suc a) (get_or cells a 0)))
    found-by P x used p e =
        athrow_by P x used p e ∙ rw (le-leb 1 k.operands h)
        (ap (λ (v : Val). only (refers_to L (heap cells 0) (cls throwable) v) (null_or v (fault P x null_pointer) (λ a. throw P x (suc a) (get_or cells a 0)))) top_found)

    module _ (q : Bool) (eq : q ≡ refers_to L (heap cells 0) (cls throwable) found) where
      pub thrown_unfit : not q ≡ true → Checks n t cells s g d k (Err Stuck)
      thrown_unfit f = record { is = λ P x used p e. (sym (found-by P x used p e ∙ ap (λ (b : Bool). only b (null_or found (fault P x null_pointer) (λ a. throw P x (suc a) (get_or cells a 0)))) (untrue q _ f eq))); one = tt }

      module _ (f : not q ≡ false) (j : ℕ) (ej : j ≡ to_cell found) where
        fits_by : (P : Program) (x : Here) (used : ℕ) → Parents P (front t) 25728 (first_class + n) → x.heap ≡ heap cells used
            → execute P x (ops_of (window_at s d) (window_at g d) k.operands) athrow
            ≡ cond (eqb j 0) (fault P x null_pointer) (throw P x (suc (j - 1)) (get_or cells (j - 1) 0))
        fits_by P x used p e =
            found-by P x used p e
            ∙ ap (λ (b : Bool). only b (null_or found (fault P x null_pointer) (λ a. throw P x (suc a) (get_or cells a 0)))) (holds_so q _ f eq)
            ∙ ap (λ (i : ℕ). cond (eqb i 0) (fault P x null_pointer) (throw P x (suc (i - 1)) (get_or cells (i - 1) 0))) (sym ej)

        pub thrown_null : j ≡ 0 → Checks n t cells s g d k (Err (Fault null_pointer))
        thrown_null o = record { is = λ P x used p e. (sym (fits_by P x used p e ∙ rw (eq-eqb j 0 o))); one = refl }

        pub thrown_object : (c : ℕ) → (j ≡ 0 → ⊥) → c ≡ get_or cells (j - 1) 0 → Checks n t cells s g d k (Ok (record { object = j; class = c }))
        thrown_object c o y =
            let i : suc (j - 1) ≡ j = omega (arith, o) in
            record { is = λ P x used p e. rw y (sym (fits_by P x used p e ∙ rw (ne_eqb j 0 o, i))); one = tt }

-- ---- and lands
pub record Athrows (b : List ℕ) (n : ℕ) (t cells s g cells' s' g' : List ℕ) (d : ℕ) (k : Frame) (used : ℕ) (r : Move) : Type 0 where
  pub is : (x : Here) → Runs x t s g records d k → x.heap ≡ heap cells used
      → moved_of [] cells' t s' g' r ≡ execute (program_now b n t) x (ops_of (window_at s d) (window_at g d) k.operands) athrow
  pub kept : kept_by ((cells' ≡ cells) × (s' ≡ s) × (g' ≡ g)) used r
  pub never : IfErr r (λ e. unreturned e.end)
  pub on : IfOk r (λ o. Standing b n t s' g' o.depth o.call)
  pub size : length cells' ≡ length cells

-- the heap is as it was where an object is thrown
thrown-kept : (cells s g s' g' : List ℕ) (used : ℕ) (r : Move) → kept_by ((s' ≡ s) × (g' ≡ g)) used r → kept_by ((cells ≡ cells) × (s' ≡ s) × (g' ≡ g)) used r
thrown-kept cells s g s' g' used (Ok m) k = tt
thrown-kept cells s g s' g' used (Err e) k = go e.end k
  where
    go : (E : End) → if_stopped (((s' ≡ s) × (g' ≡ g)) × (e.used ≡ used)) E → if_stopped (((cells ≡ cells) × (s' ≡ s) × (g' ≡ g)) × (e.used ≡ used)) E
    go (Returned v) k = tt
    go (Uncaught c) k = tt
    go NoRoom k = ((refl, k.0.0, k.0.1), k.1)
    go NoDepth k = ((refl, k.0.0, k.0.1), k.1)
    go NoWay k = ((refl, k.0.0, k.0.1), k.1)

pub athrow-asked : (b : List ℕ) (n : ℕ) (t s g : List ℕ) (d : ℕ) (k : Frame) → Standing b n t s g d k
    → (187008 ≤ length t) × (n ≤ 16) × (d < 64) × (length s ≡ 4096) × (length g ≡ 4096) × (k.operands ≤ 32)
athrow-asked b n t s g d k h = (omega (arith, h.ready.long), h.ready.prepared.tables.most, h.depth, h.lent.words, h.lent.tags, few_operands b n t s g d k h)

module _ (b : List ℕ) (n : ℕ) (t cells s g : List ℕ) (d : ℕ) (k : Frame) (used : ℕ) (h : Standing b n t s g d k) where
  parents : Parents (program_now b n t) (front t) 25728 (first_class + n)
  parents = record { count = sym (class-count b n (front t) h.ready.prepared.tables.most); parent = λ c y. h.ready.prepared.tables.parents.at c y }

  pub athrow_throws : {F : Halt → Type 0} (v : Thrown) → ChecksBy F n t cells s g d k (Ok v) → (s' g' : List ℕ) (r : Move) → Throws b n t s g s' g' d k used v.object v.class r → Athrows b n t cells s g cells s' g' d k used r
  athrow_throws v z s' g' r y = record {
    is = λ x u e. y.is cells x u e ∙ z.is (program_now b n t) x used parents e;
    kept = thrown-kept cells s g s' g' used r y.kept;
    never = y.never;
    on = y.on;
    size = refl;
  }

  pub athrow_halts : {F : Halt → Type 0} (v : Halt) → ChecksBy F n t cells s g d k (Err v) → (cells' s' g' : List ℕ) (r : Move) → Faults b n t cells s g cells' s' g' d k used v r → Athrows b n t cells s g cells' s' g' d k used r
  athrow_halts v z cells' s' g' r y = record {
    is = λ x u e. y.is x u e ∙ z.is (program_now b n t) x used parents e;
    kept = y.kept;
    never = y.never;
    on = y.on;
    size = y.size;
  }
