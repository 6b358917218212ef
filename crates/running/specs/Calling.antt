-- What an instruction that calls comes to, by the code's tests in the definition's order. Assumes nothing.
use Rattle.std.specs.Prelude.{Ok, Err, IfOk, IfErr, OnErr, IsErrAnd, ℕ, suc, ◌+◌, ◌-◌, ◌*◌, ◌<◌, ◌≤◌, ◌≡◌, refl, Bool, true, false, cond, ◌⊎◌, leb, length}
use Rattle.std.proofs.Common.{sym, ◌∙◌, inl, inr, arith, le-leb, length-append, ap, List, [], ◌∷◌, reverse}
use Rattle.std.proofs.lemmas.Bool.{lt-leb}
use Rattle.kit.specs.Bools.{not_so}
use Rattle.kit.specs.Pick.{side}
use Rattle.reader.specs.BuiltIns.{first_class}
use Rattle.classfiles.specs.Descriptors.{Desc}
use Rattle.classfiles.specs.Members.{Body}
use Rattle.reader.specs.Program.{Program, Method}
use Rattle.reader.specs.Lookup.{class-count}
use Rattle.reader.specs.MemberRows.{block_at, row_count}
use Rattle.reader.specs.MemberAt.{static_low, static_none, static_past}
use Rattle.reader.specs.TypeCodes.{params_in, results_in}
use Rattle.rules.specs.Ancestry.{Parents}
use Rattle.rules.specs.InstructionWords.{callee_of}
use Rattle.rules.specs.Types.{tys_of}
use Rattle.rules.specs.States.{receiver_tys, parameter_tys}
use Rattle.rules.specs.Opcodes.{body}
use Rattle.rules.specs.Sites.{front, site_body, program_at, method_at}
use Rattle.shaping.specs.SiteLaws.{one_body}
use Rattle.shaping.specs.Located.{Located}
use Rattle.verifier.specs.Besides.{Besides, besides_none}
use Rattle.shaping.specs.Phases.{Readied, program_now, shape_by}
use Rattle.shaping.specs.Passing.{judged_pass, codes_one}
use Rattle.plain.specs.Heap.{Heap, heap, Val}
use Rattle.plain.specs.Machine.{stuck, Result, stopped, Here, only, pop_arguments, result_room, enter}
use Rattle.plain.specs.Step.{call_static}
use Rattle.plain.specs.Windows.{ops_of, halt_of, length_ops}
use Rattle.plain.specs.Calls.{window_at}
use Rattle.plain.specs.CallSteps.{Runs, Going, going_of, args_at}
use Rattle.rules.specs.declared.site.Site.{Site}
use Rattle.rules.specs.declared.instruction.Callee.{Callee}
use Rattle.plain.specs.declared.frames.Frame.{Frame}
use Rattle.plain.specs.declared.window.Halt.{Halt}
use Rattle.plain.specs.declared.window.Halt.TheVariants.{DepthFull, Stuck}
use Rattle.running.specs.declared.entering.Way.{Way}
use Rattle.running.specs.Standing.{records, Row, method_by, AtCall, Standing, Passed, passed, few_operands}
use Rattle.running.specs.Popping.{Taking, Pops, kin_of}
use Rattle.running.specs.Throwing.{null_only}
use Rattle.running.specs.Entering.{Enterable, Into}

-- ---- a context that stands where the code does
pub record At (t s g cells : List ℕ) (used d : ℕ) (k : Frame) (x : Here) : Type 0 where
  pub runs : Runs x t s g records d k
  pub heap : x.heap ≡ heap cells used
  pub after : x.after ≡ k.offset + 3

-- an instruction's outcome is what the definition says in every such context; the invariant stands wherever the run goes on
pub record CalledBy (F : Halt → Type 0) (b : List ℕ) (n : ℕ) (t s g cells t' s' g' cells' : List ℕ) (d : ℕ) (k : Frame) (r : Going) (what : Here → Result) : Type 0 where
  pub is : (x : Here) (used : ℕ) → At t s g cells used d k x → going_of (program_now b n t) x (heap cells' used) t' records s' g' r ≡ what x
  pub stands : IfOk r (λ o. Standing b n t' s' g' o.depth o.call)
  pub kept : OnErr r ((t' ≡ t) × (s' ≡ s) × (g' ≡ g) × (cells' ≡ cells))
  -- what F asks of its halt
  pub one : IfErr r F
  pub besides : Besides records 384 t t'

-- a call's only fault is that of null
abbrev pub Called : List ℕ → ℕ → List ℕ → List ℕ → List ℕ → List ℕ → List ℕ → List ℕ → List ℕ → List ℕ → ℕ → Frame → Going → (Here → Result) → Type 0
Called b n t s g cells t' s' g' cells' d k r what = CalledBy null_only b n t s g cells t' s' g' cells' d k r what

module _ {F : Halt → Type 0} (b : List ℕ) (n : ℕ) (t s g cells : List ℕ) (d : ℕ) (k : Frame) (what : Here → Result) where
  pub called_halts : (h : Halt) → F h → ((x : Here) (used : ℕ) → At t s g cells used d k x → what x ≡ halt_of (program_now b n t) x h) → CalledBy F b n t s g cells t s g cells d k (Err h) what
  called_halts i o h = record {
    is = λ x used a. sym (h x used a);
    stands = tt;
    kept = (refl, refl, refl, refl);
    one = o;
    besides = besides_none records 384 t;
  }

  -- the halt that `?` hands on
  pub called_handed : (r : Going) (h : Halt) → IsErrAnd r (λ z. z ≡ h) → CalledBy F b n t s g cells t s g cells d k (Err h) what → CalledBy F b n t s g cells t s g cells d k r what
  called_handed (Ok z) h p s = absurd p
  called_handed (Err z) h p s = rw p s

module _ (b : List ℕ) (n : ℕ) (t s g cells : List ℕ) (d : ℕ) (k : Frame) (what : Here → Result) where
  pub called-stuck : ((x : Here) (used : ℕ) → At t s g cells used d k x → what x ≡ stopped stuck) → Called b n t s g cells t s g cells d k (Err Stuck) what
  called-stuck h = called_halts b n t s g cells d k what Stuck tt h

  pub called_into : (t' s' g' : List ℕ) (y : Way) (r : Going) → Into b n t s g t' s' g' d k y r
      → ((x : Here) (used : ℕ) → At t s g cells used d k x → what x ≡ enter (program_now b n t) x y.class y.method y.own (args_at s g d y.left y.count) (ops_of (window_at s d) (window_at g d) y.left))
      → Called b n t s g cells t' s' g' cells d k r what
  called_into t' s' g' y r z h = record {
    is = λ x used a. rw (← a.heap) (z.is x a.runs ∙ sym (h x used a));
    stands = z.stands;
    kept = more r z.kept;
    one = deep r z.low;
    besides = z.besides;
  }
    where
      more : (r : Going) → OnErr r ((t' ≡ t) × (s' ≡ s) × (g' ≡ g)) → OnErr r ((t' ≡ t) × (s' ≡ s) × (g' ≡ g) × (cells ≡ cells))
      more (Ok o) q = tt
      more (Err h) q = (q.0, q.1, q.2, refl)

      deep : (r : Going) → IfErr r (λ h. h ≡ DepthFull) → IfErr r null_only
      deep (Ok o) q = tt
      deep (Err h) q = rw q tt

-- ---- what stands before a call: the run, the running method's site, and the instruction that calls
pub record Calling (b t s g : List ℕ) (x : Site) (d : ℕ) (k : Frame) : Type 0 where
  pub standing : Standing b x.classes t s g d k
  pub located : Located b x.classes (k.class - 11) k.method x (front t)
  pub call : AtCall b x.classes (front t) k

-- the number of the entry that keeps a method's types
abbrev pub entry_at : ℕ → ℕ → ℕ
entry_at c j = 64 * (c - 11) + j

module _ (b : List ℕ) (n : ℕ) (t : List ℕ) (h : Readied b n t) (c j : ℕ) (r : Row n (front t) c j) where
  again : first_class + (c - 11) ≡ c
  again = omega (arith, r.low)

  inside : c - 11 < n
  inside = omega (arith, r.low, r.high)

  pub entry_small : entry_at c j < 1024
  entry_small = omega (arith, inside, h.prepared.tables.most, r.row, h.prepared.tables.limited.methods (c - 11) inside)

  pub params_are : (method_by b n (front t) c j).params ≡ params_in (front t) (entry_at c j)
  params_are = ap (λ (i : ℕ). (method_by b n (front t) i j).params) (sym again) ∙ sym (h.prepared.tables.types.params (c - 11) j inside r.row)

  pub results_are : (method_by b n (front t) c j).results ≡ results_in (front t) (entry_at c j)
  results_are = ap (λ (i : ℕ). (method_by b n (front t) i j).results) (sym again) ∙ sym (h.prepared.tables.types.results (c - 11) j inside r.row)

-- the table of parents is the program's
pub parents_of : (b : List ℕ) (n : ℕ) (t : List ℕ) → Readied b n t → Parents (program_now b n t) (front t) 25728 (11 + n)
parents_of b n t h = record { count = sym (class-count b n (front t) h.prepared.tables.most); parent = λ c z. h.prepared.tables.parents.at c z }

length_tys : (ds : List Desc) → length (tys_of ds) ≡ length ds
length_tys [] = refl
length_tys (d ∷ ds) = ap suc (length_tys ds)

count_receivers : (M : Method) (q : Bool) → M.static ≡ q → length (receiver_tys M) ≡ cond q 0 1
count_receivers M true e = rw e
count_receivers M false e = rw e

-- arguments, with a receiver unless it is static, have room among the locals
pub args_fit : (M : Method) (q : Bool) → Passed M → M.static ≡ q → cond q 0 1 + length M.params ≤ (body M).max_locals
args_fit M q p e =
    let a : length (parameter_tys M) ≡ length (receiver_tys M) + length (tys_of M.params) = length-append (receiver_tys M) (tys_of M.params) in
    omega (arith, p.params, a, count_receivers M q e, length_tys M.params)

module _ (b t s g : List ℕ) (x : Site) (d : ℕ) (k : Frame) (h : Calling b t s g x d k) where
  abbrev P : Program
  P = program_now b x.classes t

  abbrev M : Method
  M = method_by b x.classes (front t) k.class k.method

  same-method : method_at b (front t) x ≡ M
  unfolding program_at
  same-method =
      let z : first_class + (k.class - 11) ≡ k.class = omega (arith, h.standing.running.of.low) in
      ap (λ (i : ℕ). method_by b x.classes (front t) (first_class + i) x.method) h.located.class
      ∙ ap (λ (i : ℕ). method_by b x.classes (front t) i x.method) z ∙ ap (λ (i : ℕ). method_by b x.classes (front t) k.class i) h.located.method

  pub stack_is : (body M).max_stack ≡ x.stack
  unfolding site_body
  stack_is =
      let w = h.standing.running.of in
      let o : x.codes ≡ 1 = codes_one b t x.classes (k.class - 11) k.method x h.located
      (judged_pass shape_by b x.classes t h.standing.ready h.standing.shaped (k.class - 11) k.method (omega (arith, w.low, w.high)) w.row) in
      ap (λ (N : Method). (body N).max_stack) (sym same-method)
      ∙ ap (λ (B : Body). B.max_stack) (one_body b (front t) (program_at b (front t) x) (method_at b (front t) x) x h.located.sited o)

  pub room_by : (cells : List ℕ) (used : ℕ) (y : Here) → At t s g cells used d k y → (N : Method) (left : ℕ)
      → result_room P y N (ops_of (window_at s d) (window_at g d) left) ≡ leb (length N.results + left) x.stack
  unfolding result_room
  room_by cells used y a N left = rw (length_ops (window_at s d) (window_at g d) left, a.runs.class, a.runs.index, stack_is)

  -- what popping the arguments of entry e asks for
  pub pop-asked : (e : ℕ) → e < 1024 → (k.operands ≤ 32) × (length s ≡ 4096) × (length g ≡ 4096) × (187008 ≤ length t) × (d < 64) × (x.classes ≤ 16) × (e < 1024)
  pop-asked e l =
      (few_operands b x.classes t s g d k h.standing, h.standing.lent.words, h.standing.lent.tags, omega (arith, h.standing.ready.long), h.standing.depth, h.standing.ready.prepared.tables.most, l)

  -- operand i of the window
  pub operand-asked : (i : ℕ) → i < 32 → (length s ≡ 4096) × (length g ≡ 4096) × (d < 64) × (i < 32)
  operand-asked i l = (h.standing.lent.words, h.standing.lent.tags, h.standing.depth, l)

  pub front-asked : (187008 ≤ length t) × (x.classes ≤ 16)
  front-asked = (omega (arith, h.standing.ready.long), h.standing.ready.prepared.tables.most)

  -- what is left of the operands, and how many were popped
  pub few_left : (p : Taking) (e : ℕ) (cells : List ℕ) → Pops (front t) (kin_of x.classes) cells (window_at s d) (window_at g d) e k.operands p → p.ok ≡ true → p.left + p.count ≤ 32
  few_left p e cells z o = omega (arith, z.all o, few_operands b x.classes t s g d k h.standing)

-- ---- a static method
pub static-row : (b : List ℕ) (n : ℕ) (f : List ℕ) (m : n ≤ 16) (c j : ℕ) → (method_by b n f c j).static ≡ true → Row n f c j
static-row b n f m c j e = go (side c 11)
  where
    in_rows : 11 ≤ c → c < 11 + n → (j < row_count (block_at f (c - 11)) true) ⊎ (row_count (block_at f (c - 11)) true ≤ j) → Row n f c j
    in_rows l h (inl y) = record { low = l; high = h; row = y }
    in_rows l h (inr y) = absurd (not_so (static_past b n f c j m l h (row_count (block_at f (c - 11)) true) refl y ∙ e))

    high : 11 ≤ c → (c < 11 + n) ⊎ (11 + n ≤ c) → Row n f c j
    high l (inl h) = in_rows l h (side j (row_count (block_at f (c - 11)) true))
    high l (inr h) = absurd (not_so (static_none b n f c j m h ∙ e))

    go : (c < 11) ⊎ (11 ≤ c) → Row n f c j
    go (inl h) = absurd (not_so (static_low b n f c j h ∙ e))
    go (inr h) = high h (side c (11 + n))

pub record StaticCall (b t s g : List ℕ) (x : Site) (d : ℕ) (k : Frame) (m : Callee) : Type 0 where
  pub at : Calling b t s g x d k
  pub static : (method_by b x.classes (front t) m.owner m.index).static ≡ true

abbrev pub static_by : List ℕ → List ℕ → List ℕ → List ℕ → Site → ℕ → Frame → Callee → Here → Result
static_by b t s g x d k m y = call_static (program_now b x.classes t) y (callee_of m) (ops_of (window_at s d) (window_at g d) k.operands)

module _ (b t s g : List ℕ) (x : Site) (d : ℕ) (k : Frame) (m : Callee) (h : StaticCall b t s g x d k m) where
  pub static_of : Row x.classes (front t) m.owner m.index
  static_of = static-row b x.classes (front t) h.at.standing.ready.prepared.tables.most m.owner m.index h.static

  pub static_entry : entry_at m.owner m.index < 1024
  static_entry = entry_small b x.classes t h.at.standing.ready m.owner m.index static_of

  module _ (cells : List ℕ) (p : Taking) (z : Pops (front t) (kin_of x.classes) cells (window_at s d) (window_at g d) (entry_at m.owner m.index) k.operands p) where
    abbrev N : Method
    N = method_by b x.classes (front t) m.owner m.index

    -- the way that it goes
    abbrev way : Way
    way = record { class = m.owner; method = m.index; own = 0; left = p.left; count = p.count }

    abbrev enters : Here → Result
    enters y = enter (program_now b x.classes t) y m.owner m.index 0 (args_at s g d p.left p.count) (ops_of (window_at s d) (window_at g d) p.left)

    abbrev onward : Here → List Val → List Val → Result
    onward y args r = only (result_room (program_now b x.classes t) y N r) (enter (program_now b x.classes t) y m.owner m.index 0 args r)

    static_is : (y : Here) (used : ℕ) → At t s g cells used d k y
        → static_by b t s g x d k m y ≡ only p.ok (only (leb (length N.results + p.left) x.stack) (enters y))
    unfolding call_static
    static_is y used a =
        ap (λ (H : Heap). pop_arguments (program_now b x.classes t) H (reverse N.params) [] (ops_of (window_at s d) (window_at g d) k.operands) (onward y)) a.heap
        ∙ ap (λ (ds : List Desc). pop_arguments (program_now b x.classes t) (heap cells used) (reverse ds) [] (ops_of (window_at s d) (window_at g d) k.operands) (onward y)) (params_are b x.classes t h.at.standing.ready m.owner m.index static_of)
        ∙ z.is (program_now b x.classes t) used (parents_of b x.classes t h.at.standing.ready) (onward y)
        ∙ ap (λ (q : Bool). only p.ok (only q (enters y))) (room_by b t s g x d k h.at cells used y a N p.left)

    pub static_unfit : p.ok ≡ false → Called b x.classes t s g cells t s g cells d k (Err Stuck) (static_by b t s g x d k m)
    static_unfit e = called-stuck b x.classes t s g cells d k (static_by b t s g x d k m) (λ y used a. static_is y used a ∙ rw e)

    module _ (v : ℕ) (ev : v ≡ length (results_in (front t) (entry_at m.owner m.index))) where
      results_long : v ≡ length N.results
      results_long = ev ∙ ap length (sym (results_are b x.classes t h.at.standing.ready m.owner m.index static_of))

      pub static_full : p.ok ≡ true → x.stack < v + p.left → Called b x.classes t s g cells t s g cells d k (Err Stuck) (static_by b t s g x d k m)
      static_full e l =
          called-stuck b x.classes t s g cells d k (static_by b t s g x d k m)
          (λ y used a. static_is y used a ∙ rw (e, lt-leb (length N.results + p.left) x.stack (omega (arith, results_long, l))))

      module _ (e : p.ok ≡ true) (l : v + p.left ≤ x.stack) where
        pub static_enterable : Enterable b x.classes t s g d k way
        static_enterable = record {
          standing = h.at.standing;
          call = h.at.call;
          of = static_of;
          args = omega (arith, args_fit N true (passed b x.classes t h.at.standing.ready h.at.standing.shaped m.owner m.index static_of) h.static, z.count, ap length (params_are b x.classes t h.at.standing.ready m.owner m.index static_of));
          operands = omega (arith, z.all e);
          room = omega (arith, results_long, l, stack_is b t s g x d k h.at);
        }

        pub static_into : (t' s' g' : List ℕ) (r : Going) → Into b x.classes t s g t' s' g' d k way r
            → Called b x.classes t s g cells t' s' g' cells d k r (static_by b t s g x d k m)
        static_into t' s' g' r w =
            called_into b x.classes t s g cells d k (static_by b t s g x d k m) t' s' g' way r w
            (λ y used a. static_is y used a ∙ rw (e, le-leb (length N.results + p.left) x.stack (omega (arith, results_long, l))))
