-- The instruction that the running call stands at, and a step by it. Assumes nothing.
use Rattle.std.specs.Prelude.{Err, ℕ, ◌+◌, ◌-◌, ◌<◌, ◌≤◌, ◌≡◌, Bool, false, cond, not, length}
use Rattle.std.proofs.Common.{sym, subst, ◌∙◌, arith, refl, ap, true, List, lt-ltb, le-ltb, ltb}
use borrow.Author.Tests.{not-true}
use Rattle.kit.specs.Bools.{not_so}
use Rattle.kit.specs.Lists.{length_part}
use Rattle.classfiles.specs.Limits.{max_heap}
use Rattle.reader.specs.BuiltIns.{first_class}
use Rattle.texts.specs.Reading.{part}
use Rattle.reader.specs.Program.{Program, Method, is_constructor}
use Rattle.rules.specs.Instruction.{invokevirtual}
use Rattle.rules.specs.InstructionWords.{instr_of, branch_of, callee_of, call_of}
use Rattle.rules.specs.Opcodes.{code_of, size_at, instruction}
use Rattle.rules.specs.Decoding.{DecodedAt}
use Rattle.rules.specs.Sites.{front, site_code, program_at, method_at}
use Rattle.shaping.specs.SiteLaws.{code_is, site_instruction}
use Rattle.shaping.specs.Located.{Located}
use Rattle.shaping.specs.Kept.{here_by}
use Rattle.shaping.specs.Passing.{codes_one, judged_pass}
use Rattle.shaping.specs.Phases.{program_now, shape_by}
use Rattle.rules.specs.declared.site.Site.{Site}
use Rattle.rules.specs.declared.instruction.Instr as code
use Rattle.rules.specs.declared.instruction.Instr.TheVariants.{Simple, Jump, OnLocal, OnStack, Leaving, New, Calling, Illegal, Unresolved}
use Rattle.rules.specs.declared.instruction.Branch.{Branch}
use Rattle.rules.specs.declared.instruction.Branch.TheVariants.{Goto, Ifint, Ificmp, Ifacmp, Ifnull}
use Rattle.rules.specs.declared.instruction.Call.{Call}
use Rattle.rules.specs.declared.instruction.Call.TheVariants.{Virtual, Special, Static}
use Rattle.rules.specs.declared.instruction.Callee.{Callee}
use Rattle.plain.specs.Machine.{stopped, stuck}
use Rattle.plain.specs.Step.{execute, step}
use Rattle.plain.specs.declared.frames.Frame.{Frame}
use Rattle.running.specs.Standing.{machine_of, method_by, Standing}
use Rattle.running.specs.Dispatching.{Dispatch}
use Rattle.running.specs.Calling.{Calling as AtSite, StaticCall}
use Rattle.running.specs.Receiving.{InitCall}
use Rattle.running.specs.Virtual.{VirtualCall}
use Rattle.running.specs.Sending.{CallReady}
use Rattle.running.specs.CallSites.{static_at, init-at, virtual_at}
use Rattle.stepping.specs.Callable.{Callable}
use Rattle.stepping.specs.JumpSites.{LowOf, low_at}
use Rattle.running.specs.Throwing.{Move, ending}
use Rattle.running.specs.declared.ends.End.TheVariants.{Stuck as NoWay}
use Rattle.stepping.specs.Stepping.{Stepped}
use Rattle.stepping.specs.Turning.{Stays}
use Rattle.stepping.specs.Moves.{executed, Does, does_stuck}
use Rattle.stepping.specs.Windowed.{Before}

-- what the parts of a step ask for beside what stands before the instruction
abbrev pub Ready : List ℕ → List ℕ → List ℕ → List ℕ → Site → ℕ → Frame → ℕ → code.Instr → Type 0
Ready b t s g x d k z (Simple i) = Unit {0}
Ready b t s g x d k z (Jump i) = Stays (branch_of i)
Ready b t s g x d k z (OnLocal i) = Unit {0}
Ready b t s g x d k z (OnStack i) = Unit {0}
Ready b t s g x d k z (Leaving i) = Unit {0}
Ready b t s g x d k z (New c) = Unit {0}
Ready b t s g x d k z (Calling i) = (z ≡ 3) × CallReady b t s g x d k i
Ready b t s g x d k z Illegal = Unit {0}
Ready b t s g x d k z Unresolved = Unit {0}

-- the running method's site is of the run's classes
module _ (b : List ℕ) (n : ℕ) (t s g : List ℕ) (d : ℕ) (k : Frame) (x : Site) (l : Located b n (k.class - 11) k.method x (front t)) where
  pub at_standing : Standing b n t s g d k → Standing b x.classes t s g d k
  at_standing h = subst (λ (m : ℕ). Standing b m t s g d k) (sym l.classes) h

  pub at_located : Located b x.classes (k.class - 11) k.method x (front t)
  at_located = record { sited = l.sited; bounded = l.bounded; classes = refl; class = l.class; method = l.method }

  pub at_dispatch : Dispatch b n t → Dispatch b x.classes t
  at_dispatch h = subst (λ (m : ℕ). Dispatch b m t) (sym l.classes) h

  pub at_callable : Callable b n t → Callable b x.classes t
  at_callable h = subst (λ (m : ℕ). Callable b m t) (sym l.classes) h

  -- so is what the step answers
  pub stepped : (cells : List ℕ) (used : ℕ) (t' s' g' cells' : List ℕ) (m : Move) → Dispatch b n t
      → Does b x.classes t s g cells d k used t' s' g' cells' m (step (program_now b x.classes t) (machine_of cells used t s g d k))
      → Stepped b n t s g cells d k used t' s' g' cells' m
  stepped cells used t' s' g' cells' m y q =
      let w : Does b n t s g cells d k used t' s' g' cells' m (step (program_now b n t) (machine_of cells used t s g d k)) =
      subst (λ (i : ℕ). Does b i t s g cells d k used t' s' g' cells' m (step (program_now b i t) (machine_of cells used t s g d k))) l.classes q in
      record {
        results = w.results;
        value = w.value;
        is = w.is;
        stands = w.stands;
        dispatch = w.dispatch y;
        front = w.front;
        kept = w.kept;
      }

module _ (b t s g : List ℕ) (d : ℕ) (k : Frame) (x : Site) (h : Standing b x.classes t s g d k) (l : Located b x.classes (k.class - 11) k.method x (front t)) where
  abbrev P : Program
  P = program_now b x.classes t

  abbrev M : Method
  M = method_by b x.classes (front t) k.class k.method

  pub same-method : method_at b (front t) x ≡ M
  unfolding program_at
  same-method =
      let z : first_class + (k.class - 11) ≡ k.class = omega (arith, h.running.of.low) in
      ap (λ (i : ℕ). method_by b x.classes (front t) (first_class + i) x.method) l.class
      ∙ ap (λ (i : ℕ). method_by b x.classes (front t) i x.method) z ∙ ap (λ (i : ℕ). method_by b x.classes (front t) k.class i) l.method

  pub one : x.codes ≡ 1
  one =
      let w = h.running.of in
      codes_one b t x.classes (k.class - 11) k.method x l
      (judged_pass shape_by b x.classes t h.ready h.shaped (k.class - 11) k.method (omega (arith, w.low, w.high)) w.row)

  pub code_here : code_of M ≡ site_code b x
  code_here = ap code_of (sym same-method) ∙ code_is b (front t) (program_at b (front t) x) (method_at b (front t) x) x l.sited one

  pub instruction_here : (i : code.Instr) → DecodedAt b t x.class (site_code b x) k.offset i → instr_of i ≡ instruction P M k.offset
  unfolding program_at
  instruction_here i e =
      site_instruction b t t x (here_by b t x.classes (k.class - 11) k.method x l) one refl k.offset i e
      ∙ ap (λ (N : Method). instruction P N k.offset) same-method

  code_small : length (site_code b x) ≤ 4096
  unfolding part
  code_small = omega (arith, length_part x.start (x.end - x.start) b (omega (arith, l.bounded.from, l.bounded.to)), l.bounded.size)

  -- past the code
  pub step_past : (cells : List ℕ) (used : ℕ) → length (site_code b x) ≤ k.offset
      → Does b x.classes t s g cells d k used t s g cells (Err (ending NoWay used)) (step P (machine_of cells used t s g d k))
  unfolding step
  step_past cells used o =
      does_stuck b x.classes t s g cells d k used _ (sym (rw (code_here, le-ltb k.offset (length (site_code b x)) o)))

  module _ (z : ℕ) (i : code.Instr) (o : k.offset < length (site_code b x)) (ez : z ≡ size_at (site_code b x) k.offset) (lz : z < 4) (e : DecodedAt b t x.class (site_code b x) k.offset i) where
    size_here : size_at (code_of M) k.offset ≡ z
    size_here = ap (λ (c : List ℕ). size_at c k.offset) code_here ∙ sym ez

    pub before_here : (cells : List ℕ) → length cells ≤ max_heap → Before b t s g cells x d k z
    before_here cells q = record { standing = h; located = l; after = omega (arith, o, lz, code_small); size = q }

    at_site : size_at (code_of M) k.offset ≡ 3 → AtSite b t s g x d k
    at_site q = record { standing = h; located = l; call = record { size = q; behind = omega (arith, o, code_small) } }

    -- what a step says
    step_is : (cells : List ℕ) (used : ℕ) → executed b x.classes t s g cells used d k z (instr_of i) ≡ step P (machine_of cells used t s g d k)
    unfolding step
    step_is cells used =
        let q : ltb k.offset (length (code_of M)) ≡ true = ap (λ (c : List ℕ). ltb k.offset (length c)) code_here ∙ lt-ltb k.offset (length (site_code b x)) o in
        rw (q, size_here, ← instruction_here i e)

    pub step_by_lem : (cells : List ℕ) (used : ℕ) (t' s' g' cells' : List ℕ) (m : Move)
        → Does b x.classes t s g cells d k used t' s' g' cells' m (executed b x.classes t s g cells used d k z (instr_of i))
        → Does b x.classes t s g cells d k used t' s' g' cells' m (step P (machine_of cells used t s g d k))
    step_by_lem cells used t' s' g' cells' m y = subst (Does b x.classes t s g cells d k used t' s' g' cells' m) (step_is cells used) y

    -- what is known of a branch and of a call
    low_branch : (j : Branch) → LowOf P z (branch_of j) → Stays (branch_of j)
    low_branch (Goto v) y = y
    low_branch (Ifint f v) y = y
    low_branch (Ificmp f v) y = y
    low_branch (Ifacmp f v) y = y
    low_branch (Ifnull f v) y = y

    pub jump_ready : (j : Branch) → i ≡ Jump j → Stays (branch_of j)
    jump_ready j q =
        low_branch j (subst (λ (u : ℕ). LowOf P u (branch_of j)) size_here
        (subst (LowOf P (size_at (code_of M) k.offset)) (sym (instruction_here i e) ∙ ap instr_of q) (low_at P M k.offset)))

    abbrev called : Callee → Method
    called m = method_by b x.classes (front t) m.owner m.index

    static_so : (c v : Bool) → cond c false v ≡ true → v ≡ true
    static_so true v y = absurd (not_so y)
    static_so false v y = y

    pub static-ready : (m : Callee) → i ≡ Calling (Static m) → (z ≡ 3) × StaticCall b t s g x d k m
    static-ready m q =
        let y = static_at P M k.offset (callee_of m) (sym (instruction_here i e) ∙ ap instr_of q) in
        (sym size_here ∙ y.0, record { at = at_site y.0; static = static_so (is_constructor (called m)) (called m).static y.1 })

    pub init-ready : (m : Callee) → Callable b x.classes t → i ≡ Calling (Special m) → (z ≡ 3) × InitCall b t s g x d k m
    init-ready m w q =
        let y = init-at P M k.offset (callee_of m) (sym (instruction_here i e) ∙ ap instr_of q) in
        (sym size_here ∙ y.0, record { at = at_site y.0; init = y.1; bound = w.bound m.owner m.index y.1 })

    plain_so : (c v : Bool) → cond c false v ≡ true → c ≡ false
    plain_so true v y = absurd (not_so y)
    plain_so false v y = refl

    pub virtual_ready : (m : Callee) → Callable b x.classes t → Dispatch b x.classes t → i ≡ Calling (Virtual m) → (z ≡ 3) × VirtualCall b t s g x d k m
    virtual_ready m w v q =
        let r : instruction P M k.offset ≡ invokevirtual (callee_of m) = sym (instruction_here i e) ∙ ap instr_of q in
        let y = virtual_at P M k.offset (callee_of m) r in (
          sym size_here ∙ y.0,
          record {
            at = at_site y.0;
            of = w.of k.class k.method k.offset (callee_of m) r;
            plain = plain_so (is_constructor (called m)) (not (called m).static) y.1;
            bound = not-true (called m).static (static_so (is_constructor (called m)) (not (called m).static) y.1);
            reach = λ c a. w.reach k.class k.method k.offset (callee_of m) r c a;
            over = λ f c j a u. w.over k.class k.method k.offset (callee_of m) r f c j a u;
            table = v;
          },
        )

    call-ready : (j : Call) → Callable b x.classes t → Dispatch b x.classes t → i ≡ Calling j → (z ≡ 3) × CallReady b t s g x d k j
    call-ready (Virtual m) w v q = virtual_ready m w v q
    call-ready (Special m) w v q = init-ready m w q
    call-ready (Static m) w v q = static-ready m q

    pub ready_here : Callable b x.classes t → Dispatch b x.classes t → Ready b t s g x d k z i
    ready_here w v = go i refl
      where
        go : (j : code.Instr) → i ≡ j → Ready b t s g x d k z j
        go (Simple j) q = tt
        go (Jump j) q = jump_ready j q
        go (OnLocal j) q = tt
        go (OnStack j) q = tt
        go (Leaving j) q = tt
        go (New c) q = tt
        go (Calling j) q = call-ready j w v q
        go Illegal q = tt
        go Unresolved q = tt

-- ---- the step whole, of the run's n classes, by the site of its method
module _ (b : List ℕ) (n : ℕ) (t s g cells : List ℕ) (d : ℕ) (k : Frame) (x : Site) (h : Standing b n t s g d k) (l : Located b n (k.class - 11) k.method x (front t)) where
  abbrev here : Standing b x.classes t s g d k
  here = at_standing b n t s g d k x l h

  abbrev there : Located b x.classes (k.class - 11) k.method x (front t)
  there = at_located b n t s g d k x l

  pub past_stepped : (used : ℕ) → Dispatch b n t → length (site_code b x) ≤ k.offset → Stepped b n t s g cells d k used t s g cells (Err (ending NoWay used))
  past_stepped used v o = stepped b n t s g d k x l cells used t s g cells _ v (step_past b t s g d k x here there cells used o)

  module _ (z : ℕ) (i : code.Instr) (o : k.offset < length (site_code b x)) (ez : z ≡ size_at (site_code b x) k.offset) (lz : z < 4) (e : DecodedAt b t x.class (site_code b x) k.offset i) where
    pub one_asked : Dispatch b n t → length cells ≤ max_heap → Callable b n t → Before b t s g cells x d k z × Ready b t s g x d k z i
    one_asked v q w =
        (before_here b t s g d k x here there z i o ez lz e cells q, ready_here b t s g d k x here there z i o ez lz e (at_callable b n t s g d k x l w) (at_dispatch b n t s g d k x l v))

    pub one_stepped : (used : ℕ) (t' s' g' cells' : List ℕ) (m : Move) → Dispatch b n t
        → Does b x.classes t s g cells d k used t' s' g' cells' m (executed b x.classes t s g cells used d k z (instr_of i))
        → Stepped b n t s g cells d k used t' s' g' cells' m
    one_stepped used t' s' g' cells' m v y = stepped b n t s g d k x l cells used t' s' g' cells' m v (step_by_lem b t s g d k x here there z i o ez lz e cells used t' s' g' cells' m y)

-- ---- by the variant that the code has before it
module _ (b t s g cells : List ℕ) (x : Site) (d : ℕ) (k : Frame) (used z : ℕ) (i : code.Instr) (t' s' g' cells' : List ℕ) (m : Move) where
  pub instr_arm : (j : code.Instr) → i ≡ j → Does b x.classes t s g cells d k used t' s' g' cells' m (executed b x.classes t s g cells used d k z (instr_of j))
      → Does b x.classes t s g cells d k used t' s' g' cells' m (executed b x.classes t s g cells used d k z (instr_of i))
  instr_arm j e y = subst (λ (u : code.Instr). Does b x.classes t s g cells d k used t' s' g' cells' m (executed b x.classes t s g cells used d k z (instr_of u))) (sym e) y

  pub call_arm : (j : Call) → i ≡ Calling j → z ≡ 3 → Does b x.classes t s g cells d k used t' s' g' cells' m (executed b x.classes t s g cells used d k 3 (call_of j))
      → Does b x.classes t s g cells d k used t' s' g' cells' m (executed b x.classes t s g cells used d k z (instr_of i))
  call_arm j e q y =
      instr_arm (Calling j) e (subst (λ (u : ℕ). Does b x.classes t s g cells d k used t' s' g' cells' m (executed b x.classes t s g cells used d k u (call_of j))) (sym q) y)

pub stuck_arm : (b t s g cells : List ℕ) (x : Site) (d : ℕ) (k : Frame) (used z : ℕ) (i j : code.Instr) → i ≡ j → executed b x.classes t s g cells used d k z (instr_of j) ≡ stopped stuck
    → Does b x.classes t s g cells d k used t s g cells (Err (ending NoWay used)) (executed b x.classes t s g cells used d k z (instr_of i))
stuck_arm b t s g cells x d k used z i j e q = instr_arm b t s g cells x d k used z i t s g cells _ j e (does_stuck b x.classes t s g cells d k used _ (sym q))

pub illegal-stuck : (b t s g cells : List ℕ) (x : Site) (d : ℕ) (k : Frame) (used z : ℕ) → executed b x.classes t s g cells used d k z (instr_of Illegal) ≡ stopped stuck
unfolding execute
illegal-stuck b t s g cells x d k used z = refl

pub unresolved-stuck : (b t s g cells : List ℕ) (x : Site) (d : ℕ) (k : Frame) (used z : ℕ) → executed b x.classes t s g cells used d k z (instr_of Unresolved) ≡ stopped stuck
unfolding execute
unresolved-stuck b t s g cells x d k used z = refl

-- what is ready, by that variant
module _ (b t s g : List ℕ) (x : Site) (d : ℕ) (k : Frame) (z : ℕ) (i : code.Instr) (h : Ready b t s g x d k z i) where
  pub ready_jump : (j : Branch) → i ≡ Jump j → Stays (branch_of j)
  ready_jump j e = subst (Ready b t s g x d k z) e h

  pub ready_call : (j : Call) → i ≡ Calling j → (z ≡ 3) × CallReady b t s g x d k j
  ready_call j e = subst (Ready b t s g x d k z) e h
