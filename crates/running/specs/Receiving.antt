-- Calls with a receiver: what stands below the arguments, and a constructor's call. Assumes nothing.
use Rattle.std.specs.Prelude.{Ok, Err, ◌≡◌, Bool, true, false, cond, not, ◌⊎◌, eqb, leb, ltb, length, get_or, set}
use Rattle.std.proofs.Common.{sym, ◌∙◌, inl, inr, add-suc, ℕ, zero, suc, ◌+◌, ◌-◌, ◌<◌, ◌≤◌, refl, ap, List, [], ◌∷◌, reverse, arith, le-leb, lt-ltb, le-ltb}
use borrow.Author.Tests.{not-true, not-false}
use Rattle.std.proofs.Math.ListN.{get_or-eq_default}
use Rattle.kit.specs.Bools.{not_so}
use Rattle.kit.specs.Lists.{eq_list}
use Rattle.kit.specs.Pick.{side}
use Rattle.reader.specs.BuiltIns.{first_class}
use Rattle.classfiles.specs.Descriptors.{Ref, cls, Desc}
use Rattle.reader.specs.Program.{Program, Class, Method, no_method, built_in_method, class, method, program_of, is_constructor}
use Rattle.texts.specs.Names.{is_init}
use Rattle.reader.specs.Linked.{files_in}
use Rattle.reader.specs.Lookup.{class_past, built_in_class}
use Rattle.reader.specs.MemberRows.{block_at, row_count}
use Rattle.reader.specs.MemberAt.{methods-count}
use Rattle.reader.specs.TypeCodes.{results_in, result_at, types_of, desc_of}
use Rattle.rules.specs.Ancestry.{lineage}
use Rattle.rules.specs.InstructionWords.{callee_of}
use Rattle.rules.specs.Opcodes.{body}
use Rattle.rules.specs.Sites.{front}
use Rattle.verifier.specs.Besides.{besides_none}
use Rattle.shaping.specs.Phases.{program_now}
use Rattle.plain.specs.Heap.{Heap, heap, Val, empty, num, ref, to_cell, mark_ready, store}
use Rattle.plain.specs.Machine.{stuck, Result, next, stopped, Here, only, pop_any, pop_arguments, resumed, go_on, enter}
use Rattle.plain.specs.Step.{with_unready, construct, call_init}
use Rattle.plain.specs.ValueLaws.{value_of}
use Rattle.plain.specs.Objects.{unmade, unready_by, unmade_here}
use Rattle.plain.specs.Windows.{val_at, locs_from, ops_of, length_ops}
use Rattle.plain.specs.Calls.{window_at}
use Rattle.plain.specs.CallSteps.{Going, going_of}
use Rattle.rules.specs.declared.site.Site.{Site}
use Rattle.rules.specs.declared.instruction.Callee.{Callee}
use Rattle.plain.specs.declared.frames.Frame.{Frame}
use Rattle.plain.specs.declared.window.Halt.TheVariants.{Stuck}
use Rattle.plain.specs.declared.values.Value.{Value}
use Rattle.running.specs.declared.entering.Way.{Way}
use Rattle.running.specs.Standing.{records, Row, method_by, passed, standing-turn}
use Rattle.running.specs.Popping.{Taking, Pops, kin_of}
use Rattle.running.specs.Entering.{Enterable, Into}
use Rattle.running.specs.Calling.{At, Called, called-stuck, called_into, Calling, entry_at, entry_small, params_are, results_are, parents_of, args_fit}

-- ---- the receiver, below the arguments
pub args_below : (w g : List ℕ) (l n : ℕ) → val_at w g (32 + l) ∷ locs_from w g (32 + suc l) n ≡ locs_from w g (32 + l) (suc n)
unfolding locs_from
args_below w g l n = rw (add-suc 32 l)

-- popped with an operand left, or none
module _ (P : Program) (H : Heap) (ds : List Desc) (vs : List Val) (w g : List ℕ) (p : Taking) (K : List Val → Val → List Val → Result)
    (z : (k : List Val → List Val → Result) → pop_arguments P H ds [] vs k ≡ only p.ok (k (locs_from w g (32 + p.left) p.count) (ops_of w g p.left))) where
  abbrev taken : Result
  taken = pop_arguments P H ds [] vs (λ args r. pop_any r (λ v r'. K args v r'))

  pub taken_unfit : p.ok ≡ false → taken ≡ stopped stuck
  taken_unfit e = z _ ∙ rw e

  pub taken_none : p.ok ≡ true → p.left ≡ 0 → taken ≡ stopped stuck
  unfolding ops_of
  taken_none e o = z _ ∙ rw (e, o)

  pub taken_one : p.ok ≡ true → (l : ℕ) → p.left ≡ suc l → taken ≡ K (locs_from w g (32 + suc l) p.count) (val_at w g (32 + l)) (ops_of w g l)
  unfolding ops_of
  taken_one e l o = z _ ∙ rw (e, o)

-- ---- an unready object
pub made-ref : (P : Program) (H : Heap) (u : Ref) (t c : ℕ) → unmade P H u (value_of t c) ≡ true → (value_of t c ≡ ref c) × (suc (c - 1) ≡ c)
unfolding value_of
made-ref P H u t c e = go (eqb t 1) (eqb t 2) e
  where
    some : (c : ℕ) → unmade P H u (ref c) ≡ true → suc (c - 1) ≡ c
    some zero e = absurd (not_so e)
    some (suc c) e = omega arith

    go : (a b : Bool) → unmade P H u (cond a (num c) (cond b (ref c) empty)) ≡ true → (cond a (num c) (cond b (ref c) empty) ≡ ref c) × (suc (c - 1) ≡ c)
    go true b e = absurd (not_so e)
    go false true e = (refl, some c e)
    go false false e = absurd (not_so e)

-- ---- constructors
no-method : (b : List ℕ) (n : ℕ) (f : List ℕ) → n ≤ 16 → (c : ℕ) → c < n → (j : ℕ) → row_count (block_at f c) true ≤ j → method_by b n f (first_class + c) j ≡ no_method
no-method b n f m c h j l =
    get_or-eq_default (class (program_of (files_in b n f)) (first_class + c)).methods no_method (omega (arith, methods-count b n f m c h, l))

no_init : is_constructor no_method ≡ false
unfolding is_init eq_list
no_init = refl

pub init-row : (b : List ℕ) (n : ℕ) (f : List ℕ) → n ≤ 16 → (c j : ℕ) → is_constructor (method_by b n f c j) ≡ true → 11 ≤ c → Row n f c j
init-row b n f m c j e l = go (side c (11 + n))
  where
    z : first_class + (c - 11) ≡ c
    z = omega arith

    rows : c < 11 + n → (j < row_count (block_at f (c - 11)) true) ⊎ (row_count (block_at f (c - 11)) true ≤ j) → Row n f c j
    rows h (inl y) = record { low = l; high = h; row = y }
    rows h (inr y) =
        absurd (not_so (sym no_init ∙ sym (ap (λ (M : Method). is_constructor M) (no-method b n f m (c - 11) (omega arith) j y)) ∙ ap (λ (i : ℕ). is_constructor (method_by b n f i j)) z ∙ e))

    go : (c < 11 + n) ⊎ (11 + n ≤ c) → Row n f c j
    go (inl h) = rows h (side j (row_count (block_at f (c - 11)) true))
    go (inr h) = absurd (not_so (sym no_init ∙ sym (ap (λ (C : Class). is_constructor (get_or C.methods j no_method)) (class_past b n f m c h)) ∙ e))

-- what a call of `<init>` names: a constructor, which is not static
pub record InitCall (b t s g : List ℕ) (x : Site) (d : ℕ) (k : Frame) (m : Callee) : Type 0 where
  pub at : Calling b t s g x d k
  pub init : is_constructor (method_by b x.classes (front t) m.owner m.index) ≡ true
  pub bound : (method_by b x.classes (front t) m.owner m.index).static ≡ false

abbrev pub init_by : List ℕ → List ℕ → List ℕ → List ℕ → Site → ℕ → Frame → Callee → Here → Result
init_by b t s g x d k m y = call_init (program_now b x.classes t) y (callee_of m) (ops_of (window_at s d) (window_at g d) k.operands)

module _ (b t s g : List ℕ) (x : Site) (d : ℕ) (k : Frame) (m : Callee) (h : InitCall b t s g x d k m) (cells : List ℕ) (p : Taking) where
  abbrev n : ℕ
  n = x.classes

  abbrev P : Program
  P = program_now b n t

  abbrev N : Method
  N = method_by b n (front t) m.owner m.index

  abbrev W : List ℕ
  W = window_at s d

  abbrev G : List ℕ
  G = window_at g d

  abbrev what : Here → Result
  what = init_by b t s g x d k m

  -- the arguments that were popped are this method's
  abbrev pub Taken : Type 0
  Taken = (used : ℕ) (K : List Val → List Val → Result)
      → pop_arguments P (heap cells used) (reverse N.params) [] (ops_of W G k.operands) K ≡ only p.ok (K (locs_from W G (32 + p.left) p.count) (ops_of W G p.left))

  module _ (z : Taken) where
    by : (y : Here) (used : ℕ) → y.heap ≡ heap cells used
        → what y ≡ pop_arguments P (heap cells used) (reverse N.params) [] (ops_of W G k.operands) (λ args r. pop_any r (λ v r'. with_unready P (heap cells used) m.named v (λ a. construct P y (callee_of m) a args r')))
    unfolding call_init
    by y used e = rw e

    pub init_unfit : p.ok ≡ false → Called b n t s g cells t s g cells d k (Err Stuck) what
    init_unfit e = called-stuck b n t s g cells d k what (λ y used a. by y used a.heap ∙ taken_unfit P (heap cells used) _ _ W G p _ (z used) e)

    module _ (e : p.ok ≡ true) where
      pub init_none : p.left ≡ 0 → Called b n t s g cells t s g cells d k (Err Stuck) what
      init_none o = called-stuck b n t s g cells d k what (λ y used a. by y used a.heap ∙ taken_none P (heap cells used) _ _ W G p _ (z used) e o)

      module _ (o : p.left ≡ 0 → ⊥) (v : Value) (ev : value_of v.tag v.cell ≡ val_at W G (32 + (p.left - 1))) (q : Bool)
          (eq : q ≡ unmade (lineage (front t) 25728 (11 + n)) (heap cells 0) (cls m.named) (value_of v.tag v.cell)) where
        abbrev given : Val
        given = value_of v.tag v.cell

        one : p.left ≡ suc (p.left - 1)
        one = omega arith

        init_is : (y : Here) (used : ℕ) → At t s g cells used d k y
            → what y ≡ only q (construct P y (callee_of m) (to_cell given - 1) (locs_from W G (32 + suc (p.left - 1)) p.count) (ops_of W G (p.left - 1)))
        init_is y used a =
            by y used a.heap ∙ taken_one P (heap cells used) _ _ W G p _ (z used) e (p.left - 1) one
            ∙ rw (← ev, unmade_here cells used q P (front t) 25728 (11 + n) (parents_of b n t h.at.standing.ready) (cls m.named) given eq)
            (unready_by P (heap cells used) m.named given _)

        pub init-made : not q ≡ true → Called b n t s g cells t s g cells d k (Err Stuck) what
        init-made f = called-stuck b n t s g cells d k what (λ y used a. init_is y used a ∙ rw (not-true q f))

        module _ (f : not q ≡ false) where
          is-ref : (given ≡ ref v.cell) × (suc (v.cell - 1) ≡ v.cell)
          is-ref = made-ref (lineage (front t) 25728 (11 + n)) (heap cells 0) (cls m.named) v.tag v.cell (sym eq ∙ not-false q f)

          pub init_some : 1 ≤ v.cell
          init_some = let w = is-ref.1 in omega arith

          -- of the bundle
          module _ (l : 11 ≤ m.owner) where
            of : Row n (front t) m.owner m.index
            of = init-row b n (front t) h.at.standing.ready.prepared.tables.most m.owner m.index h.init l

            abbrev way : Way
            way = record { class = m.owner; method = m.index; own = v.cell; left = p.left - 1; count = p.count + 1 }

            pub init_enterable : p.count ≡ length N.params → p.left + p.count ≡ k.operands → length N.results ≤ 1 → Enterable b n t s g d k way
            init_enterable c w r = record {
              standing = h.at.standing;
              call = h.at.call;
              of = of;
              args = omega (arith, args_fit N false (passed b n t h.at.standing.ready h.at.standing.shaped m.owner m.index of) h.bound, c);
              operands = omega arith;
              room = omega (arith, h.at.standing.running.operands, r, w);
            }

            pub init_into : (t' s' g' : List ℕ) (r : Going) → Into b n t s g t' s' g' d k way r → Called b n t s g cells t' s' g' cells d k r what
            unfolding construct
            init_into t' s' g' r w =
                called_into b n t s g cells d k what t' s' g' way r w
                (λ y used a. init_is y used a ∙ rw (not-false q f, le-ltb m.owner 11 l) (entered y))
              where
                args : ref v.cell ∷ locs_from W G (32 + suc (p.left - 1)) p.count ≡ locs_from W G (32 + (p.left - 1)) (p.count + 1)
                args =
                    let i : p.count + 1 ≡ suc p.count = omega arith in
                    rw (i, ← is-ref.0, ev) (args_below W G (p.left - 1) p.count)

                entered : (y : Here) → enter P y m.owner m.index (suc (to_cell given - 1)) (ref (suc (to_cell given - 1)) ∷ locs_from W G (32 + suc (p.left - 1)) p.count) (ops_of W G (p.left - 1))
                    ≡ enter P y m.owner m.index v.cell (locs_from W G (32 + (p.left - 1)) (p.count + 1)) (ops_of W G (p.left - 1))
                entered y = rw (is-ref.0, is-ref.1, args)

          -- a built-in one: its object is ready, and there is no call
          module _ (l : m.owner < 11) (w : p.left ≤ k.operands) where
            abbrev after : Frame
            after = record { class = k.class; method = k.method; offset = k.offset + 3; own = k.own; operands = p.left - 1; locals = k.locals }

            pub init-ready : (cells' : List ℕ) → cells' ≡ set cells (v.cell - 1 + 3) 1
                → Called b n t s g cells t s g cells' d k (Ok (record { depth = d; call = after })) what
            unfolding construct go_on mark_ready store
            init-ready cells' i = record {
              is = λ y used a. rw i (sym (init_is y used a ∙ rw (not-false q f, lt-ltb m.owner 11 l) (gone y used a)));
              stands = standing-turn b n t s g s g d k after h.at.standing h.at.standing.lent refl refl refl (omega (arith, w, h.at.standing.running.operands)) h.at.call.behind;
              kept = tt;
              one = tt;
              besides = besides_none records 384 t;
            }
              where
                gone : (y : Here) (used : ℕ) → At t s g cells used d k y
                    → only (leb (length (ops_of W G (p.left - 1))) (body (method P y.class y.index)).max_stack)
                    (next (resumed y (heap (set y.heap.cells (to_cell given - 1 + 3) 1) y.heap.used) y.after y.locals (ops_of W G (p.left - 1))))
                    ≡ going_of P y (heap (set cells (v.cell - 1 + 3) 1) used) t records s g (Ok (record { depth = d; call = after }))
                gone y used a =
                    rw (
                      length_ops W G (p.left - 1),
                      a.runs.class,
                      a.runs.index,
                      le-leb (p.left - 1) (body (method_by b n (front t) k.class k.method)).max_stack (omega (arith, w, h.at.standing.running.operands)),
                      a.heap,
                      a.after,
                      a.runs.self,
                      a.runs.locals,
                      a.runs.waiting,
                      is-ref.0,
                    )

  -- the code's two ways to have them popped
  pub taken_by : Row n (front t) m.owner m.index → Pops (front t) (kin_of n) cells W G (entry_at m.owner m.index) k.operands p → Taken
  taken_by r z used K = rw (params_are b n t h.at.standing.ready m.owner m.index r) (z.is P used (parents_of b n t h.at.standing.ready) K)

  pub taken_built : m.owner < 11 → p ≡ record { ok = true; left = k.operands; count = 0 } → Taken
  unfolding pop_arguments locs_from
  taken_built l e used K = rw (e, bare m.index)
    where
      bare : (j : ℕ) → (method_by b n (front t) m.owner j).params ≡ []
      bare j = ap (λ (ms : List Method). (get_or ms j no_method).params) (built_in_class (files_in b n (front t)) m.owner l).0 ∙ go j
        where
          go : (j : ℕ) → (get_or (built_in_method m.owner ∷ []) j no_method).params ≡ []
          go zero = refl
          go (suc j) = refl

results_few : (f : List ℕ) (e : ℕ) → length (results_in f e) ≤ 1
unfolding results_in result_at
results_few f e = go (ltb (get_or f (types_of e) 0) 32)
  where
    go : (q : Bool) → length (cond q [] (desc_of (get_or f (types_of e + 17) 0) ∷ [])) ≤ 1
    go true = omega arith
    go false = omega arith

-- of a built-in class, which takes no arguments
module _ (b t s g : List ℕ) (x : Site) (d : ℕ) (k : Frame) (m : Callee) (h : InitCall b t s g x d k m) (cells : List ℕ) (l : m.owner < 11) where
  abbrev whole : Taking
  whole = record { ok = true; left = k.operands; count = 0 }

  abbrev say : Here → Result
  say = init_by b t s g x d k m

  had : Taken b t s g x d k m h cells whole
  had = taken_built b t s g x d k m h cells whole l refl

  pub built_none : k.operands ≡ 0 → Called b x.classes t s g cells t s g cells d k (Err Stuck) say
  built_none o = init_none b t s g x d k m h cells whole had refl o

  module _ (o : k.operands ≡ 0 → ⊥) (v : Value) (ev : value_of v.tag v.cell ≡ val_at (window_at s d) (window_at g d) (32 + (k.operands - 1))) (q : Bool)
      (eq : q ≡ unmade (lineage (front t) 25728 (11 + x.classes)) (heap cells 0) (cls m.named) (value_of v.tag v.cell)) where
    pub built_made : not q ≡ true → Called b x.classes t s g cells t s g cells d k (Err Stuck) say
    built_made f = init-made b t s g x d k m h cells whole had refl o v ev q eq f

    pub built_some : not q ≡ false → 1 ≤ v.cell
    built_some f = init_some b t s g x d k m h cells whole had refl o v ev q eq f

    pub built_ready : not q ≡ false → (cells' : List ℕ) → cells' ≡ set cells (v.cell - 1 + 3) 1
        → Called b x.classes t s g cells t s g cells' d k (Ok (record { depth = d; call = record { class = k.class; method = k.method; offset = k.offset + 3; own = k.own; operands = k.operands - 1; locals = k.locals } })) say
    built_ready f cells' i = init-ready b t s g x d k m h cells whole had refl o v ev q eq f l (omega arith) cells' i

-- of a class of the bundle
module _ (b t s g : List ℕ) (x : Site) (d : ℕ) (k : Frame) (m : Callee) (h : InitCall b t s g x d k m) (l : 11 ≤ m.owner) where
  in_rows : Row x.classes (front t) m.owner m.index
  in_rows = init-row b x.classes (front t) h.at.standing.ready.prepared.tables.most m.owner m.index h.init l

  pub own-entry : entry_at m.owner m.index < 1024
  own-entry = entry_small b x.classes t h.at.standing.ready m.owner m.index in_rows

  module _ (cells : List ℕ) (p : Taking) (z : Pops (front t) (kin_of x.classes) cells (window_at s d) (window_at g d) (entry_at m.owner m.index) k.operands p) where
    abbrev tell : Here → Result
    tell = init_by b t s g x d k m

    got : Taken b t s g x d k m h cells p
    got = taken_by b t s g x d k m h cells p in_rows z

    pub own_unfit : p.ok ≡ false → Called b x.classes t s g cells t s g cells d k (Err Stuck) tell
    own_unfit e = init_unfit b t s g x d k m h cells p got e

    module _ (yes : p.ok ≡ true) where
      pub own_none : p.left ≡ 0 → Called b x.classes t s g cells t s g cells d k (Err Stuck) tell
      own_none o = init_none b t s g x d k m h cells p got yes o

      module _ (o : p.left ≡ 0 → ⊥) (v : Value) (ev : value_of v.tag v.cell ≡ val_at (window_at s d) (window_at g d) (32 + (p.left - 1))) (q : Bool)
          (eq : q ≡ unmade (lineage (front t) 25728 (11 + x.classes)) (heap cells 0) (cls m.named) (value_of v.tag v.cell)) where
        pub own_made : not q ≡ true → Called b x.classes t s g cells t s g cells d k (Err Stuck) tell
        own_made f = init-made b t s g x d k m h cells p got yes o v ev q eq f

        module _ (f : not q ≡ false) where
          abbrev path : Way
          path = record { class = m.owner; method = m.index; own = v.cell; left = p.left - 1; count = p.count + 1 }

          pub own_enterable : Enterable b x.classes t s g d k path
          own_enterable =
              init_enterable b t s g x d k m h cells p got yes o v ev q eq f l (z.count ∙ ap length (sym (params_are b x.classes t h.at.standing.ready m.owner m.index in_rows))) (z.all yes)
              (rw (results_are b x.classes t h.at.standing.ready m.owner m.index in_rows) (results_few (front t) (entry_at m.owner m.index)))

          pub own_into : (t' s' g' : List ℕ) (r : Going) → Into b x.classes t s g t' s' g' d k path r → Called b x.classes t s g cells t' s' g' cells d k r tell
          own_into t' s' g' r w = init_into b t s g x d k m h cells p got yes o v ev q eq f l t' s' g' r w
