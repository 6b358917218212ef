-- A virtual call, by the code's tests in the definition's order. Assumes nothing.
use Rattle.std.specs.Prelude.{Err, ◌≡◌, refl, Bool, true, false, cond, not, eqb, leb, length, get_or}
use Rattle.std.proofs.Common.{subst, ◌∙◌, ℕ, suc, ◌+◌, ◌-◌, ◌/◌, ◌%◌, ◌<◌, ◌≤◌, sym, ap, List, [], ◌∷◌, reverse, arith, le-leb, eq-eqb, ne_eqb}
use borrow.Author.Tests.{lt-leb, not-true, not-false}
use Rattle.kit.specs.Bools.{not_so}
use Rattle.kit.specs.Words.{word}
use Rattle.reader.specs.BuiltIns.{first_class, null_pointer}
use Rattle.classfiles.specs.Descriptors.{Ref, cls, dref}
use Rattle.reader.specs.Program.{Program, Method, Signature, is_constructor, below, method_sigs, spot, lookup}
use Rattle.reader.specs.TypeCodes.{results_in}
use Rattle.rules.specs.Ancestry.{lineage}
use Rattle.rules.specs.InstructionWords.{callee_of}
use Rattle.rules.specs.Types.{ref_fits}
use Rattle.rules.specs.Opcodes.{body}
use Rattle.rules.specs.Sites.{front}
use Rattle.shaping.specs.Phases.{program_now}
use Rattle.plain.specs.Heap.{Heap, heap, Val, empty, num, ref, ready_at, type_at, refers_to, value_fits}
use Rattle.plain.specs.Machine.{Result, Here, only, pop_any, pop_arguments, result_room, receiver, with_class, fault, enter}
use Rattle.plain.specs.Step.{chosen, call_virtual}
use Rattle.plain.specs.ValueLaws.{value_of}
use Rattle.plain.specs.Objects.{null_or, receiver_by, class_by, fits_here}
use Rattle.plain.specs.Windows.{val_at, locs_from, ops_of}
use Rattle.plain.specs.Calls.{window_at}
use Rattle.plain.specs.CallSteps.{Going, args_at}
use Rattle.rules.specs.declared.site.Site.{Site}
use Rattle.rules.specs.declared.instruction.Callee.{Callee}
use Rattle.plain.specs.declared.frames.Frame.{Frame}
use Rattle.plain.specs.declared.window.Halt.{Halt}
use Rattle.plain.specs.declared.window.Halt.TheVariants.{Fault, Stuck}
use Rattle.plain.specs.declared.values.Value.{Value}
use Rattle.running.specs.declared.entering.Way.{Way}
use Rattle.running.specs.Standing.{Row, method_by, passed}
use Rattle.running.specs.Popping.{Taking, Pops, kin_of}
use Rattle.running.specs.Entering.{Enterable, Into}
use Rattle.running.specs.Calling.{At, Called, CalledBy, called-stuck, called_halts, called_into, Calling, entry_at, params_are, results_are, parents_of, args_fit, stack_is, room_by}
use Rattle.running.specs.Receiving.{args_below, taken_unfit, taken_none, taken_one}
use Rattle.running.specs.Dispatching.{spot_word, spot_of, Dispatch, Stood, lookup_stood, stood_row, same_params, same_results, below_bundle}

-- what a virtual call names: a method of the bundle that is neither static nor a constructor; what is below the named class is below its
-- owner, and what is looked up from there is not static either
pub record VirtualCall (b t s g : List ℕ) (x : Site) (d : ℕ) (k : Frame) (m : Callee) : Type 0 where
  pub at : Calling b t s g x d k
  pub of : Row x.classes (front t) m.owner m.index
  pub plain : is_constructor (method_by b x.classes (front t) m.owner m.index) ≡ false
  pub bound : (method_by b x.classes (front t) m.owner m.index).static ≡ false
  pub reach : (c : ℕ) → below (program_now b x.classes t) c m.named ≡ true → below (program_now b x.classes t) c m.owner ≡ true
  pub over : (c e j : ℕ) → below (program_now b x.classes t) c m.owner ≡ true
      → lookup (program_now b x.classes t) method_sigs (method_by b x.classes (front t) m.owner m.index).sig c ≡ spot e j → (method_by b x.classes (front t) e j).static ≡ false
  pub table : Dispatch b x.classes t

abbrev pub virtual_by : List ℕ → List ℕ → List ℕ → List ℕ → Site → ℕ → Frame → Callee → Here → Result
virtual_by b t s g x d k m y = call_virtual (program_now b x.classes t) y (callee_of m) (ops_of (window_at s d) (window_at g d) k.operands)

-- the receiver v, and n arguments with it above the first l operands
abbrev pub receive_by : List ℕ → List ℕ → List ℕ → List ℕ → Site → ℕ → Callee → ℕ → ℕ → Value → Here → Result
receive_by b t s g x d m l n v y =
    receiver (program_now b x.classes t) y (cls m.named) (value_of v.tag v.cell) λ a. with_class (type_at y.heap a) λ c.
    chosen (lookup (program_now b x.classes t) method_sigs (method_by b x.classes (front t) m.owner m.index).sig c) λ e j.
    enter (program_now b x.classes t) y e j 0 (args_at s g d l n) (ops_of (window_at s d) (window_at g d) l)

pub record Received (b t s g : List ℕ) (x : Site) (d : ℕ) (k : Frame) (m : Callee) (l n : ℕ) : Type 0 where
  pub call : VirtualCall b t s g x d k m
  pub args : n ≡ 1 + length (method_by b x.classes (front t) m.owner m.index).params
  pub operands : l + n ≤ k.operands
  pub room : l + length (method_by b x.classes (front t) m.owner m.index).results ≤ (body (method_by b x.classes (front t) k.class k.method)).max_stack

module _ (b t s g : List ℕ) (x : Site) (d : ℕ) (k : Frame) (m : Callee) where
  abbrev P : Program
  P = program_now b x.classes t

  abbrev N : Method
  N = method_by b x.classes (front t) m.owner m.index

  abbrev W : List ℕ
  W = window_at s d

  abbrev G : List ℕ
  G = window_at g d

  -- ---- to the receiver
  module _ (h : VirtualCall b t s g x d k m) (cells : List ℕ) (p : Taking)
      (z : Pops (front t) (kin_of x.classes) cells W G (entry_at m.owner m.index) k.operands p) where
    abbrev what : Here → Result
    what = virtual_by b t s g x d k m

    taken : (used : ℕ) (K : List Val → List Val → Result)
        → pop_arguments P (heap cells used) (reverse N.params) [] (ops_of W G k.operands) K ≡ only p.ok (K (locs_from W G (32 + p.left) p.count) (ops_of W G p.left))
    taken used K = rw (params_are b x.classes t h.at.standing.ready m.owner m.index h.of) (z.is P used (parents_of b x.classes t h.at.standing.ready) K)

    abbrev onward : Here → List Val → Val → List Val → Result
    onward y args v r =
        only (result_room P y N r) (receiver P y (cls m.named) v λ a. with_class (type_at y.heap a) λ c. chosen (lookup P method_sigs N.sig c) λ e j. enter P y e j 0 (v ∷ args) r)

    by : (y : Here) (used : ℕ) → y.heap ≡ heap cells used → what y ≡ pop_arguments P (heap cells used) (reverse N.params) [] (ops_of W G k.operands) (λ args r. pop_any r (λ v r'. onward y args v r'))
    unfolding call_virtual
    by y used e = ap (λ (H : Heap). pop_arguments P H (reverse N.params) [] (ops_of W G k.operands) (λ args r. pop_any r (λ v r'. onward y args v r'))) e

    pub virtual_unfit : p.ok ≡ false → Called b x.classes t s g cells t s g cells d k (Err Stuck) what
    virtual_unfit e = called-stuck b x.classes t s g cells d k what (λ y used a. by y used a.heap ∙ taken_unfit P (heap cells used) _ _ W G p _ (taken used) e)

    module _ (e : p.ok ≡ true) where
      pub virtual_none : p.left ≡ 0 → Called b x.classes t s g cells t s g cells d k (Err Stuck) what
      virtual_none o = called-stuck b x.classes t s g cells d k what (λ y used a. by y used a.heap ∙ taken_none P (heap cells used) _ _ W G p _ (taken used) e o)

      module _ (o : p.left ≡ 0 → ⊥) (c : ℕ) (ec : c ≡ length (results_in (front t) (entry_at m.owner m.index))) where
        abbrev received : Here → Result
        received y =
            receiver P y (cls m.named) (val_at W G (32 + (p.left - 1))) λ a. with_class (type_at y.heap a) λ c. chosen (lookup P method_sigs N.sig c) λ e j.
            enter P y e j 0 (val_at W G (32 + (p.left - 1)) ∷ locs_from W G (32 + suc (p.left - 1)) p.count) (ops_of W G (p.left - 1))

        virtual_is : (y : Here) (used : ℕ) → At t s g cells used d k y
            → what y ≡ only (leb (length N.results + (p.left - 1)) x.stack) (received y)
        virtual_is y used a =
            let i : p.left ≡ suc (p.left - 1) = omega arith in
            by y used a.heap ∙ taken_one P (heap cells used) _ _ W G p _ (taken used) e (p.left - 1) i
            ∙ ap (λ (q : Bool). only q (received y)) (room_by b t s g x d k h.at cells used y a N (p.left - 1))

        long : c ≡ length N.results
        long = ec ∙ ap length (sym (results_are b x.classes t h.at.standing.ready m.owner m.index h.of))

        pub virtual_full : x.stack < c + (p.left - 1) → Called b x.classes t s g cells t s g cells d k (Err Stuck) what
        virtual_full l =
            called-stuck b x.classes t s g cells d k what
            (λ y used a. virtual_is y used a ∙ rw (lt-leb (length N.results + (p.left - 1)) x.stack (omega (arith, long, l))))

        module _ (l : c + (p.left - 1) ≤ x.stack) where
          pub virtual_received : Received b t s g x d k m (p.left - 1) (p.count + 1)
          virtual_received = record {
            call = h;
            args = omega (arith, z.count, ap length (params_are b x.classes t h.at.standing.ready m.owner m.index h.of));
            operands = omega (arith, z.all e, o);
            room = omega (arith, long, l, stack_is b t s g x d k h.at);
          }

          pub virtual_on : {F : Halt → Type 0} (t' s' g' : List ℕ) (r : Going) (v : Value) → value_of v.tag v.cell ≡ val_at W G (32 + (p.left - 1))
              → CalledBy F b x.classes t s g cells t' s' g' cells d k r (receive_by b t s g x d m (p.left - 1) (p.count + 1) v)
              → CalledBy F b x.classes t s g cells t' s' g' cells d k r what
          virtual_on t' s' g' r v ev q = record {
            is = λ y used a. q.is y used a ∙ sym (virtual_is y used a ∙ rw (le-leb (length N.results + (p.left - 1)) x.stack (omega (arith, long, l))) (same y));
            stands = q.stands;
            kept = q.kept;
            one = q.one;
            besides = q.besides;
          }
            where
              args : val_at W G (32 + (p.left - 1)) ∷ locs_from W G (32 + suc (p.left - 1)) p.count ≡ locs_from W G (32 + (p.left - 1)) (p.count + 1)
              args = let i : p.count + 1 ≡ suc p.count = omega arith in rw i (args_below W G (p.left - 1) p.count)

              same : (y : Here) → received y ≡ receive_by b t s g x d m (p.left - 1) (p.count + 1) v y
              same y =
                  ap (λ (ar : List Val). receiver P y (cls m.named) (val_at W G (32 + (p.left - 1))) λ a. with_class (type_at y.heap a) λ c. chosen (lookup P method_sigs N.sig c) λ e j. enter P y e j 0 ar (ops_of W G (p.left - 1))) args
                  ∙ ap (λ (u : Val). receiver P y (cls m.named) u λ a. with_class (type_at y.heap a) λ c. chosen (lookup P method_sigs N.sig c) λ e j. enter P y e j 0 (locs_from W G (32 + (p.left - 1)) (p.count + 1)) (ops_of W G (p.left - 1))) (sym ev)

-- ---- from the receiver on
refers_ref : (P : Program) (H : Heap) (u : Ref) (t c : ℕ) → refers_to P H u (value_of t c) ≡ true → value_of t c ≡ ref c
unfolding value_of
refers_ref P H u t c e = go (eqb t 1) (eqb t 2) e
  where
    go : (p q : Bool) → refers_to P H u (cond p (num c) (cond q (ref c) empty)) ≡ true → cond p (num c) (cond q (ref c) empty) ≡ ref c
    go true q e = absurd (not_so e)
    go false true e = refl
    go false false e = absurd (not_so e)

-- an object that fits a class is of a class below it, if it is no array
object_below : (P : Program) (H : Heap) (c a e : ℕ) → refers_to P H (cls c) (ref (suc a)) ≡ true → type_at H a ≡ cls e → below P e c ≡ true
unfolding ref_fits
object_below P H c a e q i = go (ready_at H a) q
  where
    go : (p : Bool) → cond p (ref_fits P (type_at H a) (cls c)) false ≡ true → below P e c ≡ true
    go true q = sym (ap (λ (r : Ref). ref_fits P r (cls c)) i) ∙ q
    go false q = absurd (not_so q)

module _ (b t s g : List ℕ) (x : Site) (d : ℕ) (k : Frame) (m : Callee) (l n : ℕ) (h : Received b t s g x d k m l n) (cells : List ℕ) (v : Value) (q : Bool)
    (eq : q ≡ refers_to (lineage (front t) 25728 (11 + x.classes)) (heap cells 0) (cls m.named) (value_of v.tag v.cell)) where
  abbrev given : Val
  given = value_of v.tag v.cell

  abbrev Q : Program
  Q = program_now b x.classes t

  abbrev sig : Signature
  sig = (method_by b x.classes (front t) m.owner m.index).sig

  abbrev rest : Here → Result
  rest = receive_by b t s g x d m l n v

  fits_now : (used : ℕ) → q ≡ value_fits Q (heap cells used) (dref (cls m.named)) given
  fits_now used = fits_here cells used q Q (front t) 25728 (11 + x.classes) (parents_of b x.classes t h.call.at.standing.ready) (dref (cls m.named)) given eq

  abbrev going : Here → ℕ → Result
  going y a = with_class (type_at y.heap a) λ c. chosen (lookup Q method_sigs sig c) λ e j. enter Q y e j 0 (args_at s g d l n) (ops_of (window_at s d) (window_at g d) l)

  rest_is : (y : Here) (used : ℕ) → y.heap ≡ heap cells used → rest y ≡ only q (null_or given (fault Q y null_pointer) (going y))
  rest_is y used e =
      receiver_by Q y (cls m.named) given (going y)
      ∙ ap (λ (c : Bool). only c (null_or given (fault Q y null_pointer) (going y))) (ap (λ (H : Heap). value_fits Q H (dref (cls m.named)) given) e ∙ sym (fits_now used))

  pub receive_unfit : not q ≡ true → Called b x.classes t s g cells t s g cells d k (Err Stuck) rest
  receive_unfit f = called-stuck b x.classes t s g cells d k rest (λ y used a. rest_is y used a.heap ∙ rw (not-true q f))

  module _ (f : not q ≡ false) where
    is-ref : given ≡ ref v.cell
    is-ref = refers_ref (lineage (front t) 25728 (11 + x.classes)) (heap cells 0) (cls m.named) v.tag v.cell (sym eq ∙ not-false q f)

    pub receive_null : v.cell ≡ 0 → Called b x.classes t s g cells t s g cells d k (Err (Fault null_pointer)) rest
    receive_null z = called_halts b x.classes t s g cells d k rest (Fault null_pointer) refl (λ y used a. rest_is y used a.heap ∙ rw (not-false q f, is-ref, z))

    module _ (o : v.cell ≡ 0 → ⊥) (c e : ℕ) (ec : c ≡ get_or cells (v.cell - 1) 0) (ee : e ≡ get_or cells (v.cell - 1 + 1) 0) where
      object_is : (y : Here) (used : ℕ) → y.heap ≡ heap cells used
          → rest y ≡ only (eqb e 0) (chosen (lookup Q method_sigs sig c) λ i j. enter Q y i j 0 (args_at s g d l n) (ops_of (window_at s d) (window_at g d) l))
      unfolding type_at
      object_is y used i =
          rest_is y used i ∙ rw (not-false q f, is-ref, ne_eqb v.cell 0 o, i, ← ec, ← ee) (class_by c e _)

      pub receive_array : (e ≡ 0 → ⊥) → Called b x.classes t s g cells t s g cells d k (Err Stuck) rest
      receive_array z = called-stuck b x.classes t s g cells d k rest (λ y used a. object_is y used a.heap ∙ rw (ne_eqb e 0 z))

      module _ (z : e ≡ 0) where
        below_named : below Q c m.named ≡ true
        unfolding type_at
        below_named =
            let i : suc (v.cell - 1) ≡ v.cell = omega arith in
            object_below Q (heap cells 0) m.named (v.cell - 1) c
            (subst (λ (u : Val). value_fits Q (heap cells 0) (dref (cls m.named)) u ≡ true) (is-ref ∙ ap ref (sym i)) (sym (fits_now 0) ∙ not-false q f)) (rw (← ec, ← ee, z))

        below_owner : below Q c m.owner ≡ true
        below_owner = h.call.reach c below_named

        pub receiver_range : (11 ≤ c) × (c < 11 + x.classes)
        receiver_range = below_bundle b x.classes (front t) h.call.at.standing.ready.prepared.tables.most c m.owner h.call.of.low h.call.of.high below_owner

        module _ (w : ℕ) (ew : w ≡ word t (spot_word (c - 11) (m.owner - 11) m.index)) where
          looked_up : spot_of w ≡ lookup Q method_sigs sig c
          looked_up =
              let y = receiver_range in
              let i : first_class + (c - 11) ≡ c = omega (arith, y.0) in
              let j : first_class + (m.owner - 11) ≡ m.owner = omega (arith, h.call.of.low) in
              ap spot_of ew
              ∙ h.call.table.at (c - 11) (m.owner - 11) m.index (omega (arith, y.0, y.1)) (omega (arith, h.call.of.low, h.call.of.high)) h.call.of.row (rw (i, j) below_owner)
              ∙ rw (i, j)

          pub receive_nowhere : w ≡ 0 → Called b x.classes t s g cells t s g cells d k (Err Stuck) rest
          unfolding spot_of
          receive_nowhere y =
              called-stuck b x.classes t s g cells d k rest
              (λ u used a. object_is u used a.heap ∙ rw (eq-eqb e 0 z, ← looked_up, eq-eqb w 0 y))

          module _ (y : w ≡ 0 → ⊥) where
            found_spot : lookup Q method_sigs sig c ≡ spot ((w - 1) / 64) ((w - 1) % 64)
            unfolding spot_of
            found_spot = sym looked_up ∙ rw (ne_eqb w 0 y)

            there : Stood Q sig ((w - 1) / 64) ((w - 1) % 64)
            there = lookup_stood Q sig c ((w - 1) / 64) ((w - 1) % 64) found_spot

            few : x.classes ≤ 16
            few = h.call.at.standing.ready.prepared.tables.most

            of : Row x.classes (front t) ((w - 1) / 64) ((w - 1) % 64)
            of = stood_row b x.classes (front t) few sig ((w - 1) / 64) ((w - 1) % 64) h.call.plain there

            abbrev way : Way
            way = record { class = (w - 1) / 64; method = (w - 1) % 64; own = 0; left = l; count = n }

            pub receive_enterable : Enterable b x.classes t s g d k way
            receive_enterable =
                let X : Method = method_by b x.classes (front t) ((w - 1) / 64) ((w - 1) % 64) in
                let ps : X.params ≡ (method_by b x.classes (front t) m.owner m.index).params = same_params b x.classes (front t) few ((w - 1) / 64) ((w - 1) % 64) m.owner m.index of h.call.of there.is in
                let rs : X.results ≡ (method_by b x.classes (front t) m.owner m.index).results = same_results b x.classes (front t) few ((w - 1) / 64) ((w - 1) % 64) m.owner m.index of h.call.of there.is in
                record {
                  standing = h.call.at.standing;
                  call = h.call.at.call;
                  of = of;
                  args = omega (arith, args_fit X false (passed b x.classes t h.call.at.standing.ready h.call.at.standing.shaped ((w - 1) / 64) ((w - 1) % 64) of) (h.call.over c ((w - 1) / 64) ((w - 1) % 64) below_owner found_spot), h.args, ap length ps);
                  operands = h.operands;
                  room = omega (arith, h.room, ap length rs);
                }

            pub receive_into : (t' s' g' : List ℕ) (r : Going) → Into b x.classes t s g t' s' g' d k way r → Called b x.classes t s g cells t' s' g' cells d k r rest
            receive_into t' s' g' r i =
                called_into b x.classes t s g cells d k rest t' s' g' way r i
                (λ u used a. object_is u used a.heap ∙ rw (eq-eqb e 0 z, found_spot))
