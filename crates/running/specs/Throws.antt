-- Where a thrown object lands, searched from the running call outward. Assumes nothing.
use Rattle.std.specs.Prelude.{Option as Found, Some, None, ℕ, suc, ◌+◌, ◌-◌, ◌<◌, ◌≤◌, ◌≡◌, refl, List, ◌⊎◌}
use Rattle.std.proofs.Common.{subst, ◌∙◌, inl, inr, arith, sym, ap}
use Rattle.kit.specs.Claims.{pass}
use Rattle.reader.specs.BuiltIns.{first_class}
use Rattle.classfiles.specs.Attributes.{handlers_from}
use Rattle.classfiles.specs.Members.{Handler, Body}
use Rattle.reader.specs.Program.{Program, Method, method, program_of}
use Rattle.reader.specs.Linked.{files_in}
use Rattle.rules.specs.Opcodes.{body}
use Rattle.rules.specs.Shape.{catch_class}
use Rattle.rules.specs.Ancestry.{lineage}
use Rattle.rules.specs.ResolvedWords.{word_of}
use Rattle.rules.specs.Handlers.{class_in, catch_in, catch_is}
use Rattle.rules.specs.Sites.{front, site_body, program_at, method_at}
use Rattle.shaping.specs.Located.{Located}
use Rattle.shaping.specs.Kept.{here_by}
use Rattle.shaping.specs.ScanLaws.{body_here}
use Rattle.shaping.specs.Passing.{codes_one, judged_pass}
use Rattle.shaping.specs.Phases.{Readied, program_now, shape_by, of_all}
use Rattle.rules.specs.declared.site.Site.{Site}
use Rattle.plain.specs.Machine.{Here, Landing, nowhere, landing, land, catcher, calls_from}
use Rattle.plain.specs.Calls.{window_at, frame_at, call_of, waiting}
use Rattle.plain.specs.CallSteps.{Runs}
use Rattle.plain.specs.Catching.{named_in, caught_in, caught_of, catcher_by, catcher-by}
use Rattle.plain.specs.Landing.{at_handler, Finds, landed_or, land-running, land-waiting}
use Rattle.plain.specs.declared.frames.Frame.{Frame}
use Rattle.plain.specs.declared.calls.Running.{Running}
use Rattle.running.specs.Standing.{records, Row, passed}
use Rattle.running.specs.Targets.{leads_inside}

-- a call of a method of the bundle
abbrev pub OfBundle : ℕ → List ℕ → Frame → Type 0
OfBundle n t k = Row n (front t) k.class k.method

-- all calls that wait below depth d
pub record Waiters (n : ℕ) (t : List ℕ) (d : ℕ) : Type 0 where
  pub at : (e : ℕ) → e < d → OfBundle n t (frame_at t records e)

-- a bundle past phase C stands in the scratch
pub record Shaped (b : List ℕ) (n : ℕ) (t : List ℕ) : Type 0 where
  pub readied : Readied b n t
  pub passes : of_all shape_by b n t ≡ pass

-- what call k has for an object of class c
pub record Catches (P : Program) (c : ℕ) (k : Frame) (r : Found ℕ) : Type 0 where
  pub is : Finds P c k r

-- ---- in one call
caught_same : (t : List ℕ) (k n i : ℕ) → caught_in t k n i ≡ catch_in t k n i
unfolding caught_in named_in catch_in class_in word_of
caught_same t k n i = refl

module _ (b : List ℕ) (n : ℕ) (t : List ℕ) (z : Shaped b n t) (k : Frame) (o : OfBundle n t k) (x : Site) (l : Located b n (k.class - 11) k.method x (front t)) where
  abbrev P : Program
  P = program_at b (front t) x

  abbrev M : Method
  M = method_at b (front t) x

  one : x.codes ≡ 1
  one = codes_one b t n (k.class - 11) k.method x l (judged_pass shape_by b n t z.readied z.passes (k.class - 11) k.method (omega (arith, o.low, o.high)) o.row)

  table_is : handlers_from b x.entries x.table ≡ (body M).table
  unfolding site_body
  table_is = sym (ap (λ (y : Body). y.table) (body_here b t x (here_by b t n (k.class - 11) k.method x l) one))

  same_program : P ≡ program_now b n t
  unfolding program_at
  same_program = ap (λ (m : ℕ). program_of (files_in b m (front t))) l.classes

  same-method : M ≡ method P k.class k.method
  same-method =
      let e : first_class + (k.class - 11) ≡ k.class = omega (arith, o.low) in
      ap (λ (m : ℕ). method P (first_class + m) x.method) l.class ∙ ap (λ (m : ℕ). method P m x.method) e ∙ ap (λ (m : ℕ). method P k.class m) l.method

  pub stack_is : x.stack ≡ (body (method (program_now b n t) k.class k.method)).max_stack
  unfolding site_body
  stack_is =
      sym (ap (λ (y : Body). y.max_stack) (body_here b t x (here_by b t n (k.class - 11) k.method x l) one))
      ∙ ap (λ (N : Method). (body N).max_stack) same-method ∙ ap (λ (Q : Program). (body (method Q k.class k.method)).max_stack) same_program

  pub finds : (c : ℕ) (r : Found ℕ)
      → caught_of r ≡ catcher_by (lineage (front t) 25728 (11 + x.classes)) (caught_in (front t) x.class (11 + x.classes)) k.offset c (handlers_from b x.entries x.table)
      → Catches (program_now b n t) c k r
  finds c r e = record {
    is = subst (λ (Q : Program). caught_of r ≡ catcher Q (method Q k.class k.method) k.offset c (body (method Q k.class k.method)).table) same_program
        (subst (λ (N : Method). caught_of r ≡ catcher P N k.offset c (body N).table) same-method
        (e ∙ sym (catcher-by P M (front t) 25728 (first_class + x.classes) l.sited.parents (caught_in (front t) x.class (11 + x.classes)) names k.offset c (handlers_from b x.entries x.table))
        ∙ ap (catcher P M k.offset c) table_is));
  }
    where
      names : (h : Handler) → catch_class P M h ≡ caught_in (front t) x.class (11 + x.classes) h.catch
      names h = sym (catch_is b (front t) P M x l.sited h) ∙ sym (caught_same (front t) x.class (11 + x.classes) h.catch)

-- a target lies in the code
pub caught_low : (b : List ℕ) (n : ℕ) (t : List ℕ) → Shaped b n t → (k : Frame) → OfBundle n t k → (c target : ℕ) → Catches (program_now b n t) c k (Some target) → target < 65536
caught_low b n t z k o c target e =
    let there : first_class + (k.class - 11) ≡ k.class = omega (arith, o.low) in
    let N : Method = method (program_now b n t) k.class k.method in
    let passes : shape_by (program_now b n t) N ≡ pass =
    ap (λ (i : ℕ). shape_by (program_now b n t) (method (program_now b n t) i k.method)) (sym there)
    ∙ judged_pass shape_by b n t z.readied z.passes (k.class - 11) k.method (omega (arith, o.low, o.high)) o.row in
    omega (arith, leads_inside (program_now b n t) N passes k.offset c target (sym e.is), (passed b n t z.readied z.passes k.class k.method o).fits.code)

-- ---- from call to call
abbrev pub landed_as : List ℕ → List ℕ → List ℕ → Found Running → Landing
landed_as t s g None = nowhere
landed_as t s g (Some r) = landing (call_of r.call (window_at s r.depth) (window_at g r.depth)) (waiting t records s g r.depth)

-- the call that it lands in is the running one or one that waits, at a handler
pub record Holds (t : List ℕ) (d : ℕ) (k : Frame) (r : Running) : Type 0 where
  pub target : ℕ
  pub low : target < 65536
  pub call : ((r.depth ≡ d) × (r.call ≡ at_handler k target)) ⊎ ((r.depth < d) × (r.call ≡ at_handler (frame_at t records r.depth) target))

pub record Lands (P : Program) (t : List ℕ) (d : ℕ) (k : Frame) (c : ℕ) (r : Found Running) : Type 0 where
  pub is : (s g : List ℕ) (x : Here) → Runs x t s g records d k → landed_as t s g r ≡ land P c (calls_from x)
  pub holds : (o : Running) → r ≡ Some o → Holds t d k o

-- none of the calls from the running one down to depth e has caught it
pub record Sinks (P : Program) (t : List ℕ) (d : ℕ) (k : Frame) (c e : ℕ) : Type 0 where
  pub rest : (s g : List ℕ) (x : Here) → Runs x t s g records d k → land P c (calls_from x) ≡ land P c (waiting t records s g e)
  pub depth : e ≤ d

module _ (P : Program) (t : List ℕ) (d : ℕ) (k : Frame) (c : ℕ) where
  abbrev landed : ℕ → Frame → Running
  landed e f = record { depth = e; call = f }

  holds_one : (o r : Running) → Holds t d k r → ◌≡◌ {A = Found Running} (Some r) (Some o) → Holds t d k o
  holds_one o r h e = let f : r ≡ o = cc in subst (Holds t d k) f h

  pub lands_here : (target : ℕ) (f : Frame) → Catches P c k (Some target) → target < 65536 → f ≡ at_handler k target → Lands P t d k c (Some (landed d f))
  lands_here q f h m e = record {
    is = λ s g x z. rw e (sym (land-running P c x t s g records d k (Some q) z h.is));
    holds = λ o. holds_one o (landed d f) (record { target = q; low = m; call = inl (refl, e) });
  }

  pub sinks_here : Catches P c k None → Sinks P t d k c (d - 0)
  sinks_here h =
      let e : d - 0 ≡ d = omega arith in
      rw e (record { rest = λ s g x z. land-running P c x t s g records d k None z h.is; depth = omega arith })

  module _ (e : ℕ) (h : Sinks P t d k c e) where
    pub sinks_end : e ≡ 0 → Lands P t d k c None
    unfolding waiting land
    sinks_end u = record {
      is = λ s g x z. sym (h.rest s g x z ∙ ap (λ (i : ℕ). land P c (waiting t records s g i)) u);
      holds = λ o y. absurd cc;
    }

    module _ (p : 0 < e) (w : Frame) (ew : w ≡ frame_at t records (e - 1)) where
      pub waiter : (n : ℕ) → Waiters n t d → OfBundle n t w
      waiter n a = rw ew (a.at (e - 1) (omega (arith, p, h.depth)))

      above : suc (e - 1) ≡ e
      above = omega (arith, p)

      further : (q : Found ℕ) → Catches P c w q → (s g : List ℕ) (x : Here) → Runs x t s g records d k
          → land P c (calls_from x) ≡ landed_or q (frame_at t records (e - 1)) (window_at s (e - 1)) (window_at g (e - 1)) (waiting t records s g (e - 1)) (land P c (waiting t records s g (e - 1)))
      further q f s g x z =
          h.rest s g x z ∙ ap (λ (i : ℕ). land P c (waiting t records s g i)) (sym above)
          ∙ land-waiting P c t s g records (e - 1) q (subst (λ (y : Frame). Finds P c y q) ew f.is)

      pub sinks_more : Catches P c w None → Sinks P t d k c (e - 1)
      sinks_more f = record {
        rest = λ s g x z. further None f s g x z;
        depth = omega (arith, h.depth);
      }

      pub lands_there : (v : Frame) (q : ℕ) → Catches P c w (Some q) → q < 65536 → v ≡ at_handler w q → Lands P t d k c (Some (landed (e - 1) v))
      lands_there v q f m i =
          let j : v ≡ at_handler (frame_at t records (e - 1)) q = i ∙ ap (λ (u : Frame). at_handler u q) ew in
          record {
            is = λ s g x z. rw j (sym (further (Some q) f s g x z));
            holds = λ o. holds_one o (landed (e - 1) v) (record { target = q; low = m; call = inr (omega (arith, p, h.depth), j) });
          }

  -- the next turn's bound
  pub sinks_next : (i : ℕ) → Sinks P t d k c (d - i - 1) → Sinks P t d k c (d - (i + 1))
  sinks_next i h = let e : d - (i + 1) ≡ d - i - 1 = omega arith in rw e h
