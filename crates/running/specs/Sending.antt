-- An instruction that calls, whichever of the three it is. Assumes nothing.
use Rattle.std.specs.Prelude.{refl, Ok, Err, ℕ, not, true, ◌+◌, ◌<◌, ◌≤◌, ◌≡◌, List, length}
use Rattle.std.proofs.Common.{sym, ap, ◌∙◌, arith, subst}
use Rattle.std.proofs.lemmas.Bool.{not-true}
use Rattle.reader.specs.TypeCodes.{results_in}
use Rattle.rules.specs.InstructionWords.{call_of}
use Rattle.rules.specs.Known.{callee_in}
use Rattle.rules.specs.Sites.{front}
use Rattle.shaping.specs.Phases.{program_now}
use Rattle.rules.specs.declared.site.Site.{Site}
use Rattle.rules.specs.declared.instruction.Callee.{Callee}
use Rattle.rules.specs.declared.instruction.Call.{Call}
use Rattle.rules.specs.declared.instruction.Call.TheVariants.{Virtual, Special, Static}
use Rattle.plain.specs.Machine.{Here, Result}
use Rattle.plain.specs.Step.{execute}
use Rattle.plain.specs.Windows.{ops_of}
use Rattle.plain.specs.Calls.{window_at}
use Rattle.plain.specs.declared.frames.Frame.{Frame}
use Rattle.plain.specs.CallSteps.{Going}
use Rattle.plain.specs.declared.window.Halt.{Halt}
use Rattle.plain.specs.declared.window.Halt.TheVariants.{Stuck}
use Rattle.running.specs.declared.popping.Popped.{Popped}
use Rattle.running.specs.Popping.{Taking, taken_of, Pops, kin_of}
use Rattle.running.specs.Calling.{Called, CalledBy, Calling, entry_at, entry_small, StaticCall, static_by, static_of, static_entry, static_unfit, static_enterable, static_into}
use Rattle.running.specs.Receiving.{InitCall, init_by, own-entry, own_unfit}
use Rattle.running.specs.Virtual.{VirtualCall, virtual_by, virtual_unfit}
use Rattle.running.specs.Routes.{Route, Routes, RoutesBy, routes_on, routes_as}

-- what each of the three asks for
abbrev pub CallReady : List ℕ → List ℕ → List ℕ → List ℕ → Site → ℕ → Frame → Call → Type 0
CallReady b t s g x d k (Virtual m) = VirtualCall b t s g x d k m
CallReady b t s g x d k (Special m) = InitCall b t s g x d k m
CallReady b t s g x d k (Static m) = StaticCall b t s g x d k m

unfoldable pub call_by : List ℕ → List ℕ → List ℕ → List ℕ → Site → ℕ → Frame → Call → Here → Result
call_by b t s g x d k i y = execute (program_now b x.classes t) y (ops_of (window_at s d) (window_at g d) k.operands) (call_of i)

-- the arguments were there and fitted
pub record Paid (t s g cells : List ℕ) (x : Site) (d : ℕ) (k : Frame) (m : Callee) (p : Popped) : Type 0 where
  pub pops : Pops (front t) (kin_of x.classes) cells (window_at s d) (window_at g d) (entry_at m.owner m.index) k.operands (taken_of p)

module _ (b t s g : List ℕ) (x : Site) (d : ℕ) (k : Frame) where
  pub ready_at_lem : (i : Call) → CallReady b t s g x d k i → Calling b t s g x d k
  ready_at_lem (Virtual m) h = h.at
  ready_at_lem (Special m) h = h.at
  ready_at_lem (Static m) h = h.at

  -- a method of the bundle
  pub ready-entry : (i : Call) → CallReady b t s g x d k i → 11 ≤ (callee_in i).owner → entry_at (callee_in i).owner (callee_in i).index < 1024
  ready-entry (Virtual m) h l = entry_small b x.classes t h.at.standing.ready m.owner m.index h.of
  ready-entry (Special m) h l = own-entry b t s g x d k m h l
  ready-entry (Static m) h l = static_entry b t s g x d k m h

  -- a built-in one is a constructor
  pub ready_built : (i : Call) → CallReady b t s g x d k i → (callee_in i).owner < 11 → InitCall b t s g x d k (callee_in i)
  ready_built (Virtual m) h l = absurd (omega (arith, h.of.low))
  ready_built (Special m) h l = h
  ready_built (Static m) h l = absurd (omega (arith, (static_of b t s g x d k m h).low))

  module _ {F : Halt → Type 0} (cells t' s' g' cells' : List ℕ) (r : Going) where
    built_by : (i : Call) → CallReady b t s g x d k i → (callee_in i).owner < 11 → CalledBy F b x.classes t s g cells t' s' g' cells' d k r (init_by b t s g x d k (callee_in i))
        → CalledBy F b x.classes t s g cells t' s' g' cells' d k r (call_by b t s g x d k i)
    unfolding call_by execute
    built_by (Virtual m) h l y = absurd (omega (arith, h.of.low))
    built_by (Special m) h l y = y
    built_by (Static m) h l y = absurd (omega (arith, (static_of b t s g x d k m h).low))

    pub built_called : (i : Call) (m : Callee) → m ≡ callee_in i → CallReady b t s g x d k i → m.owner < 11 → CalledBy F b x.classes t s g cells t' s' g' cells' d k r (init_by b t s g x d k m)
        → CalledBy F b x.classes t s g cells t' s' g' cells' d k r (call_by b t s g x d k i)
    built_called i m e h l y =
        built_by i h (subst (λ (u : Callee). u.owner < 11) e l) (subst (λ (u : Callee). CalledBy F b x.classes t s g cells t' s' g' cells' d k r (init_by b t s g x d k u)) e y)

    -- by the variant that the code has before it
    module _ (i : Call) (m : Callee) where
      virtual_arm : i ≡ Virtual m → CalledBy F b x.classes t s g cells t' s' g' cells' d k r (virtual_by b t s g x d k m) → CalledBy F b x.classes t s g cells t' s' g' cells' d k r (call_by b t s g x d k i)
      unfolding call_by execute
      virtual_arm e h = subst (λ (j : Call). CalledBy F b x.classes t s g cells t' s' g' cells' d k r (call_by b t s g x d k j)) (sym e) h

      init_arm : i ≡ Special m → CalledBy F b x.classes t s g cells t' s' g' cells' d k r (init_by b t s g x d k m) → CalledBy F b x.classes t s g cells t' s' g' cells' d k r (call_by b t s g x d k i)
      unfolding call_by execute
      init_arm e h = subst (λ (j : Call). CalledBy F b x.classes t s g cells t' s' g' cells' d k r (call_by b t s g x d k j)) (sym e) h

      static_arm : i ≡ Static m → CalledBy F b x.classes t s g cells t' s' g' cells' d k r (static_by b t s g x d k m) → CalledBy F b x.classes t s g cells t' s' g' cells' d k r (call_by b t s g x d k i)
      unfolding call_by execute
      static_arm e h = subst (λ (j : Call). CalledBy F b x.classes t s g cells t' s' g' cells' d k r (call_by b t s g x d k j)) (sym e) h

  module _ {F : Halt → Type 0} (cells : List ℕ) (q : Route) (i : Call) (m : Callee) where
    pub virtual_route : i ≡ Virtual m → RoutesBy F b x.classes t s g cells d k (virtual_by b t s g x d k m) q → RoutesBy F b x.classes t s g cells d k (call_by b t s g x d k i) q
    virtual_route e h =
        routes_as b x.classes t s g cells d k (virtual_by b t s g x d k m) (call_by b t s g x d k i) (λ t' s' g' r. virtual_arm cells t' s' g' cells r i m e) q h

    pub init_route : i ≡ Special m → RoutesBy F b x.classes t s g cells d k (init_by b t s g x d k m) q → RoutesBy F b x.classes t s g cells d k (call_by b t s g x d k i) q
    init_route e h =
        routes_as b x.classes t s g cells d k (init_by b t s g x d k m) (call_by b t s g x d k i) (λ t' s' g' r. init_arm cells t' s' g' cells r i m e) q h

    pub static_route : i ≡ Static m → RoutesBy F b x.classes t s g cells d k (static_by b t s g x d k m) q → RoutesBy F b x.classes t s g cells d k (call_by b t s g x d k i) q
    static_route e h =
        routes_as b x.classes t s g cells d k (static_by b t s g x d k m) (call_by b t s g x d k i) (λ t' s' g' r. static_arm cells t' s' g' cells r i m e) q h

  -- a static call that has room for v results
  pub static_goes : (m : Callee) (h : StaticCall b t s g x d k m) (cells : List ℕ) (p : Popped) → Paid t s g cells x d k m p
      → (e v : ℕ) → e ≡ entry_at m.owner m.index → v ≡ length (results_in (front t) e) → v + p.left ≤ x.stack
      → Routes b x.classes t s g cells d k (static_by b t s g x d k m) (Ok (record { class = m.owner; method = m.index; own = 0; left = p.left; count = p.count }))
  static_goes m h cells p z e v ee ev l =
      let w : v ≡ length (results_in (front t) (entry_at m.owner m.index)) = ev ∙ ap (λ (i : ℕ). length (results_in (front t) i)) ee in
      routes_on b x.classes t s g cells d k (static_by b t s g x d k m) _
      (static_enterable b t s g x d k m h cells (taken_of p) z.pops v w refl l) (static_into b t s g x d k m h cells (taken_of p) z.pops v w refl l)

  -- its arguments did not fit
  pub call_unfit : (i : Call) → CallReady b t s g x d k i → 11 ≤ (callee_in i).owner → (cells : List ℕ) (p : Taking)
      → Pops (front t) (kin_of x.classes) cells (window_at s d) (window_at g d) (entry_at (callee_in i).owner (callee_in i).index) k.operands p → not p.ok ≡ true
      → Called b x.classes t s g cells t s g cells d k (Err Stuck) (call_by b t s g x d k i)
  unfolding call_by execute
  call_unfit (Virtual m) h l cells p z e = virtual_unfit b t s g x d k m h cells p z (not-true p.ok e)
  call_unfit (Special m) h l cells p z e = own_unfit b t s g x d k m h l cells p z (not-true p.ok e)
  call_unfit (Static m) h l cells p z e = static_unfit b t s g x d k m h cells p z (not-true p.ok e)

  -- what is asked of it by that variant
  module _ (i : Call) (m : Callee) (h : CallReady b t s g x d k i) where
    pub ready_virtual : i ≡ Virtual m → VirtualCall b t s g x d k m
    ready_virtual e = subst (CallReady b t s g x d k) e h

    pub ready-init : i ≡ Special m → InitCall b t s g x d k m
    ready-init e = subst (CallReady b t s g x d k) e h

    pub ready-static : i ≡ Static m → StaticCall b t s g x d k m
    ready-static e = subst (CallReady b t s g x d k) e h

  pub paid_arm : (cells : List ℕ) (p : Popped) (i j : Call) → i ≡ j → Paid t s g cells x d k (callee_in i) p → Paid t s g cells x d k (callee_in j) p
  paid_arm cells p i j e h = subst (λ (u : Call). Paid t s g cells x d k (callee_in u) p) e h

  pub owner_arm : (i j : Call) → i ≡ j → 11 ≤ (callee_in i).owner → 11 ≤ (callee_in j).owner
  owner_arm i j e h = subst (λ (u : Call). 11 ≤ (callee_in u).owner) e h
