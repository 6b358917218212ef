-- Lines in a row: by their opcodes as long as they can be typed so, then one that is decoded. Assumes nothing.
use Rattle.std.specs.Prelude.{ℕ, ◌<◌, ◌≤◌, ◌≡◌, refl, Some, None, Result, Ok, Err, IfOk, IfErr, IsErrAnd, Bool, true, false, List, length, get_or, take}
use Rattle.std.proofs.Common.{sym, ap, subst, ◌∙◌, arith}
use Rattle.std.proofs.Math.Option.{none}
use Rattle.kit.specs.Bools.{not_so}
use Rattle.kit.specs.Claims.{pass, verdict, all_pass}
use Rattle.rules.specs.Frames.{Frame}
use Rattle.rules.specs.Walk.{frame_at, meets, merged}
use Rattle.rules.specs.Ancestry.{lineage}
use Rattle.rules.specs.Slots.{held, Outside}
use Rattle.rules.specs.FrameRows.{frames_of}
use Rattle.rules.specs.Sites.{site_code}
use Rattle.rules.specs.StepClaims.{frames_outside, Going}
use Rattle.rules.specs.Loads.{current}
use Rattle.verifier.specs.Lineup.{front-word, outside_front, walking_on, Walking, Entered, LineDone}
use Rattle.verifier.specs.Ahead.{Handled, Level, Unmet, quiet_on, alike_on, handled_alike}
use Rattle.verifier.specs.Quick.{down, Open, Tried, steady}
use Rattle.verifier.specs.Walks.{next_at, next_far, Walked, Midway, mid_stop, mid_next, mid_same, place, held_parts}
use Rattle.verifier.specs.Arrivals.{arrived_same}
use Rattle.rules.specs.declared.site.Site.{Site}
use Rattle.texts.specs.declared.faults.Refusal.{Refusal}
use Rattle.texts.specs.declared.faults.Fault as faults
use Rattle.shaping.specs.Marks.{Ruled}
use Rattle.rules.specs.declared.slots.Held.{Held}
use Rattle.rules.specs.declared.frames.Rows.{Rows}
use Rattle.rules.specs.declared.types.Kin.{Kin}
use Rattle.verifier.specs.declared.quick.Went.TheVariants.{On, Off}
use Rattle.verifier.specs.declared.walk.Turn.{Turn}
use Rattle.verifier.specs.declared.walk.Stretch.{Stretch}
use Rattle.verifier.specs.declared.walk.Leg.{Leg}

-- the walk comes from a state at o to one at p
abbrev pub Leads : List ℕ → List ℕ → List ℕ → Site → Rows → Bool → Held → ℕ → Bool → Held → ℕ → Type 0
Leads s t u x f a h o b g p = (t₀ : List ℕ) (h₀ : Held) → Midway s t₀ t x f h₀ o a h → Midway s t₀ u x f h₀ p b g

-- ---- by their opcodes
pub record Stretched (s t u : List ℕ) (x : Site) (kin : Kin) (f : Rows) (h : Held) (o : ℕ) (r : Stretch) : Type 0 where
  pub leads : Leads s t u x f true h o r.live (down h r.depth) r.o
  pub walking : Walking s u x kin f (down h r.depth)
  pub far : o ≤ r.o
  pub on : r.stuck ≡ false → o < r.o
  pub ready : r.stuck ≡ true → Open s u x kin f (down h r.depth) r.o
  pub inside : r.stuck ≡ true → r.o < length (site_code s x)
  pub alive : r.stuck ≡ true → true ≡ r.live
  pub front : take 260736 u ≡ take 260736 t

-- the loop's state
pub record Stretching (s t u : List ℕ) (x : Site) (kin : Kin) (f : Rows) (h : Held) (from o depth : ℕ) : Type 0 where
  pub leads : Leads s t u x f true h from true (down h depth) o
  pub ready : Open s u x kin f (down h depth) o
  pub far : from ≤ o
  pub front : take 260736 u ≡ take 260736 t

-- and behind a line
pub record Gone (s t u : List ℕ) (x : Site) (kin : Kin) (f : Rows) (h : Held) (from o depth : ℕ) (live : Bool) : Type 0 where
  pub leads : Leads s t u x f true h from live (down h depth) o
  pub walking : Walking s u x kin f (down h depth)
  pub far : from < o
  pub front : take 260736 u ≡ take 260736 t

pub stretching_start : (s t : List ℕ) (x : Site) (kin : Kin) (f : Rows) (h : Held) (o : ℕ) → Open s t x kin f h o → Stretching s t t x kin f h o o h.depth
stretching_start s t x kin f h o a = record { leads = λ t₀ h₀ m. m; ready = a; far = omega arith; front = refl }

module _ (s t u : List ℕ) (x : Site) (kin : Kin) (f : Rows) (h : Held) (from o depth : ℕ) where
  stretched_gone : (live : Bool) → Gone s t u x kin f h from o depth live → Stretched s t u x kin f h from (record { o = o; depth = depth; live = live; stuck = false })
  stretched_gone live k = record {
    leads = k.leads;
    walking = k.walking;
    far = let c = k.far in omega arith;
    on = λ z. k.far;
    ready = λ z. absurd (not_so z);
    inside = λ z. absurd (not_so z);
    alive = λ z. absurd (not_so z);
    front = k.front;
  }

  gone_on : (frame_at (frames_of u f) o ≡ none) → Handled s u x kin f (down h depth) o true → Gone s t u x kin f h from o depth true → Stretching s t u x kin f h from o depth
  gone_on n b k =
      let c = k.far in
      record {
        leads = k.leads;
        ready = record {
          walking = k.walking;
          entered = record { met = λ P. rw n (all_pass _ tt); same = rw n };
          handled = b refl;
        };
        far = omega arith;
        front = k.front;
      }

pub level_on : (s : List ℕ) (x : Site) (code : List ℕ) (o p : ℕ) (y : Bool) (till : ℕ) → Level s x o y till → o < length code → p ≡ next_at code o → p < till → Level s x p y till
level_on s x code o p y till j l r i =
    let b = next_far code o l in
    record { quiet = λ e. quiet_on s x o till p till (j.quiet e) (omega arith) (omega arith); alike = λ e. alike_on s x o till p (j.alike e) (omega arith) i }

module _ (s t u : List ℕ) (x : Site) (kin : Kin) (f : Rows) (h : Held) (from o depth : ℕ) (k : Stretching s t u x kin f h from o depth) (code : List ℕ) (c : code ≡ site_code s x) where
  pub stretched_out : from < length code → length code ≤ o → Stretched s t u x kin f h from (record { o = o; depth = depth; live = true; stuck = false })
  stretched_out l m = stretched_gone s t u x kin f h from o depth true (record { leads = k.leads; walking = k.ready.walking; far = omega arith; front = k.front })

  module _ (l : o < length code) (v : List ℕ) (g : Held) (q : g ≡ down h depth) where
    here : o < length (site_code s x)
    here = subst (λ (w : List ℕ). o < length w) c l

    pub stretched_stuck : Tried s u v x f true g o None → Stretched s t v x kin f h from (record { o = o; depth = depth; live = true; stuck = true })
    stretched_stuck z = subst (λ (w : List ℕ). Stretched s t w x kin f h from (record { o = o; depth = depth; live = true; stuck = true })) (sym z.kept) (record {
      leads = k.leads;
      walking = k.ready.walking;
      far = k.far;
      on = λ y. absurd (not_so (sym y));
      ready = λ y. k.ready;
      inside = λ y. here;
      alive = λ y. refl;
      front = k.front;
    })

    module _ (e : length v ≡ length u) (p : ℕ) (r : p ≡ next_at code o) where
      gone : (live : Bool) (d : ℕ) → LineDone s u v x f true (down h depth) o (Ok (record { live = live; held = down h d })) → Gone s t v x kin f h from p d live
      gone live d done = record {
        leads = λ t₀ h₀ m.
            rw (r, c) (mid_next s t₀ u x f h₀ o true (down h depth) (k.leads t₀ h₀ m) kin k.ready.walking here v (record { live = live; held = down h d }) done (down h d) refl);
        walking = walking_on s u x kin f (down h depth) k.ready.walking v (down h d) done.going done.front e;
        far = let b = k.far in omega (arith, next_far code o l);
        front = done.front ∙ k.front;
      }

      pub stretched_off : Tried s u v x f true g o (Some Off) → Stretched s t v x kin f h from (record { o = p; depth = depth; live = false; stuck = false })
      stretched_off z = stretched_gone s t v x kin f h from p depth false (gone false depth (subst (λ (w : Held). Tried s u v x f true w o (Some Off)) q z).off)

      module _ (a : ℕ) (z : Tried s u v x f true g o (Some (On a))) where
        tried : Tried s u v x f true (down h depth) o (Some (On a))
        tried = subst (λ (w : Held). Tried s u v x f true w o (Some (On a))) q z

        pub stretched_met : Stretched s t v x kin f h from (record { o = p; depth = a; live = true; stuck = false })
        stretched_met = stretched_gone s t v x kin f h from p a true (gone true a tried.on)

        -- what the handlers ask of it is known: none covers it, or the same do and the locals are the same
        next_handled : (y : Bool) (till : ℕ) → Level s x o y till → (y ≡ false → steady (get_or code o 0) ≡ true) → p < till → Handled s v x kin f (down h a) p true
        next_handled true till j st i e = let b = next_far code o l in (j.quiet refl).asks _ _ _ _ _ p (omega arith) i
        next_handled false till j st i e =
            let b = next_far code o l in
            handled_alike s u v x kin f (down h a) o till p (walking_on s u x kin f (down h depth) k.ready.walking u (down h a) tried.on.going refl refl) tried.on.front
            (tried.same (ap (λ (w : List ℕ). steady (get_or w o 0)) (sym c) ∙ st refl)) (j.alike refl) (omega arith) i (λ z. k.ready.handled) e

        pub stretching_on : (y : Bool) (till : ℕ) → Unmet s t x f from y till → Level s x o y till → (y ≡ false → steady (get_or code o 0) ≡ true) → p < till → Stretching s t v x kin f h from p a
        stretching_on y till q j st i =
            let d = gone true a tried.on in
            let b = d.far in
            let w = d.walking in
            let r = w.rows in
            let fs : frames_of v f ≡ frames_of t f = frames_outside 65184 t v (front-word t v d.front) f w.laid.locals (omega arith) in
            gone_on s t v x kin f h from p a (ap (λ (g : List Frame). frame_at g p) fs ∙ q.free p (omega arith) i) (next_handled y till j st i) d

-- ---- lines in a row, one at least
pub record LegDone (s t u : List ℕ) (x : Site) (f : Rows) (live : Bool) (h : Held) (o : ℕ) (r : Result Leg faults.Fault) : Type 0 where
  pub stops : IfErr r (λ e. (t₀ : List ℕ) (h₀ : Held) → Midway s t₀ t x f h₀ o live h → Walked s t₀ u x f h₀ (Err e))
  pub leads : IfOk r (λ q. Leads s t u x f live h o q.live q.held q.o)
  pub far : IfOk r (λ q. o < q.o)
  pub going : IfOk r (λ q. Going h q.held)
  pub front : take 260736 u ≡ take 260736 t

-- a line that is decoded
module _ (s t u : List ℕ) (x : Site) (kin : Kin) (f : Rows) (live : Bool) (h : Held) (o : ℕ) (w : Walking s t x kin f h) (code : List ℕ) (c : code ≡ site_code s x) (k : o < length code) where
  b : o < length (site_code s x)
  b = subst (λ (w : List ℕ). o < length w) c k

  pub leg_refused : (e : Refusal) → LineDone s t u x f live h o (Err e) → LegDone s t u x f live h o (Err (record { 0 = e; 1 = o }))
  leg_refused e d = record { stops = λ t₀ h₀ m. mid_stop s t₀ t x f h₀ o live h m kin w b u e d; leads = tt; far = tt; going = tt; front = d.front }

  pub leg_line : (r : Turn) → LineDone s t u x f live h o (Ok r) → (p : ℕ) → p ≡ next_at code o → LegDone s t u x f live h o (Ok (record { o = p; live = r.live; held = r.held }))
  leg_line r d p q = record {
    stops = tt;
    leads = λ t₀ h₀ m. rw (q, c) (mid_next s t₀ t x f h₀ o live h m kin w b u r d r.held refl);
    far = rw q (next_far code o k);
    going = d.going;
    front = d.front;
  }

-- behind others
pub leg_then : (s t u v : List ℕ) (x : Site) (f : Rows) (live : Bool) (h g : Held) (o p : ℕ) (r : Result Leg faults.Fault) → Leads s t u x f live h o true g p → o ≤ p → g.at ≡ h.at → g.locals ≡ h.locals
    → take 260736 u ≡ take 260736 t → LegDone s u v x f true g p r → LegDone s t v x f live h o r
leg_then s t u v x f live h g o p (Ok q) a l i j e d = record {
  stops = tt;
  leads = λ t₀ h₀ m. d.leads t₀ h₀ (a t₀ h₀ m);
  far = let k = d.far in omega arith;
  going = let k = d.going in record { at = k.at ∙ i; locals = k.locals ∙ j; depth = k.depth };
  front = d.front ∙ e;
}
leg_then s t u v x f live h g o p (Err z) a l i j e d = record {
  stops = λ t₀ h₀ m. d.stops t₀ h₀ (a t₀ h₀ m);
  leads = tt;
  far = tt;
  going = tt;
  front = d.front ∙ e;
}

pub leg_stretched : (s t u : List ℕ) (x : Site) (kin : Kin) (f : Rows) (h : Held) (o : ℕ) (k : Stretch) → Stretched s t u x kin f h o k → k.stuck ≡ false → (q : Held) → q ≡ down h k.depth
    → LegDone s t u x f true h o (Ok (record { o = k.o; live = k.live; held = q }))
leg_stretched s t u x kin f h o k d e q z = rw z (record {
  stops = tt;
  leads = d.leads;
  far = d.on e;
  going = record { at = refl; locals = refl; depth = d.walking.depth };
  front = d.front;
})

-- where a line has to be decoded
module _ (s t u : List ℕ) (x : Site) (kin : Kin) (f : Rows) (h : Held) (o : ℕ) (k : Stretch) (d : Stretched s t u x kin f h o k) (e : k.stuck ≡ true) (q : Held) (z : q ≡ down h k.depth) where
  pub stuck-ready : (code : List ℕ) → code ≡ site_code s x
      → Walking s u x kin f q × Entered u f q k.o × Handled s u x kin f q k.o true × (code ≡ site_code s x) × (k.o < length code)
  stuck-ready code c =
      let r : Open s u x kin f q k.o = rw z (d.ready e) in
      (r.walking, r.entered, (λ y. r.handled), c, rw c (d.inside e))

  pub leg_stuck : (v : List ℕ) (r : Result Leg faults.Fault) → LegDone s u v x f true q k.o r → LegDone s t v x f true h o r
  leg_stuck v r n =
      leg_then s t u v x f true h (down h k.depth) o k.o r
      (λ t₀ h₀ m. rw (d.alive e) (d.leads t₀ h₀ m)) d.far refl refl d.front (subst (λ (y : Held). LegDone s u v x f true y k.o r) z n)

-- after the state that came has met what stands at o
module _ (s t u : List ℕ) (x : Site) (kin : Kin) (f : Rows) (live : Bool) (h : Held) (o : ℕ) (w : Walking s t x kin f h) (g : Held)
    (m : pass ≡ verdict (meets (lineage t kin.at kin.count) (current live (held t h)) (frame_at (frames_of t f) o)))
    (l : held u g ≡ merged (current live (held t h)) (frame_at (frames_of t f) o)) (go : Going h g) (out : Outside h.at t u)
    (bytes : List ℕ) (c : bytes ≡ site_code s x) (k : o < length bytes) where
  pub leg_arrived : (v : List ℕ) (r : Result Leg faults.Fault) → LegDone s u v x f true g o r → LegDone s t v x f live h o r
  leg_arrived v r d =
      let e : take 260736 u ≡ take 260736 t = outside_front t u h.at w.at out in
      leg_then s t u v x f live h g o o r
      (λ t₀ h₀ n. mid_same s t₀ t x f h₀ o live h n kin w (subst (λ (y : List ℕ). o < length y) c k) u g e (arrived_same s t u x kin f live h o w g m l go out))
      (omega arith) go.at go.locals e d

-- the same site
pub leg_site : (s t u : List ℕ) (x y : Site) → y ≡ x → (f : Rows) (live : Bool) (h : Held) (o : ℕ) (r : Result Leg faults.Fault) → LegDone s t u y f live h o r → LegDone s t u x f live h o r
leg_site s t u x y e f live h o r d = subst (λ (z : Site). LegDone s t u z f live h o r) e d

-- the state as the loop keeps it
pub leg_as : (s t u : List ℕ) (x : Site) (f : Rows) (live : Bool) (k g : Held) → g ≡ k → (o : ℕ) (r : Result Leg faults.Fault) → LegDone s t u x f live g o r → LegDone s t u x f live k o r
leg_as s t u x f live k g e o r d = subst (λ (z : Held). LegDone s t u x f live z o r) e d

pub leg_on : (s t u : List ℕ) (x : Site) (f : Rows) (live : Bool) (h : Held) (o : ℕ) (r : Leg) → LegDone s t u x f live h o (Ok r) → (t₀ : List ℕ) (h₀ : Held) → Midway s t₀ t x f h₀ o live h
    → Midway s t₀ u x f h₀ r.o r.live (place h r.held.depth r.held.flag)
leg_on s t u x f live h o r d t₀ h₀ m =
    subst (λ (g : Held). Midway s t₀ u x f h₀ r.o r.live g) (sym (held_parts h r.held d.going)) (d.leads t₀ h₀ m)

-- the fault that a leg hands on
pub leg_off : (s t u : List ℕ) (x : Site) (f : Rows) (live : Bool) (h : Held) (o : ℕ) (e : faults.Fault) → LegDone s t u x f live h o (Err e) → (r : Ruled) → IsErrAnd r (λ j. j ≡ e)
    → (t₀ : List ℕ) (h₀ : Held) → Midway s t₀ t x f h₀ o live h → Walked s t₀ u x f h₀ r
leg_off s t u x f live h o e d (Ok a) p t₀ h₀ m = absurd p
leg_off s t u x f live h o e d (Err z) p t₀ h₀ m = subst (λ (j : faults.Fault). Walked s t₀ u x f h₀ (Err j)) (sym p) (d.stops t₀ h₀ m)
