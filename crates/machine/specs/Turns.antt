-- A run as a loop of steps. Assumes nothing.
use Rattle.std.specs.Prelude.{Option as Found, Some, None, Ok, Err, Bool, true, ◌≡◌, cond}
use Rattle.std.proofs.Common.{◌∙◌, add-one, ℕ, suc, ◌+◌, ◌-◌, ◌<◌, ◌≤◌, refl, sym, ap, subst, false, List, arith}
use Rattle.reader.specs.Program.{Program, program_of}
use Rattle.reader.specs.Linked.{files_in}
use Rattle.rules.specs.Sites.{front}
use Rattle.rules.specs.declared.site.Site.{Site}
use Rattle.shaping.specs.Located.{Located}
use Rattle.shaping.specs.Phases.{program_now}
use Rattle.plain.specs.Heap.{heap}
use Rattle.plain.specs.Machine.{Machine, Result}
use Rattle.plain.specs.Run.{Ran, turn, run, end_number, end_value}
use Rattle.plain.specs.declared.frames.Frame.{Frame}
use Rattle.running.specs.Standing.{machine_of, Standing}
use Rattle.running.specs.Dispatching.{Dispatch}
use Rattle.running.specs.Throws.{OfBundle, Shaped}
use Rattle.running.specs.Throwing.{Move, moved_of, ending}
use Rattle.running.specs.declared.ends.Moved.{Moved}
use Rattle.running.specs.declared.ends.Ended.{Ended}
use Rattle.running.specs.declared.ends.End as code_end
use Rattle.running.specs.declared.ends.End.TheVariants.{Returned, Uncaught, HeapFull as NoRoom, DepthFull as NoDepth, Stuck as NoWay}
use Rattle.stepping.specs.Stepping.{Stepped}
use Rattle.stretching.specs.Stretch.{run-turn}
use Rattle.machine.specs.declared.turns.Ran as code

-- ---- where the running call's method stands
abbrev pub SiteOf : List ℕ → ℕ → List ℕ → Frame → Site → Type 0
SiteOf b n t k x = Located b n (k.class - 11) k.method x (front t)

pub standing_shaped : (b : List ℕ) (n : ℕ) (t s g : List ℕ) (d : ℕ) (k : Frame) → Standing b n t s g d k → Shaped b n t × OfBundle n t k
standing_shaped b n t s g d k h = (record { readied = h.ready; passes = h.shaped }, h.running.of)

-- after a step, for the method that was running
pub site_after : (b : List ℕ) (n : ℕ) (t s g cells : List ℕ) (d : ℕ) (k : Frame) (used : ℕ) (t' s' g' cells' : List ℕ) (r : Moved) (x : Site) → Stepped b n t s g cells d k used t' s' g' cells' (Ok r)
    → SiteOf b n t k x → Shaped b n t' × OfBundle n t' r.call × SiteOf b n t' k x
site_after b n t s g cells d k used t' s' g' cells' r x y h =
    let z = standing_shaped b n t' s' g' r.depth r.call y.stands in
    (z.0, z.1, subst (Located b n (k.class - 11) k.method x) (sym y.front) h)

-- a call of the same method
same_site : (b : List ℕ) (n : ℕ) (t : List ℕ) (k j : Frame) (x : Site) → (j.class ≡ k.class) × (j.method ≡ k.method) → SiteOf b n t k x → SiteOf b n t j x
same_site b n t k j x e h = rw (e.0, e.1) h

-- where the call after a step stands: found, or the same
module _ (b : List ℕ) (n : ℕ) (t s g cells : List ℕ) (d : ℕ) (k : Frame) (used : ℕ) (t' s' g' cells' : List ℕ) (r : Moved) (x : Site)
    (y : Stepped b n t s g cells d k used t' s' g' cells' (Ok r)) (h : SiteOf b n t k x) (z : Site) where
  pub site_found : (w : Site) → z ≡ w → SiteOf b n t' r.call w → SiteOf b n t' r.call z
  site_found w q l = subst (SiteOf b n t' r.call) (sym q) l

  pub site_stays : z ≡ x → (r.call.class ≡ k.class) × (r.call.method ≡ k.method) → SiteOf b n t' r.call z
  site_stays q m = subst (SiteOf b n t' r.call) (sym q) (same_site b n t' k r.call x m (site_after b n t s g cells d k used t' s' g' cells' r x y h).2)

-- ---- a run's answer
abbrev pub number_of : Found code_end.End → ℕ
number_of None = 3
number_of (Some (Returned v)) = 1
number_of (Some (Uncaught c)) = 2
number_of (Some NoRoom) = 4
number_of (Some NoDepth) = 5
number_of (Some NoWay) = 6

abbrev pub value_of : Found code_end.End → ℕ
value_of None = 0
value_of (Some (Returned v)) = v
value_of (Some (Uncaught c)) = c
value_of (Some NoRoom) = 0
value_of (Some NoDepth) = 0
value_of (Some NoWay) = 0

pub record Ends (R : Ran) (cells : List ℕ) (r : code.Ran) : Type 0 where
  pub end : end_number R.end ≡ number_of r.end
  pub value : end_value R.end ≡ value_of r.end
  pub count : R.count ≡ r.count
  pub heap : R.heap ≡ heap cells r.used

pub record RunsOn (b : List ℕ) (n : ℕ) (t s g cells : List ℕ) (d : ℕ) (k : Frame) (used budget : ℕ) (cells' : List ℕ) (r : code.Ran) : Type 0 where
  pub is : Ends (run (program_now b n t) budget 0 (machine_of cells used t s g d k)) cells' r
  pub most : r.count ≤ budget

-- a step that is stopped is not counted
abbrev pub counted : code_end.End → Bool
counted (Returned v) = true
counted (Uncaught c) = true
counted NoRoom = false
counted NoDepth = false
counted NoWay = false

unfoldable pub closing : Ended → ℕ → code.Ran
closing e m = record { end = Some e.end; count = cond (counted e.end) (m + 1) m; used = e.used }

pub closing_end : (e : Ended) (m : ℕ) (q : Bool) → q ≡ counted e.end → q ≡ true → record { end = Some e.end; count = m + 1; used = e.used } ≡ closing e m
unfolding closing
closing_end e m q h f = rw (← h, f)

pub closing_stop : (e : Ended) (m : ℕ) (q : Bool) → q ≡ counted e.end → q ≡ false → record { end = Some e.end; count = m; used = e.used } ≡ closing e m
unfolding closing
closing_stop e m q h f = rw (← h, f)

-- ---- the loop: R is the run whole, of which `left` steps are left
pub record Going (b : List ℕ) (n : ℕ) (R : Ran) (budget left used : ℕ) (t s g cells : List ℕ) (d : ℕ) (k : Frame) : Type 0 where
  pub rest : run (program_now b n t) left (budget - left) (machine_of cells used t s g d k) ≡ R
  pub stands : Standing b n t s g d k
  pub dispatch : Dispatch b n t
  pub most : left ≤ budget

pub going_start : (b : List ℕ) (n budget used : ℕ) (t s g cells : List ℕ) (d : ℕ) (k : Frame) → Standing b n t s g d k → Dispatch b n t
    → Going b n (run (program_now b n t) budget 0 (machine_of cells used t s g d k)) budget budget used t s g cells d k
going_start b n budget used t s g cells d k h y =
    let z : budget - budget ≡ 0 = omega arith in
    record { rest = rw z; stands = h; dispatch = y; most = omega arith }

module _ (b : List ℕ) (n : ℕ) (R : Ran) (budget left used : ℕ) (t s g cells : List ℕ) (d : ℕ) (k : Frame) (h : Going b n R budget left used t s g cells d k) where
  module _ (l : 0 < left) (t' s' g' cells' : List ℕ) where
    abbrev P : Program
    P = program_now b n t

    abbrev m : ℕ
    m = budget - left

    turned : (r : Move) (x : Stepped b n t s g cells d k used t' s' g' cells' r) → turn (moved_of x.results cells' t' s' g' r) m (heap cells used) (λ (L : Machine). run P (left - 1) (suc m) L) ≡ R
    turned r x =
        ap (λ (z : Result). turn z m (heap cells used) (λ (L : Machine). run P (left - 1) (suc m) L)) x.is
        ∙ sym (run-turn P left m (machine_of cells used t s g d k) l) ∙ h.rest

    pub going_next : (r : Moved) → Stepped b n t s g cells d k used t' s' g' cells' (Ok r) → Going b n R budget (left - 1) r.used t' s' g' cells' r.depth r.call
    unfolding turn
    going_next r x =
        let z : budget - (left - 1) ≡ suc m = omega (arith, h.most) in
        let K : Machine = machine_of cells' r.used t' s' g' r.depth r.call in
        let here : run P (left - 1) (suc m) K ≡ R = turned (Ok r) x in
        record {
          rest = ap (λ (f : List ℕ). run (program_of (files_in b n f)) (left - 1) (budget - (left - 1)) K) x.front ∙ ap (λ (i : ℕ). run P (left - 1) i K) z ∙ here;
          stands = x.stands;
          dispatch = x.dispatch;
          most = omega (arith, h.most);
        }

    closes : (E : code_end.End) (u : ℕ) → Stepped b n t s g cells d k used t' s' g' cells' (Err (ending E u)) → Ends R cells' (closing (ending E u) m)
    unfolding turn closing
    closes (Returned v) u x =
        subst (λ (Q : Ran). Ends Q cells' (closing (ending (Returned v) u) m)) (turned (Err (ending (Returned v) u)) x)
        (record { end = refl; value = x.value; count = sym (add-one m); heap = refl })
    closes (Uncaught c) u x =
        subst (λ (Q : Ran). Ends Q cells' (closing (ending (Uncaught c) u) m)) (turned (Err (ending (Uncaught c) u)) x)
        (record { end = refl; value = refl; count = sym (add-one m); heap = refl })
    closes NoRoom u x =
        subst (λ (Q : Ran). Ends Q cells' (closing (ending NoRoom u) m)) (turned (Err (ending NoRoom u)) x)
        (record { end = refl; value = refl; count = refl; heap = rw (x.kept.0, x.kept.1) })
    closes NoDepth u x =
        subst (λ (Q : Ran). Ends Q cells' (closing (ending NoDepth u) m)) (turned (Err (ending NoDepth u)) x)
        (record { end = refl; value = refl; count = refl; heap = rw (x.kept.0, x.kept.1) })
    closes NoWay u x =
        subst (λ (Q : Ran). Ends Q cells' (closing (ending NoWay u) m)) (turned (Err (ending NoWay u)) x)
        (record { end = refl; value = refl; count = refl; heap = rw (x.kept.0, x.kept.1) })

    pub going_closed : (e : Ended) → Stepped b n t s g cells d k used t' s' g' cells' (Err e) → (q : code.Ran) → q ≡ closing e m → Ends R cells' q × (q.count ≤ budget)
    unfolding closing
    going_closed e x q c = rw c (closes e.end e.used x, small (counted e.end))
      where
        small : (v : Bool) → cond v (m + 1) m ≤ budget
        small true = omega (arith, h.most)
        small false = omega (arith, h.most)

  pub going_out : left ≤ 0 → Ends R cells (record { end = None; count = budget; used = used })
  unfolding run
  going_out l =
      let e : left ≡ 0 = omega arith in
      let z : budget ≡ budget - 0 = omega arith in
      let q : run (program_now b n t) 0 (budget - 0) (machine_of cells used t s g d k) ≡ R = subst (λ (v : ℕ). run (program_now b n t) v (budget - v) (machine_of cells used t s g d k) ≡ R) e h.rest in
      subst (λ (Q : Ran). Ends Q cells (record { end = None; count = budget; used = used })) q
      (record { end = refl; value = refl; count = sym z; heap = refl })

-- the whole from any turn of the loop
module _ (b : List ℕ) (n : ℕ) (t₀ s₀ g₀ cells₀ : List ℕ) (d₀ : ℕ) (k₀ : Frame) (used₀ budget : ℕ) (left used : ℕ) (t s g cells : List ℕ) (d : ℕ) (k : Frame)
    (h : Going b n (run (program_now b n t₀) budget 0 (machine_of cells₀ used₀ t₀ s₀ g₀ d₀ k₀)) budget left used t s g cells d k) where
  pub runs_closed : 0 < left → (t' s' g' cells' : List ℕ) (e : Ended) → Stepped b n t s g cells d k used t' s' g' cells' (Err e) → (q : code.Ran) → q ≡ closing e (budget - left)
      → RunsOn b n t₀ s₀ g₀ cells₀ d₀ k₀ used₀ budget cells' q
  runs_closed l t' s' g' cells' e x q c =
      let y = going_closed b n _ budget left used t s g cells d k h l t' s' g' cells' e x q c in
      record { is = y.0; most = y.1 }

  pub runs_out : left ≤ 0 → (q : code.Ran) → q ≡ record { end = None; count = budget; used = used } → RunsOn b n t₀ s₀ g₀ cells₀ d₀ k₀ used₀ budget cells q
  runs_out l q e =
      subst (RunsOn b n t₀ s₀ g₀ cells₀ d₀ k₀ used₀ budget cells) (sym e) (record { is = going_out b n _ budget left used t s g cells d k h l; most = omega arith })
