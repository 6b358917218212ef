-- A run's loop over a stretch of steps. Assumes nothing.
use Rattle.std.specs.Prelude.{ℕ, ◌+◌, ◌-◌, ◌≤◌, ◌≡◌, List, length}
use Rattle.std.proofs.Common.{sym, ap, subst, ◌∙◌, arith}
use Rattle.classfiles.specs.Limits.{max_heap}
use Rattle.rules.specs.declared.site.Site.{Site}
use Rattle.shaping.specs.Phases.{program_now}
use Rattle.plain.specs.Run.{Ran, run}
use Rattle.plain.specs.declared.frames.Frame.{Frame}
use Rattle.running.specs.Standing.{machine_of, Standing}
use Rattle.stepping.specs.Fetching.{at_standing, at_located}
use Rattle.stretching.specs.Forwarding.{Ahead, Forward, at_spot}
use Rattle.stretching.specs.declared.stretch.Spot.{Spot}
use Rattle.machine.specs.Turns.{SiteOf, Going}
use Rattle.machine.specs.declared.turns.Reached.{Reached}

-- wherever the loop was, it goes on from there, in the same method
pub record Onward (b : List ℕ) (n : ℕ) (t s g cells : List ℕ) (d : ℕ) (k : Frame) (used left : ℕ) (s' g' cells' : List ℕ) (r : Reached) : Type 0 where
  pub going : (R : Ran) (budget : ℕ) → Going b n R budget left used t s g cells d k → Going b n R budget r.left r.used t s' g' cells' d r.call
  pub stands : Standing b n t s' g' d r.call
  pub site : (x : Site) → SiteOf b n t k x → SiteOf b n t r.call x
  pub most : r.left ≤ left

module _ (b : List ℕ) (n : ℕ) (t s g cells : List ℕ) (d : ℕ) (k : Frame) (x : Site) (l : SiteOf b n t k x) where
  pub onward_ahead : Standing b n t s g d k → length cells ≤ max_heap → Ahead b t s g cells x d k
  onward_ahead h z = record { standing = at_standing b n t s g d k x l h; located = at_located b n t s g d k x l; size = z }

  pub onward_by : (used left : ℕ) (s' g' cells' : List ℕ) (q : Spot) → Forward b t s g cells s' g' cells' x d k used left q
      → Onward b n t s g cells d k used left s' g' cells' (record { call = at_spot k q; used = q.used; left = q.left })
  onward_by used left s' g' cells' q f = record {
    going = λ R budget h.
        let y = f.left_most in
        let e : (budget - left) + (left - q.left) ≡ budget - q.left = omega (arith, h.most) in
        record {
          rest =
              ap (λ (i : ℕ). run (program_now b n t) q.left i (machine_of cells' q.used t s' g' d (at_spot k q))) (sym e)
              ∙ sym (subst (λ (m : ℕ). run (program_now b m t) left (budget - left) (machine_of cells used t s g d k)
              ≡ run (program_now b m t) q.left ((budget - left) + (left - q.left)) (machine_of cells' q.used t s' g' d (at_spot k q))) l.classes (f.is (budget - left)))
              ∙ h.rest;
          stands = subst (λ (m : ℕ). Standing b m t s' g' d (at_spot k q)) l.classes f.stands;
          dispatch = h.dispatch;
          most = omega (arith, h.most);
        };
    stands = subst (λ (m : ℕ). Standing b m t s' g' d (at_spot k q)) l.classes f.stands;
    site = λ z h. h;
    most = f.left_most;
  }
