-- Where a thrown object lands, call by call, by what the code finds in each one's table. Assumes nothing.
use Rattle.std.specs.Prelude.{Option as Found, Some, None, ◌≡◌, ℕ, suc, List, [], ◌∷◌}
use Rattle.std.proofs.Common.{refl}
use Rattle.reader.specs.Program.{Program, method}
use Rattle.rules.specs.Opcodes.{body}
use Rattle.plain.specs.Heap.{Val}
use Rattle.plain.specs.Machine.{Call, call, Here, catcher, Landing, landing, landing_at, land, calls_from}
use Rattle.plain.specs.Windows.{ops_of, locs_of}
use Rattle.plain.specs.Calls.{window_at, frame_at, call_of, call_at, waiting}
use Rattle.plain.specs.CallSteps.{Runs}
use Rattle.plain.specs.Catching.{caught_of}
use Rattle.plain.specs.declared.frames.Frame.{Frame}

-- the call at a handler, its operands gone
unfoldable pub at_handler : Frame → ℕ → Frame
at_handler k target = record { class = k.class; method = k.method; offset = target; own = k.own; operands = 0; locals = k.locals }

-- what the code found is what catches there
abbrev pub Finds : Program → ℕ → Frame → Found ℕ → Type 0
Finds P c k r = caught_of r ≡ catcher P (method P k.class k.method) k.offset c (body (method P k.class k.method)).table

-- here, or in the calls that wait
abbrev pub landed_or : Found ℕ → Frame → List ℕ → List ℕ → List Call → Landing → Landing
landed_or None k w g ks rest = rest
landed_or (Some target) k w g ks rest = landing (call_of (at_handler k target) w g) ks

module _ (P : Program) (c : ℕ) (w g : List ℕ) (k : Frame) (r : Found ℕ) (e : Finds P c k r) where
  pub land_here : (vs : List Val) (ks : List Call)
      → land P c (call k.class k.method k.offset k.own (locs_of w g k.locals) vs ∷ ks) ≡ landed_or r k w g ks (land P c ks)
  unfolding land at_handler ops_of
  land_here vs ks = rw (← e) (go r)
    where
      go : (q : Found ℕ) → landing_at (caught_of q) (call k.class k.method k.offset k.own (locs_of w g k.locals) vs) ks (land P c ks) ≡ landed_or q k w g ks (land P c ks)
      go None = refl
      go (Some z) = refl

-- from the running call, and from the innermost of those that wait
pub land-running : (P : Program) (c : ℕ) (x : Here) (t s g : List ℕ) (a d : ℕ) (k : Frame) (r : Found ℕ) → Runs x t s g a d k → Finds P c k r
    → land P c (calls_from x) ≡ landed_or r k (window_at s d) (window_at g d) (waiting t a s g d) (land P c (waiting t a s g d))
land-running P c x t s g a d k r z e =
    rw (z.class, z.index, z.offset, z.self, z.locals, z.waiting) (land_here P c (window_at s d) (window_at g d) k r e [] (waiting t a s g d))

pub land-waiting : (P : Program) (c : ℕ) (t s g : List ℕ) (a d : ℕ) (r : Found ℕ) → Finds P c (frame_at t a d) r
    → land P c (waiting t a s g (suc d)) ≡ landed_or r (frame_at t a d) (window_at s d) (window_at g d) (waiting t a s g d) (land P c (waiting t a s g d))
unfolding waiting call_at
land-waiting P c t s g a d r e =
    land_here P c (window_at s d) (window_at g d) (frame_at t a d) r e (ops_of (window_at s d) (window_at g d) (frame_at t a d).operands) (waiting t a s g d)
