-- Where a call leads: into a method, with the operands that go along, or why not. Assumes nothing.
use Rattle.std.specs.Prelude.{Result as Answer, Ok, Err, ℕ, List}
use Rattle.plain.specs.Machine.{Here, Result}
use Rattle.plain.specs.declared.frames.Frame.{Frame}
use Rattle.plain.specs.CallSteps.{Going}
use Rattle.plain.specs.declared.window.Halt.{Halt}
use Rattle.running.specs.declared.entering.Way.{Way}
use Rattle.running.specs.Entering.{Enterable, Into}
use Rattle.running.specs.Throwing.{null_only}
use Rattle.running.specs.Calling.{CalledBy}

abbrev pub Route : Type 0
Route = Answer Way Halt

-- whoever stops with its halt, or goes its way, does what is said of the call
abbrev pub routed_by : ((Halt → Type 0) → List ℕ → ℕ → List ℕ → List ℕ → List ℕ → List ℕ → ℕ → Frame → (Here → Result) → Route → Type 0)
routed_by F b n t s g cells d k what (Err h) = CalledBy F b n t s g cells t s g cells d k (Err h) what
routed_by F b n t s g cells d k what (Ok y) =
    Enterable b n t s g d k y × ((t' s' g' : List ℕ) (r : Going) → Into b n t s g t' s' g' d k y r → CalledBy F b n t s g cells t' s' g' cells d k r what)

pub record RoutesBy (F : Halt → Type 0) (b : List ℕ) (n : ℕ) (t s g cells : List ℕ) (d : ℕ) (k : Frame) (what : Here → Result) (q : Route) : Type 0 where
  pub is : routed_by F b n t s g cells d k what q

-- the only fault is that of null
abbrev pub routed : (List ℕ → ℕ → List ℕ → List ℕ → List ℕ → List ℕ → ℕ → Frame → (Here → Result) → Route → Type 0)
routed b n t s g cells d k what q = routed_by null_only b n t s g cells d k what q

abbrev pub Routes : List ℕ → ℕ → List ℕ → List ℕ → List ℕ → List ℕ → ℕ → Frame → (Here → Result) → Route → Type 0
Routes b n t s g cells d k what q = RoutesBy null_only b n t s g cells d k what q

module _ {F : Halt → Type 0} (b : List ℕ) (n : ℕ) (t s g cells : List ℕ) (d : ℕ) (k : Frame) (what : Here → Result) where
  pub routes_off : (h : Halt) → CalledBy F b n t s g cells t s g cells d k (Err h) what → RoutesBy F b n t s g cells d k what (Err h)
  routes_off h c = record { is = c }

  pub routes_on : (y : Way) → Enterable b n t s g d k y
      → ((t' s' g' : List ℕ) (r : Going) → Into b n t s g t' s' g' d k y r → CalledBy F b n t s g cells t' s' g' cells d k r what)
      → RoutesBy F b n t s g cells d k what (Ok y)
  routes_on y a h = record { is = (a, h) }

  -- as part of another
  pub routes_as : (whole : Here → Result) → ((t' s' g' : List ℕ) (r : Going) → CalledBy F b n t s g cells t' s' g' cells d k r what → CalledBy F b n t s g cells t' s' g' cells d k r whole)
      → (q : Route) → RoutesBy F b n t s g cells d k what q → RoutesBy F b n t s g cells d k whole q
  routes_as whole f (Err h) c = record { is = f t s g (Err h) c.is }
  routes_as whole f (Ok y) c = record { is = (c.is.0, λ t' s' g' r i. f t' s' g' r (c.is.1 t' s' g' r i)) }
