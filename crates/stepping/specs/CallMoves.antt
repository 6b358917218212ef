-- An instruction that calls, as a move of the run. Assumes nothing.
use Rattle.std.specs.Prelude.{Result as Answer, ℕ, ◌≤◌, ◌≡◌, List, length}
use Rattle.classfiles.specs.Limits.{max_heap}
use Rattle.rules.specs.InstructionWords.{call_of}
use Rattle.rules.specs.declared.site.Site.{Site}
use Rattle.rules.specs.declared.instruction.Call.{Call}
use Rattle.plain.specs.declared.frames.Frame.{Frame}
use Rattle.plain.specs.CallSteps.{Going}
use Rattle.plain.specs.declared.window.Halt.{Halt}
use Rattle.running.specs.Throwing.{Move}
use Rattle.stepping.specs.Moves.{executed, Does, going_on, After, Lands, called_does, called_lands}
use Rattle.running.specs.Calling.{CalledBy}
use Rattle.running.specs.Sending.{CallReady, call_by, ready_at_lem}

-- the call, from what came of going into it
pub call_does : {F : Halt → Type 0} (b : List ℕ) (t s g cells t' s₁ g₁ cells₁ s' g' cells' : List ℕ) (x : Site) (d : ℕ) (k : Frame) (used : ℕ) (i : Call) (r : Going) (o : Answer Move Halt) (m : Move)
    → CalledBy F b x.classes t s g cells t' s₁ g₁ cells₁ d k r (call_by b t s g x d k i) → o ≡ going_on used r
    → After b x.classes t' s₁ g₁ cells₁ s' g' cells' d k used o m
    → Does b x.classes t s g cells d k used t' s' g' cells' m (executed b x.classes t s g cells used d k 3 (call_of i))
unfolding call_by
call_does b t s g cells t' s₁ g₁ cells₁ s' g' cells' x d k used i r o m h e y =
    called_does b x.classes t s g cells t' s₁ g₁ cells₁ s' g' cells' d k used m (call_by b t s g x d k i) r h o e y

pub call_lands : {F : Halt → Type 0} (b : List ℕ) (t s g cells t' s₁ g₁ cells₁ : List ℕ) (x : Site) (d : ℕ) (k : Frame) (used : ℕ) (i : Call) (r : Going) (o : Answer Move Halt)
    → CallReady b t s g x d k i → length cells ≤ max_heap → length cells₁ ≡ length cells → CalledBy F b x.classes t s g cells t' s₁ g₁ cells₁ d k r (call_by b t s g x d k i) → o ≡ going_on used r → Lands b x.classes t' s₁ g₁ cells₁ d k o
call_lands b t s g cells t' s₁ g₁ cells₁ x d k used i r o h l q y e = called_lands b x.classes t s g cells t' s₁ g₁ cells₁ d k used r (call_by b t s g x d k i) o e y (ready_at_lem b t s g x d k i h).standing l q
