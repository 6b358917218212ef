-- An instruction that leaves its call, as a move of the run. Assumes nothing.
use Rattle.std.specs.Prelude.{Option as Found, ok_or, ℕ, ◌≡◌, true, false, List}
use Rattle.std.proofs.Common.{sym, subst}
use Rattle.rules.specs.InstructionWords.{leave_of}
use Rattle.rules.specs.declared.instruction.Leave.{Leave}
use Rattle.rules.specs.declared.instruction.Leave.TheVariants.{Athrow, Ireturn, Areturn, Return}
use Rattle.plain.specs.Step.{execute}
use Rattle.plain.specs.declared.frames.Frame.{Frame}
use Rattle.plain.specs.declared.window.Halt.TheVariants.{Stuck}
use Rattle.running.specs.Leaving.{Leaves, return_by, return_value_by}
use Rattle.running.specs.Athrow.{Athrows}
use Rattle.running.specs.declared.leaving.Left.{Left}
use Rattle.running.specs.Throwing.{Move}
use Rattle.stepping.specs.Moves.{executed, Does, Given, given_does, athrown_by}

module _ (b : List ℕ) (n : ℕ) (t s g cells s' g' : List ℕ) (d : ℕ) (k : Frame) (used z : ℕ) (i : Leave) (r : Found Left) (m : Move) (y : Given used (ok_or r Stuck) m) where
  leave_arm : (j : Leave) → i ≡ j → Does b n t s g cells d k used t s' g' cells m (executed b n t s g cells used d k z (leave_of j))
      → Does b n t s g cells d k used t s' g' cells m (executed b n t s g cells used d k z (leave_of i))
  leave_arm j e q = subst (λ (u : Leave). Does b n t s g cells d k used t s' g' cells m (executed b n t s g cells used d k z (leave_of u))) (sym e) q

  pub return_arm : i ≡ Return → Leaves b n t s g cells s' g' d k r (return_by b n t s g d k) → Does b n t s g cells d k used t s' g' cells m (executed b n t s g cells used d k z (leave_of i))
  unfolding execute
  return_arm e h = leave_arm Return e (given_does b n t s g cells s' g' d k used z r m (return_by b n t s g d k) h y)

  pub ireturn_arm : i ≡ Ireturn → Leaves b n t s g cells s' g' d k r (return_value_by b n t s g d k true) → Does b n t s g cells d k used t s' g' cells m (executed b n t s g cells used d k z (leave_of i))
  unfolding execute
  ireturn_arm e h = leave_arm Ireturn e (given_does b n t s g cells s' g' d k used z r m (return_value_by b n t s g d k true) h y)

  pub areturn_arm : i ≡ Areturn → Leaves b n t s g cells s' g' d k r (return_value_by b n t s g d k false) → Does b n t s g cells d k used t s' g' cells m (executed b n t s g cells used d k z (leave_of i))
  unfolding execute
  areturn_arm e h = leave_arm Areturn e (given_does b n t s g cells s' g' d k used z r m (return_value_by b n t s g d k false) h y)

pub athrow_arm : (b : List ℕ) (n : ℕ) (t s g cells s' g' cells' : List ℕ) (d : ℕ) (k : Frame) (used z : ℕ) (i : Leave) (m : Move) → i ≡ Athrow
    → Athrows b n t cells s g cells' s' g' d k used m → Does b n t s g cells d k used t s' g' cells' m (executed b n t s g cells used d k z (leave_of i))
athrow_arm b n t s g cells s' g' cells' d k used z i m e h =
    subst (λ (u : Leave). Does b n t s g cells d k used t s' g' cells' m (executed b n t s g cells used d k z (leave_of u))) (sym e) (athrown_by b n t s g cells s' g' cells' d k used m z h)
