-- What the code's readings say where the position past what was read is all that is kept, and faults that are handed on.
-- Assumes nothing.
use Rattle.std.specs.Prelude.{ℕ, Result, Ok, Err, IsErrAnd, IfOk, ◌≡◌}
use Rattle.texts.specs.Reading.{Res, ok, bad, and_then}
use Rattle.texts.specs.Faults.{number}
use Rattle.texts.specs.Answers.{res_as, t_bad, reads}
use Rattle.texts.specs.declared.faults.Got.{Got}
use Rattle.texts.specs.declared.faults.Fault.{Fault}

-- what a was read for, and the position past it; or the fault's number and place
abbrev pub past : {A : Type 0} → A → Result ℕ Fault → Res A
past a (Ok e) = ok a e
past a (Err f) = bad (number f.0) f.1

-- a fault that `?` hands on
module _ {A : Type 0} (f : Fault) where
  pub past_err : (a : A) (r : Result ℕ Fault) → IsErrAnd r (λ z. z ≡ f) → past a r ≡ bad (number f.0) f.1
  past_err a (Err z) p = rw p
  past_err a (Ok z) p = absurd p

  pub res_err : {T : Type 0} (F : T → A) (r : Result (Got T) Fault) → IsErrAnd r (λ z. z ≡ f) → res_as F r ≡ bad (number f.0) f.1
  res_err F (Err z) p = rw p
  res_err F (Ok z) p = absurd p

pub past_stop : {A B : Type 0} (b : B) (x : Res A) (g : A → ℕ → Res B) (r : Result ℕ Fault) (f : Fault) → IsErrAnd r (λ z. z ≡ f) → bad (number f.0) f.1 ≡ x → past b r ≡ and_then x g
past_stop b x g r f p h = t_bad (past b r) x g (number f.0) f.1 h (past_err f b r p)

-- a fault keeps what is said of what was read
pub no_value : {T : Type 0} (P : T → Type 0) (r : Result T Fault) (f : Fault) → IsErrAnd r (λ z. z ≡ f) → IfOk r P
no_value P (Err z) f p = tt
no_value P (Ok z) f p = absurd p

pub ruleset forms = (past_stop, reads)
