-- What the code's answers say, and what `search` follows: a function's early returns against the meaning's chain.
-- Assumes nothing.
use Rattle.std.specs.Prelude.{ℕ, Result, Ok, Err, IsErrAnd, ◌≡◌, ltb}
use Rattle.std.proofs.Common.{ap}
use Rattle.kit.specs.Pick.{calls}
use Rattle.texts.specs.Reading.{Res, ok, bad, and_then}
use Rattle.texts.specs.Faults.{number}
use Rattle.texts.specs.declared.faults.Got.{Got}
use Rattle.texts.specs.declared.faults.Fault.{Fault}

-- what was read, seen as f says, and the position past it; or the number and the place that what it hands on stands for
abbrev pub res_by : {T A E : Type 0} → (T → A) → (E → ℕ) → (E → ℕ) → Result (Got T) E → Res A
res_by f n p (Ok r) = ok (f r.val) r.at
res_by f n p (Err e) = bad (n e) (p e)

-- the same of a fault
abbrev pub res_as : {T A : Type 0} → (T → A) → Result (Got T) Fault → Res A
res_as f r = res_by f (λ e. number e.0) (λ e. e.1) r

-- a number that was read
abbrev pub res : Result (Got ℕ) Fault → Res ℕ
res = res_as (λ n. n)

-- a reading goes on with what was read, and ends at a fault
module _ {A B : Type 0} (R : Res B) (x : Res A) (f : A → ℕ → Res B) where
  pub t_ok : (v : A) (e : ℕ) → ok v e ≡ x → R ≡ f v e → R ≡ and_then x f
  unfolding and_then
  t_ok v e h p = rw (← h) p

  pub t_bad : (n p : ℕ) → bad n p ≡ x → R ≡ bad n p → R ≡ and_then x f
  unfolding and_then
  t_bad n p h q = rw (← h) q

-- what `?` hands on
module _ {T A B E : Type 0} (F : T → B) (n p : E → ℕ) (x : Res A) (f : A → ℕ → Res B) where
  pub t_hand : (r : Result (Got T) E) (e : E) → IsErrAnd r (λ z. z ≡ e) → bad (n e) (p e) ≡ x → res_by F n p r ≡ and_then x f
  unfolding and_then
  t_hand (Err z) e q h = rw (← h, q)
  t_hand (Ok z) e q h = absurd q

pub t_stop : {T A B : Type 0} (F : T → B) (x : Res A) (f : A → ℕ → Res B) (r : Result (Got T) Fault) (e : Fault) → IsErrAnd r (λ z. z ≡ e) → bad (number e.0) e.1 ≡ x → res_as F r ≡ and_then x f
t_stop F x f = t_hand F (λ e. number e.0) (λ e. e.1) x f

pub same_ok : {A : Type 0} (v w : A) (e : ℕ) → v ≡ w → ok v e ≡ ok w e
same_ok {A} v w e p = ap (λ (n : A). ok n e) p

pub same_bad : {A : Type 0} (n m p q : ℕ) → n ≡ m → p ≡ q → ◌≡◌ {A = Res A} (bad n p) (bad m q)
same_bad n m p q d e = cc

pub ltb_via : (k a b : ℕ) → k ≡ a → ltb k b ≡ ltb a b
ltb_via k a b e = ap (λ (n : ℕ). ltb n b) e

pub ruleset reads = (t_ok, t_bad, t_stop, calls, same_ok, same_bad)
