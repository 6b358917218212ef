-- A frame as the code reads it: its locals stand in the words from 65,184 on, its operands in those from 65,216 on.
use Rattle.std.specs.Prelude.{ℕ, ◌≤◌, ◌≡◌, Result, IfOk, IfErr, cond, List, length, leb}
use Rattle.texts.specs.Reading.{Res, ok, bad, and_then}
use Rattle.texts.specs.Answers.{res_as}
use Rattle.texts.specs.Faults.{number}
use Rattle.rules.specs.Types.{Ty}
use Rattle.rules.specs.Slots.{locals_at}
use Rattle.rules.specs.Frames.{Written, written, one_on_stack, appended, chopped, full_at}
use Rattle.rules.specs.Sites.{front, program_at, method_at}
use Rattle.shaping.specs.Marks.{lines_at}
use Rattle.verifier.specs.Besides.{Besides}
use Rattle.rules.specs.declared.site.Site.{Site}
use Rattle.texts.specs.declared.faults.Got.{Got}
use Rattle.texts.specs.declared.faults.Fault as faults
use Rattle.verifier.specs.declared.frame_reader.Drawn.{Drawn}

abbrev pub drawing : ℕ → ℕ → ℕ → ℕ → Got Drawn
drawing d l o a = record { val = record { delta = d; locals = l; stack = o }; at = a }

-- the locals and the operands at hand
abbrev pub list_in : List ℕ → ℕ → List Ty
list_in t n = locals_at t 65184 n

abbrev pub stack_in : List ℕ → ℕ → List Ty
stack_in t n = locals_at t 65216 n

abbrev pub written_in : List ℕ → Drawn → Written
written_in u r = written r.delta (list_in u r.locals) (stack_in u r.stack)

abbrev pub drawn_as : List ℕ → Result (Got Drawn) faults.Fault → Res Written
drawn_as u r = res_as (written_in u) r

-- no larger than the method's limits
unfoldable pub sized : Site → ℕ → Written → ℕ → Res Written
sized x k w e = cond (leb (length w.locals) x.locals) (cond (leb (length w.stack) x.stack) (ok w e) (bad 14 k)) (bad 14 k)

module _ (s t : List ℕ) (x : Site) (f : List ℕ) (k : ℕ) where
  unfoldable pub one_by : ℕ → ℕ → ℕ → Res Written
  one_by d n q = one_on_stack (program_at s (front t) x) (method_at s (front t) x) (lines_at s t x) f k d (list_in t n) q

  unfoldable pub append_by : ℕ → ℕ → ℕ → ℕ → Res Written
  append_by d m n q = appended (program_at s (front t) x) (method_at s (front t) x) (lines_at s t x) f k d m (list_in t n) q

  unfoldable pub chop_by : ℕ → ℕ → ℕ → ℕ → Res Written
  chop_by d m n e = chopped (program_at s (front t) x) (method_at s (front t) x) (lines_at s t x) f k d m (list_in t n) e

  unfoldable pub full_by : ℕ → ℕ → Res Written
  full_by d q = full_at (program_at s (front t) x) (method_at s (front t) x) (lines_at s t x) f k d q

-- what a form gives, within the limits; only the words at hand change
pub record Drew (s t : List ℕ) (x : Site) (k : ℕ) (form : Res Written) (r : Result (Got Drawn) faults.Fault) (u : List ℕ) : Type 0 where
  pub is : drawn_as u r ≡ and_then form (sized x k)
  pub wrong : IfErr r (λ e. (number e.0 ≡ 14) × (e.1 ≡ k))
  pub besides : Besides 65184 64 t u
  pub locals : IfOk r (λ g. g.val.locals ≤ x.locals)
  pub stack : IfOk r (λ g. g.val.stack ≤ x.stack)
