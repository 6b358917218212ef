-- The marks of a method's offsets, a byte each from 256,640 on, and what the scan that writes them answers.
use Rattle.std.specs.Prelude.{ℕ, ◌+◌, ◌-◌, ◌<◌, ◌≤◌, ◌≡◌, Result, OnOk, cond, List, [], ◌∷◌, eqb, length, get_or}
use Rattle.kit.specs.Claims.{Ruling, pass, ruled, verdict}
use Rattle.texts.specs.Faults.{number}
use Rattle.texts.specs.declared.faults.Fault as code
use Rattle.reader.specs.Verdicts.{Fault, fault}
use Rattle.rules.specs.Instruction.{is_new}
use Rattle.rules.specs.Lines.{Line, line, lines}
use Rattle.rules.specs.Shape.{form_claims, shape_claims}
use Rattle.rules.specs.Sites.{front, program_at, method_at, Here}
use Rattle.rules.specs.declared.site.Site.{Site}

-- what the code's answer on a method says
abbrev pub Ruled : Type 0
Ruled = Result (Unit {0}) code.Fault

abbrev pub spot_of : code.Fault → Fault
spot_of f = fault (number f.0) f.1

abbrev pub ruled_as : Ruled → Ruling Fault
ruled_as r = ruled spot_of r

unfoldable pub mark_at : List ℕ → ℕ → ℕ
mark_at t o = get_or t (256640 + o) 0

unfoldable pub mark_in : List Line → ℕ → ℕ
mark_in [] j = 0
mark_in (line o i n ∷ ls) j = cond (eqb o j) (cond (is_new i) 2 1) (mark_in ls j)

-- the first n marks are 0, and the front is as it was
pub record Cleared (n : ℕ) (t u : List ℕ) : Type 0 where
  pub zeros : (j : ℕ) → j < n → mark_at u j ≡ 0
  pub front : front u ≡ front t
  pub long : length u ≡ length t

-- the marks of a code of n bytes, in which all of them start
pub record Marked (ls : List Line) (n : ℕ) (t : List ℕ) : Type 0 where
  pub at : (j : ℕ) → j < n → mark_at t j ≡ mark_in ls j
  pub past : (j : ℕ) → n ≤ j → mark_in ls j ≡ 0

-- the lines of the method at a site
unfoldable pub lines_at : List ℕ → List ℕ → Site → List Line
lines_at s t x = lines (program_at s (front t) x) (method_at s (front t) x)

-- all 11 of a method; where there is none, its marks
pub record Scanned (s t : List ℕ) (x : Site) (r : Ruled) (u : List ℕ) : Type 0 where
  pub is : ruled_as r ≡ verdict (form_claims (method_at s (front t) x) (lines_at s t x))
  pub marks : OnOk r (Marked (lines_at s t x) (x.end - x.start) u)
  pub front : front u ≡ front t
  pub long : length u ≡ length t

-- the scratch has this method's marks
pub record Ready (s t : List ℕ) (x : Site) : Type 0 where
  pub here : Here s t x
  pub one : x.codes ≡ 1
  pub long : 262144 ≤ length t
  pub marks : Marked (lines_at s t x) (x.end - x.start) t

-- phase C passes the method at a site
abbrev pub PassesShape : List ℕ → List ℕ → Site → Type 0
PassesShape s t x = verdict (shape_claims (program_at s (front t) x) (method_at s (front t) x)) ≡ pass

-- the scratch u has this method's marks, and the front of t
pub record Restored (s t : List ℕ) (x : Site) (u : List ℕ) : Type 0 where
  pub ready : Ready s u x
  pub front : front u ≡ front t
