-- What is asked of a frame once it is read within the limits: an instruction start, no top on the stack.
use Rattle.std.specs.Prelude.{ℕ, ◌+◌, ◌<◌, ◌≡◌, Result, Ok, Err, IfErr, OnOk, Bool, true, false, cond, List, [], ◌∷◌}
use Rattle.texts.specs.Reading.{Res, ok, bad}
use Rattle.texts.specs.Faults.{number}
use Rattle.texts.specs.declared.faults.Fault as faults
use Rattle.rules.specs.Types.{Ty, is_top}
use Rattle.rules.specs.Lines.{is_start}
use Rattle.rules.specs.Frames.{Written}
use Rattle.shaping.specs.Marks.{lines_at}
use Rattle.verifier.specs.Drawing.{written_in}
use Rattle.rules.specs.declared.site.Site.{Site}
use Rattle.verifier.specs.declared.frame_reader.Drawn.{Drawn}

unfoldable pub topless : List Ty → Bool
topless [] = true
topless (v ∷ vs) = cond (is_top v) false (topless vs)

unfoldable pub standing : List ℕ → List ℕ → Site → ℕ → ℕ → Written → ℕ → Res Written
standing s t x k from w e = cond (is_start (lines_at s t x) (from + w.delta)) (cond (topless w.stack) (ok w e) (bad 14 k)) (bad 14 k)

-- what was read, r, is kept where it stands; otherwise the fault
abbrev pub kept_as : List ℕ → Drawn → ℕ → Result (Unit {0}) faults.Fault → Res Written
kept_as t r e (Ok u) = ok (written_in t r) e
kept_as t r e (Err z) = bad (number z.0) z.1

pub record Picked (s t : List ℕ) (x : Site) (k from : ℕ) (r : Drawn) (g : Result (Unit {0}) faults.Fault) : Type 0 where
  pub is : (e : ℕ) → kept_as t r e g ≡ standing s t x k from (written_in t r) e
  pub wrong : IfErr g (λ e. (number e.0 ≡ 14) × (e.1 ≡ k))
  pub offset : OnOk g (from + r.delta < 65536)
