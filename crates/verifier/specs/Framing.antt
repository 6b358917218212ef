-- One frame of the table as the code reads it, held to the definition's; what is read stands in the words at hand.
use Rattle.std.specs.Prelude.{ℕ, ◌+◌, ◌<◌, ◌≤◌, ◌≡◌, Result, IfOk, IfErr, List}
use Rattle.texts.specs.Reading.{Res}
use Rattle.texts.specs.Faults.{number}
use Rattle.rules.specs.Frames.{Written, frame_at}
use Rattle.rules.specs.Sites.{front, program_at, method_at}
use Rattle.shaping.specs.Marks.{lines_at}
use Rattle.verifier.specs.Besides.{Besides}
use Rattle.verifier.specs.Drawing.{list_in, drawn_as}
use Rattle.rules.specs.declared.site.Site.{Site}
use Rattle.texts.specs.declared.faults.Got.{Got}
use Rattle.texts.specs.declared.faults.Fault as faults
use Rattle.verifier.specs.declared.frame_reader.Drawn.{Drawn}

-- frame k at q, where the frame before left n locals and a delta of 0 leads to `from`
unfoldable pub frame_by : List ℕ → List ℕ → Site → List ℕ → ℕ → ℕ → ℕ → ℕ → Res Written
frame_by s t x f k from n q = frame_at (program_at s (front t) x) (method_at s (front t) x) (lines_at s t x) f k from (list_in t n) q

pub record Framing (s t : List ℕ) (x : Site) (f : List ℕ) (k from n q : ℕ) (r : Result (Got Drawn) faults.Fault) (u : List ℕ) : Type 0 where
  pub is : drawn_as u r ≡ frame_by s t x f k from n q
  pub wrong : IfErr r (λ e. (number e.0 ≡ 14) × (e.1 ≡ k))
  pub besides : Besides 65184 64 t u
  pub locals : IfOk r (λ g. g.val.locals ≤ x.locals)
  pub stack : IfOk r (λ g. g.val.stack ≤ x.stack)
  pub offset : IfOk r (λ g. from + g.val.delta < 65536)
