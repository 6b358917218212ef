-- The forms of a frame at a method's site, as the code reads them: n is how many locals are at hand.
use Rattle.std.specs.Prelude.{ℕ, List}
use Rattle.texts.specs.Reading.{Res, ok, and_then, many}
use Rattle.rules.specs.Types.{Ty}
use Rattle.rules.specs.Frames.{Written, written, number_at, long_form, form_at}
use Rattle.rules.specs.Sites.{front, program_at, method_at}
use Rattle.shaping.specs.Marks.{lines_at}
use Rattle.verifier.specs.FrameReading.{type_at}
use Rattle.verifier.specs.Drawing.{list_in}
use Rattle.rules.specs.declared.site.Site.{Site}

module _ (s t : List ℕ) (x : Site) (f : List ℕ) (k : ℕ) where
  -- a u2 of the table
  unfoldable pub count_by : ℕ → Res ℕ
  count_by q = number_at (program_at s (front t) x) (method_at s (front t) x) (lines_at s t x) f k q

  -- what follows the locals of a full frame
  unfoldable pub rest_by : ℕ → List Ty → ℕ → Res Written
  rest_by d l q = and_then (count_by q) λ m c. and_then (many (type_at s t x f k) m c) λ v e. ok (written d l v) e

  unfoldable pub stack_by : ℕ → ℕ → ℕ → Res Written
  stack_by d n q = rest_by d (list_in t n) q

  unfoldable pub long_by : ℕ → ℕ → ℕ → ℕ → Res Written
  long_by tag d n q = long_form (program_at s (front t) x) (method_at s (front t) x) (lines_at s t x) f k tag d (list_in t n) q

  unfoldable pub form_by : ℕ → ℕ → ℕ → Res Written
  form_by tag n q = form_at (program_at s (front t) x) (method_at s (front t) x) (lines_at s t x) f k tag (list_in t n) q
