-- Phase D of one method from the frame reader's answer. Assumes nothing.
use Rattle.std.specs.Prelude.{Ok, Err, IsErrAnd, ℕ, ◌+◌, ◌*◌, ◌<◌, ◌≤◌, ◌≡◌, refl, true, List, length}
use Rattle.std.proofs.Common.{sym}
use Rattle.reader.specs.TypeCodes.{params_in}
use Rattle.reader.specs.MemberRows.{block_at, row_count}
use Rattle.rules.specs.States.{parameter_tys}
use Rattle.rules.specs.Sites.{front, method_at}
use Rattle.verifier.specs.FrameReading.{Readable}
use Rattle.verifier.specs.MethodWalks.{MethodWalked}
use Rattle.shaping.specs.Passing.{Typable}
use Rattle.shaping.specs.Phases.{Readied, typing_by, judged_at, Judged}
use Rattle.verifier.specs.Typing.{few_now, method-walked, frames-refused}
use Rattle.rules.specs.declared.site.Site.{Site}
use Rattle.shaping.specs.Marks.{Ruled}
use Rattle.verifier.specs.FrameTable.{FramesRead}
use Rattle.texts.specs.declared.faults.Got.{Got}
use Rattle.texts.specs.declared.faults.Fault as faults
use Rattle.rules.specs.declared.frames.Rows.{Rows}

-- what the frame reader asks, of a method that phase C has passed
pub frames-asked : (s : List ℕ) (n c m : ℕ) (x : Site) (t u : List ℕ) → Readied s n t → c < n → m < row_count (block_at (front t) c) true → Typable s n c m x t u
    → Readable s u x × (length (parameter_tys (method_at s (front u) x)) ≤ x.locals) × (length (params_in u (64 * x.class + x.method)) ≤ 16)
frames-asked s n c m x t u h l g y = (record { marked = y.ready; init = y.init }, y.room, few_now s n c m x t u u h l g y refl)

-- t as phase D found the method, u with its marks, v with its frames too
module _ (s : List ℕ) (n c m : ℕ) (x : Site) (t u v : List ℕ) (h : Readied s n t) (l : c < n) (g : m < row_count (block_at (front t) c) true)
    (y : Typable s n c m x t u) where
  pub frames_wrong : (e : faults.Fault) → FramesRead s u x (Err e) v → (r : Ruled) → IsErrAnd r (λ z. z ≡ e) → Judged (judged_at typing_by s n t c m) r t v
  frames_wrong e z r p = frames-refused s n c m x t u v h l g y z.front r e p (sym z.is)

  pub method-typed : (f : Got Rows) → FramesRead s u x (Ok f) v → (w : List ℕ) (r : Ruled) → MethodWalked s v w x f.val r → Judged (judged_at typing_by s n t c m) r t w
  method-typed f z w r k = method-walked s n c m x t u v h l g y z.front w f.val f.at r (sym z.is) k
