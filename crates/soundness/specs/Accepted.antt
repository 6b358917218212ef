-- From the verdict `pass` to what each phase has shown, as facts.
use Rattle.std.specs.Prelude.{ℕ, ◌+◌, ◌<◌, ◌≡◌, refl, List, length}
use Rattle.kit.specs.Claims.{AllT, pass, fail_pass, pass_all}
use Rattle.reader.specs.Verdicts.{fault}
use Rattle.texts.specs.Reading.{Res, ok, bad}
use Rattle.reader.specs.BuiltIns.{first_class}
use Rattle.reader.specs.Program.{Program, Method, class, method}
use Rattle.reader.specs.Link.{program}
use Rattle.rules.specs.Frames.{Frame, frames}
use Rattle.rules.specs.Walk.{walk_claims}
use Rattle.shaping.specs.Verify.{walked, typing, read_shaped, type_read, verdict_of}
use Rattle.facts.specs.Shown.{Shown, all_pass, shown}

-- what phase D has shown of a method
pub record Judged (P : Program) (M : Method) : Type 0 where
  pub table : List Frame
  pub end : ℕ
  pub read : frames P M ≡ ok table end
  pub claims : AllT (walk_claims P M table)

pub record Accepted (s : List ℕ) (P : Program) : Type 0 where
  pub before : Shown s P
  pub judged : (i j : ℕ) → j < length (class P (first_class + i)).methods → Judged P (method P (first_class + i) j)

judging : (P : Program) (M : Method) → walked P M (frames P M) ≡ pass → Judged P M
unfolding walked
judging P M w = go (frames P M) refl w
  where
    go : (r : Res (List Frame)) → frames P M ≡ r → walked P M r ≡ pass → Judged P M
    go (ok fs e) p w = record { table = fs; end = e; read = p; claims = pass_all (walk_claims P M fs) w }
    go (bad n q) p w = absurd (fail_pass (fault n q) w)

pub accepted : (s : List ℕ) → verdict_of s ≡ pass → (P : Program) → read_shaped s ≡ program P → Accepted s P
unfolding verdict_of type_read typing
accepted s v P e =
    let t : typing P ≡ pass = rw e at v in
    record { before = shown s P e; judged = λ i j h. judging P (method P (first_class + i) j) (all_pass (λ M. walked P M (frames P M)) P t i j h) }
