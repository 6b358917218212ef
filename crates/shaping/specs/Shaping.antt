-- What phase C of one method asks of its site.
use Rattle.std.specs.Prelude.{ℕ, ◌≡◌, OnOk, List, ◌++◌, length}
use Rattle.kit.specs.Claims.{Claim, verdict, then}
use Rattle.reader.specs.Verdicts.{Fault}
use Rattle.classfiles.specs.Members.{Handler}
use Rattle.classfiles.specs.Attributes.{handlers_from}
use Rattle.rules.specs.Shape.{body_claims, form_claims, reference_claims, table_claims, shape_claims}
use Rattle.rules.specs.Sites.{front, program_at, method_at}
use Rattle.shaping.specs.Marks.{Ruled, ruled_as, lines_at, Ready}
use Rattle.rules.specs.declared.site.Site.{Site}

abbrev pub table_of : List ℕ → Site → List Handler
table_of s x = handlers_from s x.entries x.table

-- 10 and 11; where there is none, the marks
pub record Begun (s t : List ℕ) (x : Site) (r : Ruled) (u : List ℕ) : Type 0 where
  pub is :
      ruled_as r
      ≡ then (verdict (body_claims (method_at s (front t) x))) (verdict (form_claims (method_at s (front t) x) (lines_at s t x)))
  pub ready : OnOk r (Ready s u x)
  pub front : front u ≡ front t
  pub long : length u ≡ length t

-- 12 and 13
unfoldable pub end_claims : List ℕ → List ℕ → Site → List (Claim Fault)
end_claims s t x =
    reference_claims (lines_at s t x) (lines_at s t x)
    ++ table_claims (program_at s (front t) x) (method_at s (front t) x) (lines_at s t x) (table_of s x)

-- the whole of phase C
pub record Shaped (s t : List ℕ) (x : Site) (r : Ruled) (u : List ℕ) : Type 0 where
  pub is : ruled_as r ≡ verdict (shape_claims (program_at s (front t) x) (method_at s (front t) x))
  pub ready : OnOk r (Ready s u x)
  pub front : front u ≡ front t
  pub long : length u ≡ length t
