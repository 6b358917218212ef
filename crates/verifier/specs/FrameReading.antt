-- The frame table's parts at a method's site, as the code reads them.
use Rattle.std.specs.Prelude.{ℕ, Result, cond, List}
use Rattle.texts.specs.Reading.{Res, ok, bad, and_then}
use Rattle.texts.specs.Answers.{res_as}
use Rattle.reader.specs.Program.{class}
use Rattle.rules.specs.Resolve.{resolve}
use Rattle.rules.specs.Lines.{is_new_at}
use Rattle.rules.specs.Types.{at, Ty, uninit}
use Rattle.rules.specs.TypeWords.{type_of}
use Rattle.rules.specs.Frames.{number_at, class_ty, tagged_at, info_at}
use Rattle.rules.specs.Sites.{front, program_at, method_at, KnowsInit}
use Rattle.shaping.specs.Marks.{lines_at, Ready}
use Rattle.rules.specs.declared.site.Site.{Site}
use Rattle.rules.specs.declared.types.Ty as words
use Rattle.texts.specs.declared.faults.Got.{Got}
use Rattle.texts.specs.declared.faults.Fault as faults

-- what the reader asks: the method's marks, and whether it is a constructor
pub record Readable (s t : List ℕ) (x : Site) : Type 0 where
  pub marked : Ready s t x
  pub init : KnowsInit s (front t) x

-- a type that was read
abbrev pub typed_as : Result (Got words.Ty) faults.Fault → Res Ty
typed_as r = res_as (λ w. type_of w.word) r

-- whatever is wrong with frame k
abbrev pub wrong_type : ℕ → Res Ty
wrong_type k = bad 14 k

module _ (s t : List ℕ) (x : Site) where
  -- what pool entry i names
  unfoldable pub type_named : ℕ → ℕ → ℕ → Res Ty
  type_named k i e =
      class_ty (program_at s (front t) x) (method_at s (front t) x) (lines_at s t x) s k (resolve (program_at s (front t) x) (class (program_at s (front t) x) (method_at s (front t) x).owner).pool i) e

  module _ (f : List ℕ) (k : ℕ) where
    -- behind the tags 7 and 8
    unfoldable pub type_classed : ℕ → Res Ty
    type_classed q =
        and_then (number_at (program_at s (front t) x) (method_at s (front t) x) (lines_at s t x) f k q) λ i a. type_named k i a

    unfoldable pub type_made : ℕ → Res Ty
    type_made q =
        and_then (number_at (program_at s (front t) x) (method_at s (front t) x) (lines_at s t x) f k q) λ L a.
        cond (is_new_at (lines_at s t x) L) (ok (uninit (at L)) a) (bad 14 k)

    unfoldable pub type_tagged : ℕ → ℕ → Res Ty
    type_tagged tag e = tagged_at (program_at s (front t) x) (method_at s (front t) x) (lines_at s t x) f k tag e

    unfoldable pub type_at : ℕ → Res Ty
    type_at q = info_at (program_at s (front t) x) (method_at s (front t) x) (lines_at s t x) f k q
