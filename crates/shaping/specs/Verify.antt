-- Verdicts of a bundle from its bytes, through all phases; and what `verify` leaves.
use Rattle.std.specs.Prelude.{ℕ, suc, cond, List, [], ◌∷◌, length, drop, replicate, ltb}
use Rattle.kit.specs.Claims.{Ruling, pass, fail, verdict, then, relabel}
use Rattle.classfiles.specs.Limits.{scratch_size}
use Rattle.reader.specs.Verdicts.{Fault, fault, Refusal, in_method, in_bundle, Verdict}
use Rattle.texts.specs.Reading.{Res, ok, bad}
use Rattle.reader.specs.BuiltIns.{first_class}
use Rattle.reader.specs.Program.{Program, Class, Method}
use Rattle.reader.specs.Link.{Read, refused, program, or_refused, read_bundle}
use Rattle.rules.specs.Shape.{shape_claims}
use Rattle.rules.specs.Frames.{Frame, frames}
use Rattle.rules.specs.Walk.{walk_claims}

-- the first refusal over the methods of each bundle class in turn
module _ (judge : Method → Ruling Fault) where
  unfoldable pub over_methods : ℕ → ℕ → List Method → Verdict
  over_methods i j [] = pass
  over_methods i j (M ∷ Ms) = then (relabel (in_method i j) (judge M)) (over_methods i (suc j) Ms)

  unfoldable pub over_classes : ℕ → List Class → Verdict
  over_classes i [] = pass
  over_classes i (C ∷ Cs) = then (over_methods i 0 C.methods) (over_classes (suc i) Cs)

abbrev pub bundle_classes : Program → List Class
bundle_classes P = drop first_class P.classes

-- phase C
unfoldable pub shape : Program → Verdict
shape P = over_classes (λ M. verdict (shape_claims P M)) 0 (bundle_classes P)

-- phase D: all frames, then the walk
unfoldable pub walked : Program → Method → Res (List Frame) → Ruling Fault
walked P M (ok fs e) = verdict (walk_claims P M fs)
walked P M (bad n p) = fail (fault n p)

unfoldable pub typing : Program → Verdict
typing P = over_classes (λ M. walked P M (frames P M)) 0 (bundle_classes P)

-- phases A to C: the program, or the verdict 1 .. 13
unfoldable pub shape_read : Read → Read
shape_read (refused r) = refused r
shape_read (program P) = or_refused P (shape P)

unfoldable pub read_shaped : List ℕ → Read
read_shaped s = shape_read (read_bundle s)

-- all phases
unfoldable pub type_read : Read → Verdict
type_read (refused r) = fail r
type_read (program P) = typing P

unfoldable pub verdict_of : List ℕ → Verdict
verdict_of s = type_read (read_shaped s)

-- ---- what a call of verify answers and leaves: a scratch too short is 20 and stays, otherwise it ends all zero
pub record Verified : Type 0 where
  pub answer : Verdict
  pub scratch : List ℕ

abbrev pub verified : Verdict → List ℕ → Verified
verified v t = record { answer = v; scratch = t }

abbrev pub wrong_size : Refusal
wrong_size = in_bundle (fault 20 0)

unfoldable pub verify_of : List ℕ → List ℕ → Verified
verify_of s t = cond (ltb (length t) scratch_size) (verified (fail wrong_size) t) (verified (verdict_of s) (replicate (length t) 0))
