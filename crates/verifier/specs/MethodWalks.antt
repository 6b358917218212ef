-- The walk of a method from its start, over frames that stand in the scratch. Assumes nothing.
use Rattle.std.specs.Prelude.{◌+◌, ◌*◌, ◌/◌, ◌≤◌, ◌≡◌, List, ℕ, length, take}
use Rattle.std.proofs.Common.{sym, ap, ◌∙◌, arith}
use Rattle.kit.specs.Claims.{verdict}
use Rattle.reader.specs.Program.{Program, Method, is_constructor}
use Rattle.rules.specs.States.{parameter_tys}
use Rattle.rules.specs.Frames.{Frame}
use Rattle.rules.specs.Walk.{walk_claims}
use Rattle.rules.specs.FrameRows.{frames_of, Laid}
use Rattle.rules.specs.Sites.{Sited, Bounded}
use Rattle.shaping.specs.Marks.{Ruled, ruled_as}
use Rattle.rules.specs.StepClaims.{frames_outside, laid_outside}
use Rattle.verifier.specs.Callees.{Typed}
use Rattle.verifier.specs.Lineup.{front-word, front_sited, front-typed, Walking}
use Rattle.verifier.specs.Walks.{Walked}
use Rattle.verifier.specs.Starts.{Started}
use Rattle.rules.specs.declared.site.Site.{Site}
use Rattle.rules.specs.declared.slots.Held.{Held}
use Rattle.rules.specs.declared.frames.Rows.{Rows}
use Rattle.rules.specs.declared.types.Kin.{Kin}

-- frames and state have their places
pub record Placeable (s t : List ℕ) (x : Site) (f : Rows) : Type 0 where
  pub bounded : Bounded s x
  pub laid : Laid t f
  pub rows : f.at + 68 * f.count + 68 ≤ 65184
  pub locals : f.locals ≡ x.locals
  pub size : 65288 ≤ length t / 4

pub record MethodWalked (s t u : List ℕ) (x : Site) (f : Rows) (r : Ruled) : Type 0 where
  pub is : (P : Program) (M : Method) → Sited s t P M x → is_constructor M ≡ x.constructor → Typed t P x.classes → x.codes ≡ 1 → length (parameter_tys M) ≤ x.locals
      → ruled_as r ≡ verdict (walk_claims P M (frames_of t f))
  pub front : take 260736 u ≡ take 260736 t

module _ (s t u : List ℕ) (x : Site) (f : Rows) (h : Held) (p : Placeable s t x f) (b : Started t u x h) where
  pub walking_start : (kin : Kin) → length u ≡ length t → kin.at ≡ 25728 → kin.count ≡ 11 + x.classes → Walking s u x kin f h
  walking_start kin l a c = record {
    at = b.at;
    locals = p.locals ∙ sym b.locals;
    depth = let z = b.depth in omega arith;
    size = let z = p.size in omega arith;
    laid = let z = p.rows in laid_outside 65184 t u f (front-word t u b.front) (omega arith) l p.laid;
    rows = p.rows;
    kin_at = a;
    kin_count = c;
    bounded = p.bounded;
  }

  pub method-walked : (v : List ℕ) (r : Ruled) → Walked s u v x f h r → MethodWalked s t v x f r
  method-walked v r w = record {
    is = λ P M d i y one m.
        let z = p.rows in
        let n = p.bounded.classes in
        w.is P M (front_sited t u b.front s P M x p.bounded.class p.bounded.method n d) (front-typed t u b.front P x.classes n y) one (b.is s P M d i one m)
        ∙ ap (λ (fs : List Frame). verdict (walk_claims P M fs)) (frames_outside 65184 t u (front-word t u b.front) f p.laid.locals (omega arith));
    front = w.front ∙ b.front;
  }
