-- Phase D of one method, from its frames and its walk. Assumes nothing.
use Rattle.std.specs.Prelude.{ℕ, ◌+◌, ◌*◌, ◌<◌, ◌≤◌, ◌≡◌, refl, Ok, Err, IsErrAnd, true, length, take}
use Rattle.std.proofs.Common.{◌∙◌, arith, sym, ap, subst, List, take-take}
use Rattle.kit.specs.Claims.{Ruling, pass}
use Rattle.reader.specs.Verdicts.{Fault}
use Rattle.texts.specs.Reading.{ok, bad}
use Rattle.classfiles.specs.Bundle.{ClassFile}
use Rattle.reader.specs.BuiltIns.{first_class}
use Rattle.reader.specs.TypeCodes.{params_in}
use Rattle.classfiles.specs.Blocks.{classes_in}
use Rattle.reader.specs.Linked.{parents_at, files_in}
use Rattle.reader.specs.MemberRows.{block_at, row_count}
use Rattle.reader.specs.Program.{Program, Method, method, program_of}
use Rattle.rules.specs.Frames.{frames}
use Rattle.shaping.specs.Verify.{over_classes, bundle_classes, walked}
use Rattle.rules.specs.FrameRows.{frames_of}
use Rattle.rules.specs.Sites.{front, program_at, method_at, Here}
use Rattle.shaping.specs.Resolving.{block_same}
use Rattle.shaping.specs.Located.{Prepared}
use Rattle.shaping.specs.Kept.{few, prepared_kept}
use Rattle.shaping.specs.ScanLaws.{here_front, init-front}
use Rattle.rules.specs.States.{parameter_tys}
use Rattle.verifier.specs.Callees.{Typed}
use Rattle.verifier.specs.TypedTables.{typed-tables}
use Rattle.verifier.specs.MethodWalks.{MethodWalked}
use Rattle.verifier.specs.WalkHere.{walked_here}
use Rattle.shaping.specs.Phases.{Readied, program_now, typing_by, judged_at, of_all, Judged}
use Rattle.shaping.specs.Passing.{Typable}
use Rattle.rules.specs.declared.site.Site.{Site}
use Rattle.shaping.specs.Marks.{Ruled}
use Rattle.texts.specs.Faults.{number}
use Rattle.texts.specs.declared.faults.Fault as faults
use Rattle.rules.specs.declared.frames.Rows.{Rows}

-- what has passed has passed while the front stands
pub passes_kept : (judge : Program → Method → Ruling Fault) (s : List ℕ) (n : ℕ) (t u : List ℕ) → front u ≡ front t → of_all judge s n t ≡ pass → of_all judge s n u ≡ pass
passes_kept judge s n t u e h =
    ap (λ (f : List ℕ). over_classes (judge (program_of (files_in s n f))) 0 (bundle_classes (program_of (files_in s n f)))) e ∙ h

-- t as phase D found the method, u with its marks, v with its frames too
module _ (s : List ℕ) (n c m : ℕ) (x : Site) (t u v : List ℕ) (h : Readied s n t) (l : c < n) (g : m < row_count (block_at (front t) c) true)
    (y : Typable s n c m x t u) (f : front v ≡ front u) where
  abbrev P : Program
  P = program_at s (front v) x

  abbrev M : Method
  M = method_at s (front v) x

  same : front v ≡ front t
  same = f ∙ y.front

  at_now : typing_by P M ≡ judged_at typing_by s n t c m
  unfolding program_at
  at_now =
      ap (λ (k : List ℕ). typing_by (program_at s k x) (method_at s k x)) same
      ∙ ap (λ (k : ℕ). typing_by (program_now s k t) (method (program_now s k t) (first_class + x.class) x.method)) y.located.classes
      ∙ ap (λ (k : ℕ). typing_by (program_now s n t) (method (program_now s n t) (first_class + k) x.method)) y.located.class
      ∙ ap (λ (k : ℕ). typing_by (program_now s n t) (method (program_now s n t) (first_class + c) k)) y.located.method

  prepared : Prepared s n v
  prepared = prepared_kept s n (front t) v h.prepared (same ∙ sym (take-take 187008 187008 t (omega arith)))

  typed_now : Typed v P x.classes
  unfolding program_at
  typed_now =
      subst (λ (k : ℕ). Typed v (program_of (files_in s k (front v))) k) (sym y.located.classes)
      (subst (λ (fs : List ClassFile). Typed v (program_of fs) n) (sym files)
      (typed-tables s n v prepared.tables.most prepared.tables.limited prepared.tables.types))
    where
      files : files_in s n (front v) ≡ files_in s n v
      files = ap (λ (k : List ℕ). classes_in s k n) (take-take parents_at 187008 v (omega arith))

  row : m < row_count (block_at v c) true
  row =
      subst (λ (b : List ℕ). m < row_count b true) (sym (block_same s n (front t) v prepared.tables.most below c (omega (arith, prepared.tables.most)))) g
    where
      below : take 103040 v ≡ take 103040 (front t)
      below = sym (take-take 103040 187008 v (omega arith)) ∙ ap (take 103040) same

  pub few_now : length (params_in v (64 * x.class + x.method)) ≤ 16
  few_now =
      subst (λ (k : ℕ). length (params_in v (64 * k + x.method)) ≤ 16) (sym y.located.class)
      (subst (λ (k : ℕ). length (params_in v (64 * c + k)) ≤ 16) (sym y.located.method) (few s n v v prepared.tables refl (λ p a b. refl) c m l row))

  room_now : length (parameter_tys M) ≤ x.locals
  room_now = subst (λ (k : List ℕ). length (parameter_tys (method_at s k x)) ≤ x.locals) (sym f) y.room

  here_now : Here s v x
  here_now = here_front s u v x f y.ready.here

  pub method-walked : (w : List ℕ) (a : Rows) (e : ℕ) (r : Ruled) → frames P M ≡ ok (frames_of v a) e → MethodWalked s v w x a r → Judged (judged_at typing_by s n t c m) r t w
  unfolding typing_by walked
  method-walked w a e r z k = record {
    is =
        walked_here s v w x a r here_now (init-front s u v x f y.init) y.ready.one typed_now few_now room_now k
        ∙ ap (walked P M) (sym z) ∙ at_now;
    front = sym (take-take 187008 260736 w (omega arith)) ∙ ap (take 187008) k.front ∙ take-take 187008 260736 v (omega arith) ∙ same;
  }

  pub frames-refused : (r : Ruled) (e : faults.Fault) → IsErrAnd r (λ z. z ≡ e) → frames P M ≡ bad (number e.0) e.1 → Judged (judged_at typing_by s n t c m) r t v
  unfolding typing_by walked
  frames-refused (Ok u) e p z = absurd p
  frames-refused (Err j) e p z = record {
    is = rw p (ap (walked P M) (sym z) ∙ at_now);
    front = same;
  }
