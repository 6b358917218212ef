-- Phases C and D over all methods of the bundle, class after class, as loops by index. Assumes nothing.
use Rattle.std.specs.Prelude.{ℕ, Result, Ok, Err, IsErrAnd, ◌+◌, ◌<◌, ◌≤◌, ◌≡◌, refl, true, List, get_or, drop}
use Rattle.std.proofs.Common.{subst, ◌∙◌, add-one, arith, length-drop, drop_of_length-le, get_or-drop, drop-cons, sym, ap, length}
use Rattle.kit.specs.Claims.{Ruling, pass, fail, verdict, then, relabel, pass_then, fail_then, ruled, handed}
use Rattle.reader.specs.Verdicts.{Fault, fault, Refusal, in_method}
use Rattle.reader.specs.BuiltIns.{first_class}
use Rattle.reader.specs.Program.{Program, Class, Method, no_class, no_method, class, method, program_of}
use Rattle.reader.specs.Linked.{files_in}
use Rattle.reader.specs.Lookup.{class-count}
use Rattle.reader.specs.MemberRows.{block_at, row_count}
use Rattle.reader.specs.MemberAt.{methods-count}
use Rattle.rules.specs.Shape.{shape_claims}
use Rattle.rules.specs.Frames.{frames}
use Rattle.shaping.specs.Verify.{over_methods, over_classes, bundle_classes, walked}
use Rattle.rules.specs.Sites.{front, program_at}
use Rattle.shaping.specs.Marks.{Ruled, spot_of, ruled_as}
use Rattle.shaping.specs.Shaping.{Shaped}
use Rattle.shaping.specs.Located.{Prepared, Located}
use Rattle.rules.specs.declared.site.Site.{Site}
use Rattle.texts.specs.Faults.{number}
use Rattle.texts.specs.declared.faults.Fault as code
use Rattle.shaping.specs.declared.phases.Refused.{Refused}

-- what both phases start from
pub record Readied (s : List ℕ) (n : ℕ) (t : List ℕ) : Type 0 where
  pub prepared : Prepared s n (front t)
  pub long : 262144 ≤ length t

pub readied_kept : (s : List ℕ) (n : ℕ) (t u : List ℕ) → Readied s n t → front u ≡ front t → length u ≡ length t → Readied s n u
readied_kept s n t u h e l = record { prepared = subst (Prepared s n) (sym e) h.prepared; long = omega (arith, h.long, l) }

-- the program that the scratch's front stands for
abbrev pub program_now : List ℕ → ℕ → List ℕ → Program
program_now s n t = program_of (files_in s n (front t))

-- the phases' rulings on one method
unfoldable pub shape_by : Program → Method → Ruling Fault
shape_by P M = verdict (shape_claims P M)

unfoldable pub typing_by : Program → Method → Ruling Fault
typing_by P M = walked P M (frames P M)

-- ---- answers
abbrev pub stands : Refused → Refusal
stands v = in_method v.class v.method (fault (number v.refusal) v.place)

abbrev pub verdict_as : Result (Unit {0}) Refused → Ruling Refusal
verdict_as r = ruled stands r

-- a method's ruling, and one of many methods with its place
pub record Judged (J : Ruling Fault) (r : Ruled) (t u : List ℕ) : Type 0 where
  pub is : ruled_as r ≡ J
  pub front : front u ≡ front t

pub record Done (A : Ruling Refusal) (r : Result (Unit {0}) Refused) (t u : List ℕ) : Type 0 where
  pub is : verdict_as r ≡ A
  pub front : front u ≡ front t

-- the rulings of what is left are those of all, and the front stands
pub record Left (A B : Ruling Refusal) (t u : List ℕ) : Type 0 where
  pub rest : A ≡ B
  pub front : front u ≡ front t

-- ---- over the methods of a class, judged as the program of the scratch asks
module _ (judge : Program → Method → Ruling Fault) (s : List ℕ) (n : ℕ) where
  abbrev pub judged_at : List ℕ → ℕ → ℕ → Ruling Fault
  judged_at t c m = judge (program_now s n t) (method (program_now s n t) (first_class + c) m)

  abbrev pub of_class : List ℕ → ℕ → Ruling Refusal
  of_class t c = over_methods (judge (program_now s n t)) c 0 (class (program_now s n t) (first_class + c)).methods

  abbrev pub of_all : List ℕ → Ruling Refusal
  of_all t = over_classes (judge (program_now s n t)) 0 (bundle_classes (program_now s n t))

  abbrev pub MethodsFrom : ℕ → ℕ → List ℕ → List ℕ → Type 0
  MethodsFrom c m t u = Left (over_methods (judge (program_now s n t)) c m (drop m (class (program_now s n t) (first_class + c)).methods)) (of_class t c) t u

  abbrev pub ClassesFrom : ℕ → List ℕ → List ℕ → Type 0
  ClassesFrom c t u = Left (over_classes (judge (program_now s n t)) c (drop c (bundle_classes (program_now s n t)))) (of_all t) t u

  -- the program is the same while the front is
  moved : (t u : List ℕ) (c m : ℕ) → front u ≡ front t → judged_at u c m ≡ judged_at t c m
  moved t u c m e = ap (λ (f : List ℕ). judge (program_of (files_in s n f)) (method (program_of (files_in s n f)) (first_class + c) m)) e

  moved_class : (t u : List ℕ) (c : ℕ) → front u ≡ front t → of_class u c ≡ of_class t c
  moved_class t u c e = ap (λ (f : List ℕ). over_methods (judge (program_of (files_in s n f))) c 0 (class (program_of (files_in s n f)) (first_class + c)).methods) e

  -- ---- methods in order
  one_more : (J : Method → Ruling Fault) (c m : ℕ) (Ms : List Method) → m < length Ms
      → over_methods J c m (drop m Ms) ≡ then (relabel (in_method c m) (J (get_or Ms m no_method))) (over_methods J c (m + 1) (drop (m + 1) Ms))
  unfolding over_methods
  one_more J c m Ms h =
      ap (over_methods J c m) (drop-cons Ms m no_method h)
      ∙ ap (λ (k : ℕ). then (relabel (in_method c m) (J (get_or Ms m no_method))) (over_methods J c k (drop k Ms))) (sym (add-one m))

  pub methods_start : (c : ℕ) (t : List ℕ) → MethodsFrom c 0 t t
  methods_start c t = record { rest = refl; front = refl }

  module _ (c m : ℕ) (t u v : List ℕ) (w : MethodsFrom c m t u) (h : m < length (class (program_now s n t) (first_class + c)).methods) where
    abbrev J : Ruling Fault
    J = judged_at t c m

    abbrev A : Ruling Refusal
    A = over_methods (judge (program_now s n t)) c (m + 1) (drop (m + 1) (class (program_now s n t) (first_class + c)).methods)

    now_here : then (relabel (in_method c m) J) A ≡ of_class t c
    now_here = sym (one_more (judge (program_now s n t)) c m (class (program_now s n t) (first_class + c)).methods h) ∙ w.rest

    pub methods_next : Judged (judged_at u c m) (Ok tt) u v → MethodsFrom c (m + 1) t v
    unfolding relabel
    methods_next j =
        let e : J ≡ pass = sym (j.is ∙ moved t u c m w.front) in
        record { rest = sym (pass_then (relabel (in_method c m) J) A (ap (relabel (in_method c m)) e)) ∙ now_here; front = j.front ∙ w.front }

    pub methods_stop : (f : code.Fault) → Judged (judged_at u c m) (Err f) u v → Done (of_class t c) (Err (record { refusal = f.0; class = c; method = m; place = f.1 })) t v
    unfolding relabel
    methods_stop f j =
        let e : J ≡ fail (spot_of f) = sym (j.is ∙ moved t u c m w.front) in
        record {
          is = sym (fail_then (relabel (in_method c m) J) A (in_method c m (spot_of f)) (ap (relabel (in_method c m)) e)) ∙ now_here;
          front = j.front ∙ w.front;
        }

  pub methods_end : (c m : ℕ) (t u : List ℕ) → MethodsFrom c m t u → length (class (program_now s n t) (first_class + c)).methods ≤ m → Done (of_class t c) (Ok tt) t u
  unfolding over_methods
  methods_end c m t u w h = record {
    is = sym (ap (over_methods (judge (program_now s n t)) c m) (drop_of_length-le (class (program_now s n t) (first_class + c)).methods h)) ∙ w.rest;
    front = w.front;
  }

  -- ---- classes in order
  class_more : (J : Method → Ruling Fault) (c : ℕ) (Cs : List Class) → c < length Cs
      → over_classes J c (drop c Cs) ≡ then (over_methods J c 0 (get_or Cs c no_class).methods) (over_classes J (c + 1) (drop (c + 1) Cs))
  unfolding over_classes
  class_more J c Cs h =
      ap (over_classes J c) (drop-cons Cs c no_class h)
      ∙ ap (λ (k : ℕ). then (over_methods J c 0 (get_or Cs c no_class).methods) (over_classes J k (drop k Cs))) (sym (add-one c))

  pub classes_start : (t : List ℕ) → ClassesFrom 0 t t
  classes_start t = record { rest = refl; front = refl }

  module _ (m : n ≤ 16) (t : List ℕ) where
    abbrev P : Program
    P = program_now s n t

    how_many : length (bundle_classes P) ≡ n
    how_many = length-drop first_class P.classes ∙ omega (arith, class-count s n (front t) m)

    module _ (c : ℕ) (u v : List ℕ) (w : ClassesFrom c t u) (h : c < n) where
      abbrev C : Ruling Refusal
      C = of_class t c

      abbrev B : Ruling Refusal
      B = over_classes (judge P) (c + 1) (drop (c + 1) (bundle_classes P))

      class_here : then C B ≡ of_all t
      class_here =
          let i : c < length (bundle_classes P) = omega (arith, how_many) in
          ap (λ (D : Class). then (over_methods (judge P) c 0 D.methods) B) (sym (get_or-drop first_class P.classes c no_class))
          ∙ sym (class_more (judge P) c (bundle_classes P) i) ∙ w.rest

      pub classes_next : Done (of_class u c) (Ok tt) u v → ClassesFrom (c + 1) t v
      classes_next j =
          let e : C ≡ pass = sym (j.is ∙ moved_class t u c w.front) in
          record { rest = sym (pass_then C B e) ∙ class_here; front = j.front ∙ w.front }

      pub classes_stop : (f : Refused) → Done (of_class u c) (Err f) u v → (r : Result (Unit {0}) Refused) → IsErrAnd r (λ y. y ≡ f) → Done (of_all t) r t v
      classes_stop f j r p =
          let e : C ≡ fail (stands f) = sym (j.is ∙ moved_class t u c w.front) in
          record {
            is = handed stands r f p ∙ sym (fail_then C B (stands f) e) ∙ class_here;
            front = j.front ∙ w.front;
          }

    pub classes_end : (c : ℕ) (u : List ℕ) → ClassesFrom c t u → n ≤ c → Done (of_all t) (Ok tt) t u
    unfolding over_classes
    classes_end c u w h =
        let i : length (bundle_classes P) ≤ c = omega (arith, how_many) in
        record {
          is = sym (ap (over_classes (judge P) c) (drop_of_length-le (bundle_classes P) i)) ∙ w.rest;
          front = w.front;
        }

-- as many methods as rows
pub method-count : (s : List ℕ) (n : ℕ) (t : List ℕ) (c k : ℕ) → Readied s n t → c < n → k ≡ row_count (block_at (front t) c) true → k ≡ length (class (program_now s n t) (first_class + c)).methods
method-count s n t c k h l e = e ∙ sym (methods-count s n (front t) h.prepared.tables.most c l)

pub row_there : (t u : List ℕ) (c k m : ℕ) → k ≡ row_count (block_at (front t) c) true → front u ≡ front t → m < k → m < row_count (block_at (front u) c) true
row_there t u c k m e f h = omega (arith, e ∙ ap (λ (l : List ℕ). row_count (block_at l c) true) (sym f), h)

-- ---- phase C of a method
pub method_shaped : (s t u : List ℕ) (n c m : ℕ) (x : Site) (r : Ruled) → Located s n c m x (front t) → Shaped s t x r u → Judged (judged_at shape_by s n t c m) r t u
unfolding program_at shape_by
method_shaped s t u n c m x r l h = record {
  is =
      h.is ∙ ap (λ (k : ℕ). shape_by (program_now s k t) (method (program_now s k t) (first_class + x.class) x.method)) l.classes
      ∙ ap (λ (k : ℕ). shape_by (program_now s n t) (method (program_now s n t) (first_class + k) x.method)) l.class
      ∙ ap (λ (k : ℕ). shape_by (program_now s n t) (method (program_now s n t) (first_class + c) k)) l.method;
  front = h.front;
}
