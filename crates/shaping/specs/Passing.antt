-- Where phase C passes, each method is fit for phase D: one Code, room for its parameters, its marks. Assumes nothing.
use Rattle.std.specs.Prelude.{◌≡◌, Bool, cond, eqb, leb, length, get_or}
use Rattle.std.proofs.Common.{sym, subst, ◌∙◌, le_of_suc-le-suc, length-drop, get_or-drop, ℕ, zero, suc, ◌+◌, ◌<◌, ◌≤◌, refl, ap, true, false, List, [], ◌∷◌, arith, eqb-true, leb-true}
use Rattle.kit.specs.Bools.{not_so}
use Rattle.kit.specs.Claims.{Claim, claim, Ruling, pass, verdict, relabel, fail_pass, then_pass_left, then_pass_right, relabel_pass, verdict-append}
use Rattle.reader.specs.Verdicts.{Fault, fault, in_method}
use Rattle.classfiles.specs.Members.{none, once, twice, Body}
use Rattle.classfiles.specs.Attributes.{found_of}
use Rattle.reader.specs.BuiltIns.{first_class}
use Rattle.reader.specs.Program.{Program, Class, Method, no_class, no_method, class, method}
use Rattle.reader.specs.Lookup.{class-count}
use Rattle.reader.specs.MemberRows.{block_at, row_count}
use Rattle.reader.specs.MemberAt.{methods-count}
use Rattle.rules.specs.States.{parameter_tys}
use Rattle.rules.specs.Opcodes.{body}
use Rattle.rules.specs.Shape.{is_once, not_twice, body_claims, shape_claims}
use Rattle.shaping.specs.Verify.{over_methods, over_classes, bundle_classes}
use Rattle.rules.specs.Sites.{front, site_body, program_at, method_at, KnowsInit, Here}
use Rattle.shaping.specs.Marks.{Ready, PassesShape, Restored}
use Rattle.shaping.specs.ScanLaws.{init-front, body_here}
use Rattle.shaping.specs.Located.{Located}
use Rattle.shaping.specs.Kept.{here_by}
use Rattle.shaping.specs.Phases.{Readied, program_now, shape_by, judged_at, of_all}
use Rattle.rules.specs.declared.site.Site.{Site}

-- ---- where all pass, each does
module _ (J : Method → Ruling Fault) where
  pub methods_pass : (i j : ℕ) (Ms : List Method) → over_methods J i j Ms ≡ pass → (m : ℕ) → m < length Ms → J (get_or Ms m no_method) ≡ pass
  unfolding over_methods
  methods_pass i j [] e m h = absurd (omega arith)
  methods_pass i j (M ∷ Ms) e zero h = relabel_pass (in_method i j) (J M) (then_pass_left (relabel (in_method i j) (J M)) (over_methods J i (suc j) Ms) e)
  methods_pass i j (M ∷ Ms) e (suc m) h = methods_pass i (suc j) Ms (then_pass_right (relabel (in_method i j) (J M)) (over_methods J i (suc j) Ms) e) m (le_of_suc-le-suc h)

  pub classes_pass : (i : ℕ) (Cs : List Class) → over_classes J i Cs ≡ pass → (c : ℕ) → c < length Cs → over_methods J (i + c) 0 (get_or Cs c no_class).methods ≡ pass
  unfolding over_classes
  classes_pass i [] e c h = absurd (omega arith)
  classes_pass i (C ∷ Cs) e zero h =
      let z : i + 0 ≡ i = omega arith in
      ap (λ (k : ℕ). over_methods J k 0 C.methods) z ∙ then_pass_left (over_methods J i 0 C.methods) (over_classes J (suc i) Cs) e
  classes_pass i (C ∷ Cs) e (suc c) h =
      let z : suc i + c ≡ i + suc c = omega arith in
      ap (λ (k : ℕ). over_methods J k 0 (get_or Cs c no_class).methods) (sym z)
      ∙ classes_pass (suc i) Cs (then_pass_right (over_methods J i 0 C.methods) (over_classes J (suc i) Cs) e) c (le_of_suc-le-suc h)

pub judged_pass : (judge : Program → Method → Ruling Fault) (s : List ℕ) (n : ℕ) (t : List ℕ) → Readied s n t → of_all judge s n t ≡ pass
    → (c m : ℕ) → c < n → m < row_count (block_at (front t) c) true → judged_at judge s n t c m ≡ pass
judged_pass judge s n t h e c m l g =
    let P : Program = program_now s n t in
    let k : length (bundle_classes P) ≡ n = length-drop first_class P.classes ∙ omega (arith, class-count s n (front t) h.prepared.tables.most) in
    let i : c < length (bundle_classes P) = omega (arith, k) in
    let z : get_or (bundle_classes P) c no_class ≡ class P (first_class + c) = get_or-drop first_class P.classes c no_class in
    let y : over_methods (judge P) (0 + c) 0 (class P (first_class + c)).methods ≡ pass =
    ap (λ (C : Class). over_methods (judge P) (0 + c) 0 C.methods) (sym z) ∙ classes_pass (judge P) 0 (bundle_classes P) e c i in
    methods_pass (judge P) (0 + c) 0 (class P (first_class + c)).methods y m (omega (arith, g, methods-count s n (front t) h.prepared.tables.most c l))

-- ---- what phase C has shown of a method
module _ {K : Type 0} (k : K) where
  first_holds : (b : Bool) (cs : List (Claim K)) → verdict (claim k b ∷ cs) ≡ pass → b ≡ true
  unfolding verdict
  first_holds true cs e = refl
  first_holds false cs e = absurd (fail_pass k e)

  rest-holds : (b : Bool) (cs : List (Claim K)) → verdict (claim k b ∷ cs) ≡ pass → verdict cs ≡ pass
  unfolding verdict
  rest-holds true cs e = e
  rest-holds false cs e = absurd (fail_pass k e)

found_once : {A : Type 0} (k : ℕ) (v : A) → is_once (found_of k v) ≡ true → k ≡ 1
unfolding found_of
found_once {A = A} k v h = go (eqb k 0) (eqb k 1) refl h
  where
    go : (a b : Bool) → eqb k 1 ≡ b → is_once {A = A} (cond a none (cond b (once v) twice)) ≡ true → k ≡ 1
    go true b p q = absurd (not_so q)
    go false true p q = eqb-true k 1 p
    go false false p q = absurd (not_so q)

module _ (P : Program) (M : Method) (h : shape_by P M ≡ pass) where
  body_pass : verdict (body_claims M) ≡ pass
  unfolding shape_claims shape_by
  body_pass = then_pass_left (verdict (body_claims M)) _ (sym (verdict-append (body_claims M) _) ∙ h)

  pub one_code : is_once M.body ≡ true
  unfolding body_claims
  one_code = first_holds (fault 10 0) (is_once M.body) _ body_pass

  pub few_params : length (parameter_tys M) ≤ (body M).max_locals
  unfolding body_claims
  few_params =
      leb-true (length (parameter_tys M)) (body M).max_locals
      (first_holds (fault 10 0) (leb (length (parameter_tys M)) (body M).max_locals) []
      (rest-holds (fault 10 0) (not_twice (body M).frames) _ (rest-holds (fault 10 0) (is_once M.body) _ body_pass)))

-- ---- a method fit for phase D
pub record Typable (s : List ℕ) (n c m : ℕ) (x : Site) (t u : List ℕ) : Type 0 where
  pub located : Located s n c m x (front t)
  pub ready : Ready s u x
  pub init : KnowsInit s (front u) x
  pub room : length (parameter_tys (method_at s (front u) x)) ≤ x.locals
  pub front : front u ≡ front t

module _ (s t : List ℕ) (n c m : ℕ) (x : Site) (l : Located s n c m x (front t)) (e : judged_at shape_by s n t c m ≡ pass) where
  abbrev P : Program
  P = program_at s (front t) x

  abbrev M : Method
  M = method_at s (front t) x

  here : Here s t x
  here = here_by s t n c m x l

  at_site : shape_by P M ≡ pass
  unfolding program_at
  at_site =
      ap (λ (k : ℕ). shape_by (program_now s k t) (method (program_now s k t) (first_class + x.class) x.method)) l.classes
      ∙ ap (λ (k : ℕ). shape_by (program_now s n t) (method (program_now s n t) (first_class + k) x.method)) l.class
      ∙ ap (λ (k : ℕ). shape_by (program_now s n t) (method (program_now s n t) (first_class + c) k)) l.method ∙ e

  pub codes_one : x.codes ≡ 1
  codes_one = found_once x.codes (site_body s x) (ap is_once (sym l.sited.body) ∙ one_code P M at_site)

  pub restore_asked : 262144 ≤ length t → Here s t x × (x.codes ≡ 1) × (262144 ≤ length t) × PassesShape s t x
  unfolding shape_by
  restore_asked g = (here, codes_one, g, at_site)

  locals_are : (body M).max_locals ≡ x.locals
  unfolding site_body
  locals_are = ap (λ (b : Body). b.max_locals) (body_here s t x here codes_one)

  pub typable : (u : List ℕ) → KnowsInit s (front t) x → Restored s t x u → Typable s n c m x t u
  typable u i z = record {
    located = l;
    ready = z.ready;
    init = init-front s t u x z.front i;
    room = subst (λ (f : List ℕ). length (parameter_tys (method_at s f x)) ≤ x.locals) (sym z.front) (omega (arith, few_params P M at_site, locals_are));
    front = z.front;
  }
