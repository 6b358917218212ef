-- Laws of phase C of a method whole: its parts in order. Assumes nothing.
use Rattle.std.specs.Prelude.{ℕ, Ok, Err, OnOk, IsErrAnd, zero, suc, ◌+◌, ◌*◌, ◌%◌, ◌<◌, ◌≤◌, ◌≡◌, refl, Bool, true, false, cond, eqb, leb, length, get_or}
use Rattle.std.proofs.Common.{◌∙◌, arith, add-one, length-append, get_or-take, ne_eqb, le-leb, sym, ap, List, [], ◌∷◌, ◌++◌}
use Rattle.std.proofs.lemmas.Bool.{lt-leb, eqb-false}
use Rattle.kit.specs.Claims.{pass, fail, verdict, then, then_assoc, verdict_none, verdict_yes, verdict_no, verdict-append, pass_then, fail_then, handed, then_on, claims_on, claims_off}
use Rattle.reader.specs.Verdicts.{Fault, fault}
use Rattle.classfiles.specs.Descriptors.{Desc}
use Rattle.classfiles.specs.Members.{none, once, twice, Body, Handler}
use Rattle.classfiles.specs.Attributes.{found_of}
use Rattle.classfiles.specs.Blocks.{listed}
use Rattle.reader.specs.TypeCodes.{types_of, codes_in, params_in}
use Rattle.reader.specs.Program.{Program, Method}
use Rattle.rules.specs.Types.{tys_of}
use Rattle.rules.specs.States.{receiver_tys, parameter_tys}
use Rattle.rules.specs.Opcodes.{body}
use Rattle.rules.specs.Lines.{Line, lines}
use Rattle.rules.specs.Shape.{is_once, not_twice, body_claims, form_claims, reference_claims, table_claims, shape_claims}
use Rattle.rules.specs.Sites.{front, site_body, site_frames, program_at, method_at, Here}
use Rattle.shaping.specs.Marks.{Ruled, spot_of, ruled_as, lines_at, Scanned, Ready}
use Rattle.shaping.specs.ScanLaws.{ready-after, body_here}
use Rattle.shaping.specs.Shaping.{table_of, Begun, end_claims, Shaped}
use Rattle.rules.specs.declared.site.Site.{Site}
use Rattle.texts.specs.declared.faults.Refusal.TheVariants.{CodeShape}
use Rattle.texts.specs.declared.faults.Fault as code

-- ---- what an answer without a refusal says
OnOk-weaker : {A B : Type 0} (r : Ruled) → (A → B) → OnOk r A → OnOk r B
OnOk-weaker (Ok u) f a = f a
OnOk-weaker (Err e) f a = a

OnOk-always : {A : Type 0} (r : Ruled) → A → OnOk r A
OnOk-always (Ok u) a = a
OnOk-always (Err e) a = tt

OnOk-never : (A : Type 0) (f : code.Fault) (r : Ruled) → IsErrAnd r (λ y. y ≡ f) → OnOk r A
OnOk-never A f (Ok u) p = absurd p
OnOk-never A f (Err e) p = tt

-- ---- how many parameters
length_tys : (ds : List Desc) → length (tys_of ds) ≡ length ds
length_tys [] = refl
length_tys (d ∷ ds) = ap suc (length_tys ds)

length-listed : (f : ℕ → Desc) (n : ℕ) → length (listed f n) ≡ n
unfolding listed
length-listed f zero = refl
length-listed f (suc n) = length-append (listed f n) (f n ∷ []) ∙ add-one (length (listed f n)) ∙ ap suc (length-listed f n)

params-length : (t : List ℕ) (k : ℕ) → length (params_in t k) ≡ get_or t (types_of k) 0 % 32
unfolding params_in codes_in
params-length t k = length-listed _ (get_or t (types_of k) 0 % 32)

-- ---- how often something stands
once_not : {A : Type 0} (k : ℕ) (v : A) → (k ≡ 1 → ⊥) → is_once (found_of k v) ≡ false
unfolding found_of
once_not {A = A} k v n = rw (ne_eqb k 1 n) (go (eqb k 0))
  where
    go : (b : Bool) → is_once {A = A} (cond b none twice) ≡ false
    go true = refl
    go false = refl

twice_not : {A : Type 0} (k : ℕ) (v : A) → 1 < k → not_twice (found_of k v) ≡ false
unfolding found_of
twice_not k v h = rw (ne_eqb k 0 (λ e. omega arith), ne_eqb k 1 (λ e. omega arith))

not-twice : {A : Type 0} (k : ℕ) (v : A) → k ≤ 1 → not_twice (found_of k v) ≡ true
unfolding found_of
not-twice k v h = go (eqb k 0) (eqb k 1) refl refl
  where
    go : (a b : Bool) → eqb k 0 ≡ a → eqb k 1 ≡ b → not_twice (cond a none (cond b (once v) twice)) ≡ true
    go true b p q = refl
    go false true p q = refl
    go false false p q =
        let n : k ≡ 0 → ⊥ = eqb-false k 0 p in
        let m : k ≡ 1 → ⊥ = eqb-false k 1 q in
        absurd (omega arith)

module _ (M : Method) where
  body_first : is_once M.body ≡ false → verdict (body_claims M) ≡ fail (fault 10 0)
  unfolding body_claims
  body_first e = verdict_no (fault 10 0) (is_once M.body) _ e

  module _ (a : is_once M.body ≡ true) where
    body-second : not_twice (body M).frames ≡ false → verdict (body_claims M) ≡ fail (fault 10 0)
    unfolding body_claims
    body-second e = verdict_yes (fault 10 0) (is_once M.body) _ a ∙ verdict_no (fault 10 0) (not_twice (body M).frames) _ e

    module _ (b : not_twice (body M).frames ≡ true) where
      body_third : (body M).max_locals < length (parameter_tys M) → verdict (body_claims M) ≡ fail (fault 10 0)
      unfolding body_claims
      body_third e =
          verdict_yes (fault 10 0) (is_once M.body) _ a ∙ verdict_yes (fault 10 0) (not_twice (body M).frames) _ b
          ∙ verdict_no (fault 10 0) (leb (length (parameter_tys M)) (body M).max_locals) [] (lt-leb (length (parameter_tys M)) (body M).max_locals e)

      body-all : length (parameter_tys M) ≤ (body M).max_locals → verdict (body_claims M) ≡ pass
      unfolding body_claims
      body-all e =
          verdict_yes (fault 10 0) (is_once M.body) _ a ∙ verdict_yes (fault 10 0) (not_twice (body M).frames) _ b
          ∙ verdict_yes (fault 10 0) (leb (length (parameter_tys M)) (body M).max_locals) [] (le-leb (length (parameter_tys M)) (body M).max_locals e)
          ∙ verdict_none

module _ (s t : List ℕ) (x : Site) (h : Here s t x) where
  abbrev P : Program
  P = program_at s (front t) x

  abbrev M : Method
  M = method_at s (front t) x

  abbrev all : List Line
  all = lines_at s t x

  slots_here : (r : ℕ) → r ≡ length (params_in t (64 * x.class + x.method)) + cond x.fixed 0 1 → r ≡ length (parameter_tys M)
  slots_here r e =
      let k : ℕ = 64 * x.class + x.method in
      let a : length (parameter_tys M) ≡ length (receiver_tys M) + length (tys_of M.params) = length-append (receiver_tys M) (tys_of M.params) in
      let b : length (tys_of M.params) ≡ length (params_in (front t) k) = length_tys M.params ∙ ap length h.sited.params in
      let c : length (params_in (front t) k) ≡ length (params_in t k) =
      params-length (front t) k ∙ ap (λ (v : ℕ). v % 32) (get_or-take 187008 t (types_of k) 0 (omega (arith, h.bounded.class, h.bounded.method))) ∙ sym (params-length t k) in
      let d : length (receiver_tys M) ≡ cond x.fixed 0 1 = receiver x.fixed h.sited.static in
      omega (arith, e, a, b, c, d)
    where
      receiver : (b : Bool) → M.static ≡ b → length (receiver_tys M) ≡ cond b 0 1
      receiver true e = rw e
      receiver false e = rw e

  -- ---- 10
  refused_10 : (u : List ℕ) → u ≡ t → verdict (body_claims M) ≡ fail (fault 10 0) → Begun s t x (Err (record { 0 = CodeShape; 1 = 0 })) u
  refused_10 u q e = record {
    is = sym (fail_then (verdict (body_claims M)) _ (fault 10 0) e);
    ready = tt;
    front = ap (λ (l : List ℕ). front l) q;
    long = ap length q;
  }

  pub begun_codes : (u : List ℕ) → u ≡ t → (x.codes ≡ 1 → ⊥) → Begun s t x (Err (record { 0 = CodeShape; 1 = 0 })) u
  begun_codes u q n = refused_10 u q (body_first M (ap is_once h.sited.body ∙ once_not x.codes (site_body s x) n))

  module _ (c : x.codes ≡ 1) where
    body_is : body M ≡ site_body s x
    body_is = body_here s t x h c

    one_code : is_once M.body ≡ true
    unfolding found_of
    one_code = ap is_once h.sited.body ∙ rw c

    tables_is : not_twice (body M).frames ≡ not_twice (found_of x.tables (site_frames s x))
    unfolding site_body
    tables_is = ap (λ (b : Body). not_twice b.frames) body_is

    locals_is : (body M).max_locals ≡ x.locals
    unfolding site_body
    locals_is = ap (λ (b : Body). b.max_locals) body_is

    table_is : (body M).table ≡ table_of s x
    unfolding site_body
    table_is = ap (λ (b : Body). b.table) body_is

    pub begun_tables : (u : List ℕ) → u ≡ t → 1 < x.tables → Begun s t x (Err (record { 0 = CodeShape; 1 = 0 })) u
    begun_tables u q l = refused_10 u q (body-second M one_code (tables_is ∙ twice_not x.tables (site_frames s x) l))

    module _ (l : x.tables ≤ 1) (n : ℕ) (en : n ≡ length (params_in t (64 * x.class + x.method)) + cond x.fixed 0 1) where
      few_tables : not_twice (body M).frames ≡ true
      few_tables = tables_is ∙ not-twice x.tables (site_frames s x) l

      pub begun_params : (u : List ℕ) → u ≡ t → x.locals < n → Begun s t x (Err (record { 0 = CodeShape; 1 = 0 })) u
      begun_params u q k = refused_10 u q (body_third M one_code few_tables (omega (arith, locals_is, slots_here n en)))

      pub begun_marks : (u : List ℕ) (r : Ruled) → n ≤ x.locals → 262144 ≤ length t → Scanned s t x r u → Begun s t x r u
      begun_marks u r k g z = record {
        is = z.is ∙ sym (pass_then (verdict (body_claims M)) (verdict (form_claims M all)) (body-all M one_code few_tables (omega (arith, locals_is, slots_here n en))));
        ready = OnOk-weaker r (ready-after s t u x h c g z.front z.long) z.marks;
        front = z.front;
        long = z.long;
      }

  -- ---- the whole
  whole_is : x.codes ≡ 1 → verdict (shape_claims P M) ≡ then (then (verdict (body_claims M)) (verdict (form_claims M all))) (verdict (end_claims s t x))
  unfolding shape_claims lines_at end_claims
  whole_is c =
      ap (λ (hs : List Handler). verdict (body_claims M ++ (form_claims M all ++ (reference_claims all all ++ table_claims P M all hs)))) (table_is c)
      ∙ verdict-append (body_claims M) _ ∙ ap (then (verdict (body_claims M))) (verdict-append (form_claims M all) _)
      ∙ sym (then_assoc (verdict (body_claims M)) (verdict (form_claims M all)) _)

  whole_fails : (f : Fault) → then (verdict (body_claims M)) (verdict (form_claims M all)) ≡ fail f → verdict (shape_claims P M) ≡ fail f
  unfolding shape_claims lines_at
  whole_fails f e =
      verdict-append (body_claims M) _ ∙ ap (then (verdict (body_claims M))) (verdict-append (form_claims M all) _)
      ∙ sym (then_assoc (verdict (body_claims M)) (verdict (form_claims M all)) _) ∙ fail_then _ _ f e

  ends_same : (u : List ℕ) → front u ≡ front t → end_claims s u x ≡ end_claims s t x
  unfolding end_claims lines_at
  ends_same u e =
      ap (λ (f : List ℕ). reference_claims (lines (program_at s f x) (method_at s f x)) (lines (program_at s f x) (method_at s f x)) ++ table_claims (program_at s f x) (method_at s f x) (lines (program_at s f x) (method_at s f x)) (table_of s x)) e

  pub shaped_first : (u : List ℕ) (r : Ruled) (f : code.Fault) → Begun s t x (Err f) u → IsErrAnd r (λ y. y ≡ f) → Shaped s t x r u
  shaped_first u r f z p = record {
    is = handed spot_of r f p ∙ sym (whole_fails (spot_of f) (sym z.is));
    ready = OnOk-never (Ready s u x) f r p;
    front = z.front;
    long = z.long;
  }

  pub shaped_second : (u : List ℕ) (q : Ruled) → Begun s t x (Ok tt) u → ruled_as q ≡ verdict (end_claims s u x) → Shaped s t x q u
  shaped_second u q z e = record {
    is =
        then_on (ruled_as q) _ (verdict (end_claims s t x)) z.is (e ∙ ap verdict (ends_same u z.front))
        ∙ sym (whole_is z.ready.one);
    ready = OnOk-always q z.ready;
    front = z.front;
    long = z.long;
  }

-- what follows the marks, in order
module _ (s t : List ℕ) (x : Site) (r : Ruled) where
  pub ended_first : (f : code.Fault) → fail (spot_of f) ≡ verdict (reference_claims (lines_at s t x) (lines_at s t x)) → IsErrAnd r (λ y. y ≡ f) → ruled_as r ≡ verdict (end_claims s t x)
  unfolding end_claims
  ended_first f h p = claims_off spot_of r f p _ _ h

  pub ended-second : pass ≡ verdict (reference_claims (lines_at s t x) (lines_at s t x))
      → ruled_as r ≡ verdict (table_claims (program_at s (front t) x) (method_at s (front t) x) (lines_at s t x) (table_of s x)) → ruled_as r ≡ verdict (end_claims s t x)
  unfolding end_claims
  ended-second h p = claims_on _ _ _ h p
