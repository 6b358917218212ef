-- Laws of phase C over a method at a site: references, the exception table, the whole. Assumes nothing.
use Rattle.std.proofs.Common.{◌∙◌, arith, not-suc-le-zero, sub-one, eq-eqb, ne_eqb, eqb-true, lt-ltb, le-ltb, ℕ, zero, suc, ◌+◌, ◌-◌, ◌*◌, ◌<◌, ◌≤◌, ◌≡◌, refl, sym, ap, subst, true, false, cond, List, [], ◌∷◌}
use Rattle.std.specs.Prelude.{Err, Bool, not, eqb, ltb, length}
use Rattle.std.proofs.lemmas.Bool.{eqb-false, not-true, not-false}
use Rattle.kit.specs.Words.{word-take}
use Rattle.kit.specs.Claims.{claim, Ruling, pass, fail, verdict, verdict_none, verdict_yes, verdict_no}
use Rattle.texts.specs.Reading.{u2_at}
use Rattle.reader.specs.Verdicts.{Fault, fault}
use Rattle.reader.specs.BuiltIns.{first_class, throwable}
use Rattle.classfiles.specs.Attributes.{handlers_from}
use Rattle.reader.specs.Program.{Program, Method, class_count, below}
use Rattle.rules.specs.Instruction.{Instr, targets, resolved}
use Rattle.rules.specs.Opcodes.{code_of, instruction, size_at}
use Rattle.rules.specs.Lines.{Line, line, is_start}
use Rattle.rules.specs.Shape.{all_starts, reference_claims, range_ok, catch_class, catch_ok, table_claims}
use Rattle.rules.specs.Ancestry.{lineage, Parents, below_lineage}
use Rattle.rules.specs.Sites.{front, site_code, program_at, method_at}
use Rattle.shaping.specs.Asks.{Says, refer_by}
use Rattle.shaping.specs.SiteLaws.{word-front, site_says}
use Rattle.texts.specs.Faults.{number}
use Rattle.texts.specs.declared.faults.Refusal.{Refusal}
use Rattle.shaping.specs.Marks.{ruled_as, lines_at, Ready}
use Rattle.shaping.specs.LineLaws.{rest, rest_all, rest_end, rest_last, rest_more}
use Rattle.shaping.specs.ScanLaws.{code_here, code-length}
use Rattle.rules.specs.Handlers.{entry_at, catch_in, catch_is}
use Rattle.rules.specs.declared.site.Site.{Site}

-- ---- 12 and 13 of the line at o: R is what all of them come to
module _ (P : Program) (M : Method) (all : List Line) (o n : ℕ) (i : Instr) (R : Ruling Fault) (v : verdict (reference_claims all (rest P M o)) ≡ R) (h : o < length (code_of M)) (en : n ≡ size_at (code_of M) o) (ei : i ≡ instruction P M o) where
  first_line : (ls : List Line) → rest P M o ≡ line o (instruction P M o) (o + size_at (code_of M) o) ∷ ls
      → verdict (claim (fault 12 o) (all_starts all (targets i)) ∷ claim (fault 13 o) (resolved i) ∷ reference_claims all ls) ≡ R
  unfolding reference_claims
  first_line ls e =
      ap (λ (j : Instr). verdict (claim (fault 12 o) (all_starts all (targets j)) ∷ claim (fault 13 o) (resolved j) ∷ reference_claims all ls)) ei
      ∙ ap (λ (l : List Line). verdict (reference_claims all l)) (sym e) ∙ v

  some_line : (A : Type 0) → ((ls : List Line) → verdict (claim (fault 12 o) (all_starts all (targets i)) ∷ claim (fault 13 o) (resolved i) ∷ reference_claims all ls) ≡ R → A) → A
  some_line A k = go (eqb n 0) refl
    where
      go : (b : Bool) → eqb n 0 ≡ b → A
      go true e = k [] (first_line [] (rest_last P M o h (sym en ∙ eqb-true n 0 e)))
      go false e = k _ (first_line _ (rest_more P M o h (λ z. eqb-false n 0 e (en ∙ z))))

  module _ (a : Bool) (ea : a ≡ all_starts all (targets i)) where
    pub reach_no : not a ≡ true → fail (fault 12 o) ≡ R
    reach_no e =
        some_line (fail (fault 12 o) ≡ R) (λ ls q. sym (verdict_no (fault 12 o) (all_starts all (targets i)) _ (sym ea ∙ not-true a e)) ∙ q)

    module _ (ya : not a ≡ false) (b : Bool) (eb : b ≡ resolved i) where
      led : all_starts all (targets i) ≡ true
      led = sym ea ∙ not-false a ya

      pub name_no : not b ≡ true → fail (fault 13 o) ≡ R
      name_no e =
          some_line (fail (fault 13 o) ≡ R)
          (λ ls q. sym (verdict_yes (fault 12 o) (all_starts all (targets i)) _ led ∙ verdict_no (fault 13 o) (resolved i) (reference_claims all ls) (sym eb ∙ not-true b e)) ∙ q)

      module _ (yb : not b ≡ false) where
        both_pass : (ls : List Line) → verdict (claim (fault 12 o) (all_starts all (targets i)) ∷ claim (fault 13 o) (resolved i) ∷ reference_claims all ls) ≡ verdict (reference_claims all ls)
        both_pass ls =
            verdict_yes (fault 12 o) (all_starts all (targets i)) _ led ∙ verdict_yes (fault 13 o) (resolved i) (reference_claims all ls) (sym eb ∙ not-false b yb)

        pub refer_last : n ≡ 0 → pass ≡ R
        unfolding reference_claims
        refer_last z = sym (verdict_none) ∙ sym (both_pass []) ∙ first_line [] (rest_last P M o h (sym en ∙ z))

        pub refer_next : (n ≡ 0 → ⊥) → verdict (reference_claims all (rest P M (o + n))) ≡ R
        refer_next z =
            ap (λ (k : ℕ). verdict (reference_claims all (rest P M (o + k)))) en ∙ sym (both_pass _) ∙ first_line _ (rest_more P M o h (λ y. z (en ∙ y)))

pub refer_end : (P : Program) (M : Method) (all : List Line) (o : ℕ) (R : Ruling Fault) → verdict (reference_claims all (rest P M o)) ≡ R → length (code_of M) ≤ o → pass ≡ R
unfolding reference_claims
refer_end P M all o R v h = sym (verdict_none) ∙ ap (λ (l : List Line). verdict (reference_claims all l)) (sym (rest_end P M o h)) ∙ v

-- the same at a site
pub record Referring (s t : List ℕ) (x : Site) (o : ℕ) : Type 0 where
  pub claims :
      verdict (reference_claims (lines_at s t x) (rest (program_at s (front t) x) (method_at s (front t) x) o))
      ≡ verdict (reference_claims (lines_at s t x) (lines_at s t x))

module _ (s t : List ℕ) (x : Site) (y : Ready s t x) where
  abbrev P : Program
  P = program_at s (front t) x

  abbrev M : Method
  M = method_at s (front t) x

  abbrev all : List Line
  all = lines_at s t x

  code-site : code_of M ≡ site_code s x
  code-site = code_here s t x y.here y.one

  long_site : length (code_of M) ≡ length (site_code s x)
  long_site = ap length code-site

  pub refer_start : Referring s t x 0
  unfolding lines_at
  refer_start = record { claims = ap (λ (ls : List Line). verdict (reference_claims all ls)) (sym (rest_all P M)) }

  pub refer_done : (o : ℕ) → length (site_code s x) ≤ o → Referring s t x o → pass ≡ verdict (reference_claims all all)
  refer_done o l z = refer_end P M all o _ z.claims (omega (arith, long_site))

  module _ (o n : ℕ) (z : Referring s t x o) (l : o < length (site_code s x)) (en : n ≡ size_at (site_code s x) o) (v : ℕ) (d : Says (refer_by all) s t x.class (site_code s x) o v) where
    abbrev I : Instr
    I = instruction P M o

    size_site : n ≡ size_at (code_of M) o
    size_site = en ∙ ap (λ (c : List ℕ). size_at c o) (sym code-site)

    refers : v ≡ refer_by all I
    refers = site_says (refer_by all) s t t x y.here y.one refl o v d

    inside : o < length (code_of M)
    inside = omega (arith, long_site)

    pub refer_no : (r : Refusal) → v ≡ number r → (number r ≡ 0 → ⊥) → ruled_as (Err (record { 0 = r; 1 = o })) ≡ verdict (reference_claims all all)
    unfolding refer_by
    refer_no r y e = ap (λ (k : ℕ). fail (fault k o)) (sym y) ∙ go (all_starts all (targets I)) refl (resolved I) refl refers
      where
        go : (a : Bool) → a ≡ all_starts all (targets I) → (b : Bool) → b ≡ resolved I → v ≡ cond a (cond b 0 13) 12 → fail (fault v o) ≡ verdict (reference_claims all all)
        go false ea b eb q = ap (λ (k : ℕ). fail (fault k o)) q ∙ reach_no P M all o n I _ z.claims inside size_site refl false ea refl
        go true ea true eb q = absurd (e (sym y ∙ q))
        go true ea false eb q = ap (λ (k : ℕ). fail (fault k o)) q ∙ name_no P M all o n I _ z.claims inside size_site refl true ea refl false eb refl

    module _ (e : v ≡ 0) where
      refer_both : (all_starts all (targets I) ≡ true) × (resolved I ≡ true)
      unfolding refer_by
      refer_both = go (all_starts all (targets I)) refl (resolved I) refl (sym e ∙ refers)
        where
          go : (a : Bool) → all_starts all (targets I) ≡ a → (b : Bool) → resolved I ≡ b → ◌≡◌ {A = ℕ} 0 (cond a (cond b 0 13) 12) → (all_starts all (targets I) ≡ true) × (resolved I ≡ true)
          go false ea b eb q = absurd (omega arith)
          go true ea true eb q = (ea, eb)
          go true ea false eb q = absurd (omega arith)

      pub refer_stop : n ≡ 0 → pass ≡ verdict (reference_claims all all)
      refer_stop k = refer_last P M all o n I _ z.claims inside size_site refl true (sym refer_both.0) refl true (sym refer_both.1) refl k

      pub refer_turn : (n ≡ 0 → ⊥) → Referring s t x (o + n)
      refer_turn k = record { claims = refer_next P M all o n I _ z.claims inside size_site refl true (sym refer_both.0) refl true (sym refer_both.1) refl k }

  -- ---- a handler's range, by what was read
  pub range_is : (q : ℕ) → range_ok M all (entry_at s q)
      ≡ cond (is_start all (u2_at s q)) (cond (is_start all (u2_at s (q + 4))) (cond (cond (is_start all (u2_at s (q + 2))) true (eqb (u2_at s (q + 2)) (x.end - x.start))) (ltb (u2_at s q) (u2_at s (q + 2))) false) false) false
  unfolding range_ok
  range_is q = rw (long_site ∙ code-length s x y.here.bounded)

  module _ (q a b h : ℕ) (ea : a ≡ u2_at s q) (eb : b ≡ u2_at s (q + 2)) (eh : h ≡ u2_at s (q + 4)) (f g k : Bool) (ef : f ≡ is_start all a) (yf : not f ≡ false) (eg : g ≡ is_start all h) (yg : not g ≡ false) (ek : k ≡ is_start all b) where
    range_by : range_ok M all (entry_at s q) ≡ cond (cond k true (eqb b (x.end - x.start))) (ltb a b) false
    range_by = range_is q ∙ rw (← ea, ← eb, ← eh, ← ef, ← eg, ← ek, not-false f yf, not-false g yg)

    pub range_start : k ≡ true → ltb a b ≡ range_ok M all (entry_at s q)
    range_start e = sym (range_by ∙ rw e)

    pub range_last : k ≡ false → b ≡ x.end - x.start → ltb a b ≡ range_ok M all (entry_at s q)
    range_last e z = sym (range_by ∙ rw (e, eq-eqb b (x.end - x.start) z))

    pub range_none : k ≡ false → (b ≡ x.end - x.start → ⊥) → false ≡ range_ok M all (entry_at s q)
    range_none e z = sym (range_by ∙ rw (e, ne_eqb b (x.end - x.start) z))

  -- ---- its class
  parents_here : Parents P t 25728 (first_class + x.classes)
  parents_here =
      let p : Parents P (front t) 25728 (first_class + x.classes) = y.here.sited.parents in
      record { count = p.count; parent = λ c l. sym (word-take 187008 t (25728 + c) (omega (arith, y.here.bounded.classes))) ∙ p.parent c l }

  caught_here : (q : ℕ) → catch_in t x.class (first_class + x.classes) (u2_at s (q + 6)) ≡ catch_class P M (entry_at s q)
  unfolding catch_in
  caught_here q =
      catch-front ∙ catch_is s (front t) P M x y.here.sited (entry_at s q)
    where
      catch-front : catch_in t x.class (first_class + x.classes) (u2_at s (q + 6)) ≡ catch_in (front t) x.class (first_class + x.classes) (u2_at s (q + 6))
      catch-front = rw (word-front t x.class (u2_at s (q + 6)))

  module _ (q c : ℕ) (e : c ≡ catch_in t x.class (first_class + x.classes) (u2_at s (q + 6))) where
    class_here : c ≡ catch_class P M (entry_at s q)
    class_here = e ∙ caught_here q

    count_here : first_class + x.classes ≡ class_count P
    count_here = parents_here.count

    pub catch_below : (r : Bool) → c < first_class + x.classes → r ≡ below (lineage t 25728 (first_class + x.classes)) c 1 → r ≡ catch_ok P M (entry_at s q)
    unfolding catch_ok
    catch_below r l h =
        let k : catch_class P M (entry_at s q) < class_count P = subst (λ (j : ℕ). j < class_count P) class_here (subst (λ (j : ℕ). c < j) count_here l) in
        h ∙ below_lineage P t 25728 (first_class + x.classes) parents_here c 1
        ∙ ap (λ (j : ℕ). below P j throwable) class_here ∙ sym (rw (lt-ltb (catch_class P M (entry_at s q)) (class_count P) k))

    pub catch_unknown : first_class + x.classes ≤ c → false ≡ catch_ok P M (entry_at s q)
    unfolding catch_ok
    catch_unknown l =
        let k : class_count P ≤ catch_class P M (entry_at s q) = subst (λ (j : ℕ). class_count P ≤ j) class_here (subst (λ (j : ℕ). j ≤ c) count_here l) in
        sym (rw (le-ltb (catch_class P M (entry_at s q)) (class_count P) k))

-- ---- the table at q with n entries left: R is what the whole comes to
module _ (P : Program) (M : Method) (all : List Line) (s : List ℕ) (q n : ℕ) (R : Ruling Fault) (v : verdict (table_claims P M all (handlers_from s n q)) ≡ R) where
  entry_first : 0 < n → verdict (claim (fault 12 (u2_at s q)) (range_ok M all (entry_at s q)) ∷ claim (fault 13 (u2_at s q)) (catch_ok P M (entry_at s q)) ∷ table_claims P M all (handlers_from s (n - 1) (q + 8))) ≡ R
  unfolding table_claims handlers_from
  entry_first h = go n h ∙ v
    where
      go : (m : ℕ) → 0 < m → verdict (claim (fault 12 (u2_at s q)) (range_ok M all (entry_at s q)) ∷ claim (fault 13 (u2_at s q)) (catch_ok P M (entry_at s q)) ∷ table_claims P M all (handlers_from s (m - 1) (q + 8))) ≡ verdict (table_claims P M all (handlers_from s m q))
      go zero h = absurd (not-suc-le-zero h)
      go (suc m) h = rw (sub-one)

  pub table_end : n ≤ 0 → pass ≡ R
  unfolding table_claims handlers_from
  table_end h = go n h ∙ v
    where
      go : (m : ℕ) → m ≤ 0 → pass ≡ verdict (table_claims P M all (handlers_from s m q))
      go zero h = sym (verdict_none)
      go (suc m) h = absurd (not-suc-le-zero h)

  module _ (h : 0 < n) (a : Bool) (ea : a ≡ range_ok M all (entry_at s q)) where
    pub table_12 : (p : ℕ) → p ≡ u2_at s q → not a ≡ true → fail (fault 12 p) ≡ R
    table_12 p ep e = rw ep (sym (verdict_no (fault 12 (u2_at s q)) (range_ok M all (entry_at s q)) _ (sym ea ∙ not-true a e)) ∙ entry_first h)

    module _ (ya : not a ≡ false) (b : Bool) (eb : b ≡ catch_ok P M (entry_at s q)) where
      pub table_13 : (p : ℕ) → p ≡ u2_at s q → not b ≡ true → fail (fault 13 p) ≡ R
      table_13 p ep e =
          rw ep (sym (verdict_yes (fault 12 (u2_at s q)) (range_ok M all (entry_at s q)) _ (sym ea ∙ not-false a ya)
          ∙ verdict_no (fault 13 (u2_at s q)) (catch_ok P M (entry_at s q)) _ (sym eb ∙ not-true b e)) ∙ entry_first h)

      pub table_next : not b ≡ false → verdict (table_claims P M all (handlers_from s (n - 1) (q + 8))) ≡ R
      table_next e =
          sym (verdict_yes (fault 12 (u2_at s q)) (range_ok M all (entry_at s q)) _ (sym ea ∙ not-false a ya)
          ∙ verdict_yes (fault 13 (u2_at s q)) (catch_ok P M (entry_at s q)) _ (sym eb ∙ not-false b e)) ∙ entry_first h

-- ---- the table by the index of its entries
module _ (P : Program) (M : Method) (all : List Line) (s : List ℕ) (n q : ℕ) where
  pub table_start : verdict (table_claims P M all (handlers_from s (n - 0) (q + 8 * 0))) ≡ verdict (table_claims P M all (handlers_from s n q))
  table_start =
      let a : n - 0 ≡ n = omega arith in
      let b : q + 8 * 0 ≡ q = omega arith in
      rw (a, b)

  pub table_turn : (k : ℕ) {R : Ruling Fault} → verdict (table_claims P M all (handlers_from s (n - k - 1) (q + 8 * k + 8))) ≡ R → verdict (table_claims P M all (handlers_from s (n - (k + 1)) (q + 8 * (k + 1)))) ≡ R
  table_turn k h =
      let a : n - k - 1 ≡ n - (k + 1) = omega arith in
      let b : q + 8 * k + 8 ≡ q + 8 * (k + 1) = omega arith in
      rw (← a, ← b) h
