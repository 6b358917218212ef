-- What is prepared stays so while the scratch's front stays. Assumes nothing.
use Rattle.std.specs.Prelude.{ℕ, ◌+◌, ◌-◌, ◌*◌, ◌%◌, ◌<◌, ◌≤◌, ◌≡◌, refl, Bool, true, false, cond, ltb, eqb, length, get_or, take, drop}
use Rattle.std.proofs.Common.{sym, subst, ◌∙◌, arith, take-take, get_or-take, get_or-drop, ltb-false, ap, List}
use Rattle.kit.specs.Bools.{not_so}
use Rattle.texts.specs.Reading.{Res, ok, bad}
use Rattle.classfiles.specs.Bundle.{ClassFile, class_files_at, bundle_at}
use Rattle.reader.specs.BuiltIns.{first_class}
use Rattle.reader.specs.Program.{class, method, method_of, program_of}
use Rattle.reader.specs.Link.{linked}
use Rattle.reader.specs.Linked.{files_in, files_front}
use Rattle.reader.specs.MemberRows.{block_at, row_count, row_at}
use Rattle.reader.specs.MemberAt.{number_as, method-at}
use Rattle.reader.specs.TypeCodes.{types_of, codes_in, result_at, params_in, results_in}
use Rattle.reader.specs.CodeLaws.{codes_same, params-length}
use Rattle.reader.specs.FileLimits.{BodyFits, method-fit}
use Rattle.reader.specs.Whole.{Tables}
use Rattle.rules.specs.Resolve.{resolve}
use Rattle.rules.specs.ResolvedWords.{word_of, resolved_of, Flagged}
use Rattle.shaping.specs.Resolving.{Around, ResolvedAll, files_same, block_same, parents_same, limited_same}
use Rattle.rules.specs.Sites.{front, Here}
use Rattle.shaping.specs.SiteLaws.{word-front}
use Rattle.shaping.specs.Located.{Prepared, Located}
use Rattle.rules.specs.declared.site.Site.{Site}

abbrev is_ok : {A : Type 0} → Res A → Bool
is_ok (ok a e) = true
is_ok (bad n p) = false

-- ---- phases A and B: blocks, parents and methods' types
module _ (s : List ℕ) (n : ℕ) (t u : List ℕ) (h : Tables s n t) (e : take 103040 u ≡ take 103040 t) (b : (p : ℕ) → 168576 ≤ p → p < 187008 → get_or u p 0 ≡ get_or t p 0) where
  fs : files_in s n u ≡ files_in s n t
  fs = files_same s n t u h.most e

  pub few : (c j : ℕ) → c < n → j < row_count (block_at t c) true → length (params_in t (64 * c + j)) ≤ 16
  unfolding method_of
  few c j l g =
      rw (h.types.params c j l g, method-at s n t h.most c l j g)
      ((method-fit s t n h.end (h.files ∙ ap (λ (x : List ClassFile). ok x h.end) (files_front s t n h.most)) c j l g).0 (number_as s n t))

  module _ (k : ℕ) (l : k < 1024) where
    first : get_or u (types_of k) 0 ≡ get_or t (types_of k) 0
    first = b (types_of k) (omega arith) (omega arith)

    same_results : results_in u k ≡ results_in t k
    unfolding results_in result_at
    same_results = rw (first, b (types_of k + 17) (omega arith) (omega arith))

    same_params : length (params_in t k) ≤ 16 → params_in u k ≡ params_in t k
    unfolding params_in
    same_params g =
        ap (λ (d : ℕ). codes_in u (types_of k + 1) (d % 32)) first
        ∙ codes_same t u (types_of k + 1) (get_or t (types_of k) 0 % 32) (λ p m. b (types_of k + 1 + p) (omega arith) (omega (arith, m, params-length t k, g)))

  row : (c j : ℕ) → c < n → j < row_count (block_at u c) true → j < row_count (block_at t c) true
  row c j l g = subst (λ (x : List ℕ). j < row_count x true) (block_same s n t u h.most e c (omega (arith, h.most))) g

  under : (c j : ℕ) → c < n → j < row_count (block_at t c) true → 64 * c + j < 1024
  under c j l g = omega (arith, h.most, h.limited.methods c l)

  pub tables_kept : Tables s n u
  tables_kept = record {
    most = h.most;
    end = h.end;
    files = h.files ∙ ap (λ (x : List ClassFile). ok x h.end) (sym fs);
    passed = ap (λ (x : List ClassFile). linked x (program_of x)) fs ∙ h.passed;
    limited = limited_same s n t u h.most e h.limited;
    parents = parents_same s n t u h.most e h.parents;
    types = record {
      params = λ c j l g. same_params (64 * c + j) (under c j l (row c j l g)) (few c j l (row c j l g)) ∙ h.types.params c j l (row c j l g)
          ∙ ap (λ (x : List ClassFile). (method (program_of x) (first_class + c) j).params) (sym fs);
      results = λ c j l g. same_results (64 * c + j) (under c j l (row c j l g)) ∙ h.types.results c j l (row c j l g)
          ∙ ap (λ (x : List ClassFile). (method (program_of x) (first_class + c) j).results) (sym fs);
    };
    bodies = λ c j l g. subst (λ (x : List ℕ). BodyFits (row_at s x true j).body) (sym (block_same s n t u h.most e c (omega (arith, h.most)))) (h.bodies c j l (row c j l g));
  }

-- the bundle is not too long
pub bundle_size : (s : List ℕ) (n : ℕ) (t : List ℕ) → Tables s n t → length s ≤ 65536
unfolding bundle_at
bundle_size s n t h = go (eqb (length s) 0) (ltb 65536 (length s)) refl h.files
  where
    none : ◌≡◌ {A = Res (List ClassFile)} (bad 1 0) (ok (files_in s n t) h.end) → ⊥
    none x = not_so (ap is_ok x)

    go : (a b : Bool) → ltb 65536 (length s) ≡ b → cond a (bad 1 0) (cond b (bad 1 0) (class_files_at s 16 0)) ≡ ok (files_in s n t) h.end → length s ≤ 65536
    go true b x y = absurd (none y)
    go false true x y = absurd (none y)
    go false false x y = ltb-false 65536 (length s) x

-- once the resolved words are written
prepared_by : (s : List ℕ) (n : ℕ) (t u : List ℕ) → Tables s n t → take 103040 u ≡ take 103040 t → drop 168576 u ≡ drop 168576 t → ResolvedAll s n u → Prepared s n u
prepared_by s n t u h e d r = record { tables = tables_kept s n t u h e byte; resolved = r }
  where
    byte : (p : ℕ) → 168576 ≤ p → p < 187008 → get_or u p 0 ≡ get_or t p 0
    byte p l g =
        let z : 168576 + (p - 168576) ≡ p = omega arith in
        ap (λ (q : ℕ). get_or u q 0) (sym z) ∙ sym (get_or-drop 168576 u (p - 168576) 0) ∙ ap (λ (x : List ℕ). get_or x (p - 168576) 0) d
        ∙ get_or-drop 168576 t (p - 168576) 0 ∙ ap (λ (q : ℕ). get_or t q 0) z

pub prepared_after : (s : List ℕ) (n : ℕ) (t u : List ℕ) → Tables s n t → Around t u → ResolvedAll s n u
    → (take 103040 u ≡ take 103040 t) × (drop 168576 u ≡ drop 168576 t) × Prepared s n u
prepared_after s n t u h a r = (a.front, a.back, prepared_by s n t u h a.front a.back r)

-- ---- in any scratch with the same front, and in the front alone
module _ (s : List ℕ) (n : ℕ) (t u : List ℕ) (h : Prepared s n t) (e : front u ≡ front t) where
  words_same : (c i : ℕ) → word_of u c i ≡ word_of t c i
  words_same c i = sym (word-front u c i) ∙ ap (λ (x : List ℕ). word_of x c i) e ∙ word-front t c i

  below : take 103040 u ≡ take 103040 t
  below = sym (take-take 103040 187008 u (omega arith)) ∙ ap (take 103040) e ∙ take-take 103040 187008 t (omega arith)

  pub prepared_kept : Prepared s n u
  prepared_kept = record {
    tables = tables_kept s n t u h.tables below (λ p l g. sym (get_or-take 187008 u p 0 g) ∙ ap (λ (x : List ℕ). get_or x p 0) e ∙ get_or-take 187008 t p 0 g);
    resolved = record {
      at = λ c i l. ap (resolved_of s) (words_same c i) ∙ h.resolved.at c i l ∙ ap (λ (x : List ClassFile). resolve (program_of x) (class (program_of x) (first_class + c)).pool i) (sym files);
      flags = λ c i l. subst (λ (x : List ClassFile). Flagged (program_of x) (word_of u c i)) (sym files) (subst (Flagged (program_of (files_in s n t))) (sym (words_same c i)) (h.resolved.flags c i l));
    };
  }
    where
      files : files_in s n u ≡ files_in s n t
      files = files_same s n t u h.tables.most below

pub prepared_front : (s : List ℕ) (n : ℕ) (t : List ℕ) → Prepared s n t → Prepared s n (front t)
prepared_front s n t h = prepared_kept s n t (front t) h (take-take 187008 187008 t (omega arith))

-- a site that was located in the front alone
pub here_by : (s t : List ℕ) (n c m : ℕ) (x : Site) → Located s n c m x (front t) → Here s t x
here_by s t n c m x h = record { sited = h.sited; bounded = h.bounded }
