-- Where the handlers of a method that has passed phase C lead: into its code. Assumes nothing.
use Rattle.std.specs.Prelude.{ℕ, ◌<◌, ◌≤◌, ◌≡◌, Bool, not, ◌⊎◌, eqb}
use Rattle.std.proofs.Common.{sym, ap, ◌∙◌, inl, inr, arith, refl, true, false, cond, List, [], ◌∷◌, length}
use Rattle.std.proofs.Math.Option.{Option, none, some}
use Rattle.kit.specs.Bools.{not_so}
use Rattle.kit.specs.Pick.{side}
use Rattle.kit.specs.Claims.{Claim, claim, pass, verdict, fail_pass, then_pass_right, verdict-append}
use Rattle.classfiles.specs.Members.{Handler}
use Rattle.reader.specs.Program.{Program, Method, below}
use Rattle.rules.specs.Opcodes.{body, code_of}
use Rattle.rules.specs.Lines.{lines, is_start}
use Rattle.shaping.specs.LineLaws.{lines_after}
use Rattle.shaping.specs.MarkLaws.{start_is}
use Rattle.rules.specs.Shape.{body_claims, form_claims, reference_claims, range_ok, catch_class, table_claims, shape_claims}
use Rattle.rules.specs.Walk.{covers}
use Rattle.shaping.specs.Phases.{shape_by}
use Rattle.plain.specs.Machine.{catcher}

module _ {K : Type 0} (k : K) where
  first_holds : (b : Bool) (cs : List (Claim K)) → verdict (claim k b ∷ cs) ≡ pass → b ≡ true
  unfolding verdict
  first_holds true cs e = refl
  first_holds false cs e = absurd (fail_pass k e)

  rest-holds : (b : Bool) (cs : List (Claim K)) → verdict (claim k b ∷ cs) ≡ pass → verdict cs ≡ pass
  unfolding verdict
  rest-holds true cs e = e
  rest-holds false cs e = absurd (fail_pass k e)

module _ (P : Program) (M : Method) where
  start_inside : (j : ℕ) → is_start (lines P M) j ≡ true → j < length (code_of M)
  start_inside j e = go (side j (length (code_of M)))
    where
      go : (j < length (code_of M)) ⊎ (length (code_of M) ≤ j) → j < length (code_of M)
      go (inl h) = h
      go (inr h) = absurd (not_so (sym (start_is (lines P M) j ∙ ap (λ (i : ℕ). not (eqb i 0)) (lines_after P M j h)) ∙ e))

  target_starts : (h : Handler) → range_ok M (lines P M) h ≡ true → is_start (lines P M) h.target ≡ true
  unfolding range_ok
  target_starts h e = go (is_start (lines P M) h.start) (is_start (lines P M) h.target) _ e
    where
      go : (a b c : Bool) → cond a (cond b c false) false ≡ true → b ≡ true
      go true true c x = refl
      go true false c x = absurd (not_so x)
      go false b c x = absurd (not_so x)

  some_is : (a i : ℕ) → ◌≡◌ {A = Option ℕ} (some a) (some i) → a ≡ i
  some_is a i e = ap (λ (o : Option ℕ). or_zero o) e
    where
      or_zero : Option ℕ → ℕ
      or_zero none = 0
      or_zero (some v) = v

  none_some : (i : ℕ) → ◌≡◌ {A = Option ℕ} none (some i) → ⊥
  none_some i e = let z : ◌≡◌ {A = ℕ} 0 1 = cc in absurd (omega arith)

  caught_inside : (hs : List Handler) → verdict (table_claims P M (lines P M) hs) ≡ pass → (o c a : ℕ) → catcher P M o c hs ≡ some a → a < length (code_of M)
  unfolding table_claims catcher
  caught_inside [] v o c a e = absurd (none_some a e)
  caught_inside (h ∷ hs) v o c a e = go (cond (covers o h) (below P c (catch_class P M h)) false) (caught_inside hs (rest-holds _ _ _ (rest-holds _ _ _ v)) o c a) e
    where
      inside : h.target < length (code_of M)
      inside = start_inside h.target (target_starts h (first_holds _ _ _ v))

      go : (b : Bool) → (catcher P M o c hs ≡ some a → a < length (code_of M)) → cond b (some h.target) (catcher P M o c hs) ≡ some a → a < length (code_of M)
      go true y x = let z = some_is h.target a x in omega (arith, z, inside)
      go false y x = y x

  table_pass : shape_by P M ≡ pass → verdict (table_claims P M (lines P M) (body M).table) ≡ pass
  unfolding shape_claims shape_by
  table_pass h =
      let all = lines P M in
      then_pass_right (verdict (reference_claims all all)) _ (sym (verdict-append (reference_claims all all) _)
      ∙ then_pass_right (verdict (form_claims M all)) _ (sym (verdict-append (form_claims M all) _)
      ∙ then_pass_right (verdict (body_claims M)) _ (sym (verdict-append (body_claims M) _) ∙ h)))

  pub leads_inside : shape_by P M ≡ pass → (o c a : ℕ) → catcher P M o c (body M).table ≡ some a → a < length (code_of M)
  leads_inside h = caught_inside (body M).table (table_pass h)
