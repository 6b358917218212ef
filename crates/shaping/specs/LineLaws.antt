-- Laws of a method's lines: the rest of them from an offset on, which ends where the code does. Assumes nothing.
use Rattle.std.specs.Prelude.{◌≡◌, Bool}
use Rattle.std.proofs.Common.{◌∙◌, ℕ, zero, suc, ◌+◌, ◌-◌, ◌<◌, ◌≤◌, refl, sym, ap, true, false, cond, List, [], ◌∷◌, arith, eqb, ltb, length, eq-eqb, ne_eqb, lt-ltb, le-ltb, le-leb, ltb-true}
use Rattle.std.proofs.lemmas.Bool.{lt-leb, eqb-false}
use Rattle.kit.specs.Claims.{Ruling, fail, verdict, verdict_yes, verdict_no}
use Rattle.reader.specs.Verdicts.{Fault, fault}
use Rattle.reader.specs.Program.{Program, Method}
use Rattle.rules.specs.Instruction.{Instr, form_ok}
use Rattle.rules.specs.Opcodes.{body, code_of, instruction, size_at}
use Rattle.rules.specs.Lines.{Line, line, lines_from, lines}
use Rattle.rules.specs.Shape.{line_ok, form_claims}
use Rattle.shaping.specs.Marks.{mark_in}

module _ (P : Program) (M : Method) where
  -- with steps enough their number does not matter
  enough : (n m o : ℕ) → length (code_of M) - o ≤ n → length (code_of M) - o ≤ m → lines_from P M n o ≡ lines_from P M m o
  unfolding lines_from
  enough zero zero o h k = refl
  enough zero (suc m) o h k = rw (le-ltb o (length (code_of M)) (omega arith))
  enough (suc n) zero o h k = rw (le-ltb o (length (code_of M)) (omega arith))
  enough (suc n) (suc m) o h k =
      go (ltb o (length (code_of M))) (eqb (size_at (code_of M) o) 0) refl refl
      (λ l z. enough n m (o + size_at (code_of M) o) (omega arith) (omega arith))
    where
      go : (a b : Bool) → ltb o (length (code_of M)) ≡ a → eqb (size_at (code_of M) o) 0 ≡ b
          → (o < length (code_of M) → (size_at (code_of M) o ≡ 0 → ⊥) → lines_from P M n (o + size_at (code_of M) o) ≡ lines_from P M m (o + size_at (code_of M) o))
          → cond a (line o (instruction P M o) (o + size_at (code_of M) o) ∷ cond b [] (lines_from P M n (o + size_at (code_of M) o))) []
          ≡ cond a (line o (instruction P M o) (o + size_at (code_of M) o) ∷ cond b [] (lines_from P M m (o + size_at (code_of M) o))) []
      go false b p q r = refl
      go true true p q r = refl
      go true false p q r =
          ap (λ (ls : List Line). line o (instruction P M o) (o + size_at (code_of M) o) ∷ ls) (r (ltb-true o (length (code_of M)) p) (eqb-false (size_at (code_of M) o) 0 q))

  -- the lines from o on
  unfoldable pub rest : ℕ → List Line
  rest o = lines_from P M (length (code_of M) - o) o

  pub rest_all : lines P M ≡ rest 0
  unfolding rest lines
  rest_all = enough (length (code_of M)) (length (code_of M) - 0) 0 (omega arith) (omega arith)

  module _ (o : ℕ) where
    pub rest_end : length (code_of M) ≤ o → rest o ≡ []
    unfolding rest lines_from
    rest_end h = let z : length (code_of M) - o ≡ 0 = omega arith in rw z

    pub rest_last : o < length (code_of M) → size_at (code_of M) o ≡ 0 → rest o ≡ line o (instruction P M o) (o + size_at (code_of M) o) ∷ []
    unfolding rest lines_from
    rest_last h e =
        let z : length (code_of M) - o ≡ suc (length (code_of M) - o - 1) = omega arith in
        rw z (rw (lt-ltb o (length (code_of M)) h, eq-eqb (size_at (code_of M) o) 0 e))

    pub rest_more : o < length (code_of M) → (size_at (code_of M) o ≡ 0 → ⊥)
        → rest o ≡ line o (instruction P M o) (o + size_at (code_of M) o) ∷ rest (o + size_at (code_of M) o)
    unfolding rest lines_from
    rest_more h n =
        let z : length (code_of M) - o ≡ suc (length (code_of M) - o - 1) = omega arith in
        ap (λ (k : ℕ). lines_from P M k o) z
        ∙ rw (lt-ltb o (length (code_of M)) h, ne_eqb (size_at (code_of M) o) 0 n)
        (ap (λ (ls : List Line). line o (instruction P M o) (o + size_at (code_of M) o) ∷ ls)
        (enough (length (code_of M) - o - 1) (length (code_of M) - (o + size_at (code_of M) o)) (o + size_at (code_of M) o) (omega arith) (omega arith)))

  -- no line of them stands before o
  before_from : (n o j : ℕ) → j < o → mark_in (lines_from P M n o) j ≡ 0
  unfolding lines_from mark_in
  before_from zero o j h = refl
  before_from (suc n) o j h =
      go (ltb o (length (code_of M))) (eqb (size_at (code_of M) o) 0) (before_from n (o + size_at (code_of M) o) j (omega arith))
    where
      go : (a b : Bool) → mark_in (lines_from P M n (o + size_at (code_of M) o)) j ≡ 0
          → mark_in (cond a (line o (instruction P M o) (o + size_at (code_of M) o) ∷ cond b [] (lines_from P M n (o + size_at (code_of M) o))) []) j ≡ 0
      go false b r = refl
      go true true r = rw (ne_eqb o j (λ e. omega arith))
      go true false r = rw (ne_eqb o j (λ e. omega arith)) r

  pub rest-before : (o j : ℕ) → j < o → mark_in (rest o) j ≡ 0
  unfolding rest
  rest-before o j h = before_from (length (code_of M) - o) o j h

  -- nor past the code's end
  after_from : (n o j : ℕ) → length (code_of M) ≤ j → mark_in (lines_from P M n o) j ≡ 0
  unfolding lines_from mark_in
  after_from zero o j h = refl
  after_from (suc n) o j h =
      go (ltb o (length (code_of M))) (eqb (size_at (code_of M) o) 0) refl (after_from n (o + size_at (code_of M) o) j h)
    where
      go : (a b : Bool) → ltb o (length (code_of M)) ≡ a → mark_in (lines_from P M n (o + size_at (code_of M) o)) j ≡ 0
          → mark_in (cond a (line o (instruction P M o) (o + size_at (code_of M) o) ∷ cond b [] (lines_from P M n (o + size_at (code_of M) o))) []) j ≡ 0
      go false b p r = refl
      go true b p r = let l : o < length (code_of M) = ltb-true o (length (code_of M)) p in skip b r (ne_eqb o j (λ e. omega arith))
        where
          skip : (b : Bool) → mark_in (lines_from P M n (o + size_at (code_of M) o)) j ≡ 0 → eqb o j ≡ false
              → mark_in (line o (instruction P M o) (o + size_at (code_of M) o) ∷ cond b [] (lines_from P M n (o + size_at (code_of M) o))) j ≡ 0
          skip true r e = rw e
          skip false r e = rw e r

  pub lines_after : (j : ℕ) → length (code_of M) ≤ j → mark_in (lines P M) j ≡ 0
  unfolding lines
  lines_after j h = after_from (length (code_of M)) 0 j h

  -- ---- 11 of the line at o: R is what all of them come to, n its size
  module _ (o n : ℕ) (i : Instr) (R : Ruling Fault) (v : verdict (form_claims M (rest o)) ≡ R) (h : o < length (code_of M)) (en : n ≡ size_at (code_of M) o) (ei : i ≡ instruction P M o) where
    refused : (ls : List Line) → rest o ≡ line o (instruction P M o) (o + size_at (code_of M) o) ∷ ls
        → line_ok M (line o (instruction P M o) (o + size_at (code_of M) o)) ≡ false → fail (fault 11 o) ≡ R
    unfolding form_claims
    refused ls e b = sym (verdict_no (fault 11 o) _ (form_claims M ls) b) ∙ ap (λ (l : List Line). verdict (form_claims M l)) (sym e) ∙ v

    pub form_unlisted : n ≡ 0 → fail (fault 11 o) ≡ R
    form_unlisted z =
        let y : size_at (code_of M) o ≡ 0 = sym en ∙ z in
        refused [] (rest_last o h y) (rw (le-ltb o (o + size_at (code_of M) o) (omega arith)))

    module _ (z : n ≡ 0 → ⊥) where
      more : rest o ≡ line o (instruction P M o) (o + size_at (code_of M) o) ∷ rest (o + size_at (code_of M) o)
      more = rest_more o h (λ e. z (en ∙ e))

      pub form_cut : length (code_of M) - o < n → fail (fault 11 o) ≡ R
      form_cut l =
          refused (rest (o + size_at (code_of M) o)) more
          (rw (lt-ltb o (o + size_at (code_of M) o) (omega arith), lt-leb (o + size_at (code_of M) o) (length (code_of M)) (omega arith)))

      module _ (l : n ≤ length (code_of M) - o) where
        pub form_bad : form_ok (body M).max_locals i ≡ false → fail (fault 11 o) ≡ R
        form_bad b =
            refused (rest (o + size_at (code_of M) o)) more
            (rw (lt-ltb o (o + size_at (code_of M) o) (omega arith), le-leb (o + size_at (code_of M) o) (length (code_of M)) (omega arith), ← ei) b)

        pub form_good : form_ok (body M).max_locals i ≡ true → verdict (form_claims M (rest (o + n))) ≡ R
        unfolding form_claims
        form_good b =
            let y : o + n ≡ o + size_at (code_of M) o = ap (λ (k : ℕ). o + k) en in
            let q : line_ok M (line o (instruction P M o) (o + size_at (code_of M) o)) ≡ true =
            rw (lt-ltb o (o + size_at (code_of M) o) (omega arith), le-leb (o + size_at (code_of M) o) (length (code_of M)) (omega arith), ← ei) b in
            rw y (sym (verdict_yes (fault 11 o) _ (form_claims M (rest (o + size_at (code_of M) o))) q)
            ∙ ap (λ (k : List Line). verdict (form_claims M k)) (sym more) ∙ v)
