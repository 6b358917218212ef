-- Whatever is wrong with frame k is 14 at k: a reading that has no other fault. Assumes nothing.
use Rattle.std.specs.Prelude.{◌≡◌, Bool, true, false, cond, eqb, ltb, leb, get_or}
use Rattle.std.proofs.Common.{sym, ◌∙◌, arith, ℕ, zero, suc, ◌+◌, refl, ap, List, [], ◌∷◌, length}
use Rattle.texts.specs.Reading.{Res, ok, bad, and_then, pre, many, num2_at, u2_at}
use Rattle.reader.specs.Program.{class, is_constructor}
use Rattle.rules.specs.Resolve.{Resolved, nothing, number, type, field, method_of, resolve}
use Rattle.rules.specs.Lines.{is_new_at}
use Rattle.rules.specs.Types.{at, self, top, int, null, uninit}
use Rattle.rules.specs.Frames.{number_at, class_ty, tagged_at, info_at}
use Rattle.rules.specs.Sites.{front, program_at, method_at}
use Rattle.shaping.specs.Marks.{lines_at}
use Rattle.verifier.specs.FrameReading.{type_at}
use Rattle.rules.specs.declared.site.Site.{Site}

abbrev pub clean : {A : Type 0} → ℕ → Res A → Res A
clean k (ok v e) = ok v e
clean k (bad n p) = bad 14 k

fault_of : {A : Type 0} → Res A → ℕ
fault_of (ok v e) = 0
fault_of (bad n p) = n

place_of : {A : Type 0} → Res A → ℕ
place_of (ok v e) = 0
place_of (bad n p) = p

-- the same fault at another type
other : {A B : Type 0} (n p m q : ℕ) → ◌≡◌ {A = Res A} (bad n p) (bad m q) → ◌≡◌ {A = Res B} (bad n p) (bad m q)
unfolding fault_of place_of
other n p m q e =
    let a : n ≡ m = ap fault_of e in
    let b : p ≡ q = ap place_of e in
    cc

-- a fault that it has
pub clean-fault : {A : Type 0} (k : ℕ) (r : Res A) → clean k r ≡ r → (n p : ℕ) → bad n p ≡ r → (n ≡ 14) × (p ≡ k)
unfolding fault_of place_of
clean-fault k (ok v e) c n p h = let z : ◌≡◌ {A = ℕ} 0 1 = cc in absurd (omega arith)
clean-fault k (bad m q) c n p h = (ap fault_of (h ∙ sym c), ap place_of (h ∙ sym c))

module _ (k : ℕ) where
  pub clean-cond : {A : Type 0} (b : Bool) (r q : Res A) → clean k r ≡ r → clean k q ≡ q → clean k (cond b r q) ≡ cond b r q
  clean-cond true r q h l = h
  clean-cond false r q h l = l

  pub clean-then : {A B : Type 0} (r : Res A) (f : A → ℕ → Res B) → clean k r ≡ r → ((v : A) (e : ℕ) → clean k (f v e) ≡ f v e) → clean k (and_then r f) ≡ and_then r f
  unfolding and_then
  clean-then (ok v e) f h l = l v e
  clean-then (bad n p) f h l = other 14 k n p h

  clean-pre : {A : Type 0} (xs : List A) (r : Res (List A)) → clean k r ≡ r → clean k (pre xs r) ≡ pre xs r
  unfolding pre
  clean-pre xs (ok ys e) h = refl
  clean-pre xs (bad n p) h = h

  pub clean-many : {A : Type 0} (f : ℕ → Res A) → ((q : ℕ) → clean k (f q) ≡ f q) → (n q : ℕ) → clean k (many f n q) ≡ many f n q
  unfolding many
  clean-many f h zero q = refl
  clean-many f h (suc n) q = clean-then (f q) _ (h q) (λ a e. clean-pre (a ∷ []) (many f n e) (clean-many f h n e))

  module _ (s t : List ℕ) (x : Site) (f : List ℕ) where
    clean-class : (q : Resolved) (e : ℕ)
        → clean k (class_ty (program_at s (front t) x) (method_at s (front t) x) (lines_at s t x) f k q e) ≡ class_ty (program_at s (front t) x) (method_at s (front t) x) (lines_at s t x) f k q e
    clean-class nothing e = refl
    clean-class (number v) e = refl
    clean-class (type r) e = refl
    clean-class (field g) e = refl
    clean-class (method_of m) e = refl

    pub clean-number : (q : ℕ)
        → clean k (number_at (program_at s (front t) x) (method_at s (front t) x) (lines_at s t x) f k q) ≡ number_at (program_at s (front t) x) (method_at s (front t) x) (lines_at s t x) f k q
    unfolding number_at num2_at
    clean-number q = clean-cond (leb (q + 2) (length f)) (ok (u2_at f q) (q + 2)) (bad 14 k) refl refl

    pub clean-type : (q : ℕ) → clean k (type_at s t x f k q) ≡ type_at s t x f k q
    unfolding type_at info_at tagged_at
    clean-type q =
        clean-cond (ltb q (length f)) _ (bad 14 k)
        (clean-cond (eqb (get_or f q 0) 0) (ok top (q + 1)) _ refl
        (clean-cond (eqb (get_or f q 0) 1) (ok int (q + 1)) _ refl
        (clean-cond (eqb (get_or f q 0) 5) (ok null (q + 1)) _ refl
        (clean-cond (eqb (get_or f q 0) 6) (cond (is_constructor (method_at s (front t) x)) (ok (uninit self) (q + 1)) (bad 14 k)) _ (clean-cond (is_constructor (method_at s (front t) x)) (ok (uninit self) (q + 1)) (bad 14 k) refl refl)
        (clean-cond (eqb (get_or f q 0) 7) _ _ (clean-then _ _ (clean-number (q + 1)) (λ i a. clean-class (resolve (program_at s (front t) x) (class (program_at s (front t) x) (method_at s (front t) x).owner).pool i) a))
        (clean-cond (eqb (get_or f q 0) 8) _ (bad 14 k) (clean-then _ _ (clean-number (q + 1)) (λ L a. clean-cond (is_new_at (lines_at s t x) L) (ok (uninit (at L)) a) (bad 14 k) refl refl)) refl)))))) refl

-- how many are read
list_of : {A : Type 0} → Res (List A) → List A
list_of (ok v e) = v
list_of (bad n p) = []

no_list : {A : Type 0} (n p : ℕ) (vs : List A) (e : ℕ) → ◌≡◌ {A = Res (List A)} (bad n p) (ok vs e) → ⊥
no_list n p vs e h = let z : ◌≡◌ {A = ℕ} 0 1 = cc in absurd (omega arith)

module _ {A : Type 0} (f : ℕ → Res A) where
  pub many-length : (n q : ℕ) (vs : List A) (e : ℕ) → many f n q ≡ ok vs e → length vs ≡ n
  unfolding many list_of and_then pre
  many-length zero q vs e h = ap (λ (r : Res (List A)). length (list_of r)) (sym h)
  many-length (suc n) q vs e h = go (f q) h (λ b ws d p. many-length n b ws d p)
    where
      front_of : (a : A) (b : ℕ) (r : Res (List A)) → many f n b ≡ r → pre (a ∷ []) r ≡ ok vs e → ((c : ℕ) (ws : List A) (d : ℕ) → many f n c ≡ ok ws d → length ws ≡ n) → length vs ≡ suc n
      front_of a b (ok ws d) p z rec = ap (λ (r : Res (List A)). length (list_of r)) (sym z) ∙ ap suc (rec b ws d p)
      front_of a b (bad m c) p z rec = absurd (no_list m c vs e z)

      go : (r : Res A) → and_then r (λ a b. pre (a ∷ []) (many f n b)) ≡ ok vs e → ((c : ℕ) (ws : List A) (d : ℕ) → many f n c ≡ ok ws d → length ws ≡ n) → length vs ≡ suc n
      go (ok a b) z rec = front_of a b (many f n b) refl z rec
      go (bad m c) z rec = absurd (no_list m c vs e z)
