-- The export of a run: the refusal, everything lent, and the result in bytes. Assumes nothing.
use Rattle.std.specs.Prelude.{Ok, Err, ℕ, ◌+◌, ◌*◌, ◌/◌, ◌%◌, ◌^◌, ◌≡◌, refl, cond, List, [], ◌∷◌, ◌++◌, eqb, length, get_or, replicate}
use Rattle.std.proofs.Common.{sym, ap, ◌∙◌, arith, eq-eqb, ne_eqb}
use Rattle.kit.specs.Words.{put_word}
use Rattle.reader.specs.Outlet.{four_bytes, in_bytes, result_bytes, result_size}
use Rattle.plain.specs.Run.{Lent, answer_numbers, run_of}
use Rattle.machine.specs.Outcomes.{Told, refusal_number, told_numbers, IsRun}

pub record RanExport : Type 0 where
  pub code : ℕ
  pub lent : Lent
  pub result : List ℕ

abbrev pub ran_export : ℕ → Lent → List ℕ → RanExport
ran_export n L o = record { code = n; lent = L; result = o }

-- the refusal, 0 for none
abbrev pub refusal_of : Told → ℕ
refusal_of (Ok q) = 0
refusal_of (Err e) = refusal_number e

-- sixteen words: nine numbers, then zeros
unfoldable pub run_bytes : List ℕ → List ℕ
run_bytes ns = in_bytes ns ++ replicate 28 0

-- a result of another size is 20 and nothing changes
unfoldable pub run_export : List ℕ → Lent → ℕ → ℕ → List ℕ → ℕ → List ℕ → RanExport
run_export b L i j args budget o =
    cond (eqb (length o) result_size)
    (ran_export (get_or (answer_numbers (run_of b L i j args budget).answer) 0 0) (run_of b L i j args budget).lent (run_bytes (answer_numbers (run_of b L i j args budget).answer)))
    (ran_export 20 L o)

-- no two outcomes
pub one_export : (n n' : ℕ) (L L' : Lent) (o o' : List ℕ) (x : RanExport) → ran_export n L o ≡ x → ran_export n' L' o' ≡ x → (n ≡ n') × (L ≡ L') × (o ≡ o')
one_export n n' L L' o o' x p q =
    let e = p ∙ sym q in
    (ap (λ (y : RanExport). y.code) e, ap (λ (y : RanExport). y.lent) e, ap (λ (y : RanExport). y.result) e)

-- ---- the words
low_byte : (x y k : ℕ) → y ≡ 256 * k + x → x % 256 ≡ y % 256
low_byte x y k e = omega arith

four_low : (n : ℕ) → four_bytes (n % 2 ^ 32) ≡ four_bytes n
unfolding four_bytes
four_low n =
    let q = n / 2 ^ 32 in
    let a : n ≡ 256 * (16777216 * q) + n % 2 ^ 32 = omega arith in
    let b : n / 256 ≡ 256 * (65536 * q) + n % 2 ^ 32 / 256 = omega arith in
    let c : n / 65536 ≡ 256 * (256 * q) + n % 2 ^ 32 / 65536 = omega arith in
    let d : n / 16777216 ≡ 256 * q + n % 2 ^ 32 / 16777216 = omega arith in
    rw (low_byte _ _ _ a, low_byte _ _ _ b, low_byte _ _ _ c, low_byte _ _ _ d)

abbrev five : ℕ → ℕ → ℕ → ℕ → ℕ → List ℕ
five e f g h i = four_bytes e ++ (four_bytes f ++ (four_bytes g ++ (four_bytes h ++ (four_bytes i ++ replicate 28 0))))

more : (a b c d e f g h i : ℕ)
    → put_word (put_word (put_word (put_word (put_word (result_bytes (a ∷ b ∷ c ∷ d ∷ [])) 4 e) 5 f) 6 g) 7 h) 8 i ≡ four_bytes a ++ (four_bytes b ++ (four_bytes c ++ (four_bytes d ++ five e f g h i)))
unfolding put_word four_bytes result_bytes in_bytes
more a b c d e f g h i = refl

spelled : (a b c d e f g h i : ℕ) → four_bytes a ++ (four_bytes b ++ (four_bytes c ++ (four_bytes d ++ five e f g h i))) ≡ run_bytes (a ∷ b ∷ c ∷ d ∷ e ∷ f ∷ g ∷ h ∷ i ∷ [])
unfolding run_bytes in_bytes four_bytes
spelled a b c d e f g h i = refl

pub put-told : (a b c d e f g h i f' g' h' i' : ℕ) (v v1 v2 v3 v4 v5 : List ℕ) → v ≡ result_bytes (a ∷ b ∷ c ∷ d ∷ []) → v1 ≡ put_word v 4 e → f' ≡ f % 2 ^ 32 → v2 ≡ put_word v1 5 f' → g' ≡ g % 2 ^ 32 → v3 ≡ put_word v2 6 g'
    → h' ≡ h % 2 ^ 32 → v4 ≡ put_word v3 7 h' → i' ≡ i % 2 ^ 32 → v5 ≡ put_word v4 8 i' → v5 ≡ run_bytes (a ∷ b ∷ c ∷ d ∷ e ∷ f ∷ g ∷ h ∷ i ∷ [])
put-told a b c d e f g h i f' g' h' i' v v1 v2 v3 v4 v5 ev e1 ef e2 eg e3 eh e4 ei e5 =
    rw (e5, e4, e3, e2, e1, ev, ef, eg, eh, ei)
    (more a b c d e (f % 2 ^ 32) (g % 2 ^ 32) (h % 2 ^ 32) (i % 2 ^ 32) ∙ rw (four_low f, four_low g, four_low h, four_low i) (spelled a b c d e f g h i))

-- ---- the export
pub wrong_result : (b : List ℕ) (L : Lent) (i j : ℕ) (args : List ℕ) (budget : ℕ) (o : List ℕ) → (length o ≡ result_size → ⊥) → ran_export 20 L o ≡ run_export b L i j args budget o
unfolding run_export
wrong_result b L i j args budget o h = rw (ne_eqb (length o) result_size h)

pub right_result : (b : List ℕ) (L : Lent) (i j : ℕ) (args : List ℕ) (budget : ℕ) (o v : List ℕ) (r : Told) (M : Lent) → length o ≡ result_size → IsRun b L i j args budget r M → v ≡ run_bytes (told_numbers r)
    → (n : ℕ) → n ≡ refusal_of r → ran_export n M v ≡ run_export b L i j args budget o
unfolding run_export
right_result b L i j args budget o v r M h x e n f =
    rw (eq-eqb (length o) result_size h)
    (same (f ∙ first r ∙ ap (λ (l : List ℕ). get_or l 0 0) x.says) x.leaves (e ∙ ap run_bytes x.says))
  where
    same : {n n' : ℕ} {K K' : Lent} {u u' : List ℕ} → n ≡ n' → K ≡ K' → u ≡ u' → ran_export n K u ≡ ran_export n' K' u'
    same p q m = λ k. record { code = p k; lent = q k; result = m k }

    first : (r : Told) → refusal_of r ≡ get_or (told_numbers r) 0 0
    first (Ok q) = refl
    first (Err e) = refl
