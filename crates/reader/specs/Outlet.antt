-- What a call of the reader answers and leaves, on every path, and its result in bytes.
use Rattle.std.specs.Prelude.{ℕ, Ok, Err, ◌+◌, ◌*◌, ◌%◌, ◌/◌, ◌≤◌, ◌<◌, ◌^◌, ◌≡◌, refl, cond, List, [], ◌∷◌, ◌++◌, ltb, eqb, length, get_or, replicate}
use Rattle.std.proofs.Common.{ap, subst, ◌∙◌, lt-ltb, le-ltb, eq-eqb, ne_eqb, sym, arith}
use Rattle.kit.specs.Claims.{pass, fail}
use Rattle.kit.specs.Words.{put_word}
use Rattle.texts.specs.Faults.{number}
use Rattle.classfiles.specs.Limits.{scratch_size, unnamed}
use Rattle.reader.specs.Verdicts.{fault, in_bundle, Verdict, numbers}
use Rattle.reader.specs.Link.{Read, refused, program, read_bundle}
use Rattle.reader.specs.FaultNumbers.{LowRead, read_low}
use Rattle.reader.specs.Whole.{IsReading}
use Rattle.reader.specs.declared.link.Refused.{Refused}
use Rattle.reader.specs.declared.outlet.Answer.{Answer}

-- ---- the answer of phases A and B, and the scratch: too short it is 20 and stays, otherwise it ends all zero
unfoldable pub read_verdict : Read → Verdict
read_verdict (refused r) = fail r
read_verdict (program P) = pass

pub record Outcome : Type 0 where
  pub answer : Verdict
  pub scratch : List ℕ

abbrev pub outcome : Verdict → List ℕ → Outcome
outcome v t = record { answer = v; scratch = t }

unfoldable pub read_outcome : List ℕ → List ℕ → Outcome
read_outcome s t =
    cond (ltb (length t) scratch_size)
    (outcome (fail (in_bundle (fault 20 0))) t)
    (outcome (read_verdict (read_bundle s)) (replicate (length t) 0))

-- what a function answers and leaves, held to it
abbrev pub answer : ℕ → ℕ → ℕ → ℕ → Answer
answer n c m p = record { number = n; class = c; method = m; place = p }

abbrev pub told : Answer → List ℕ
told r = r.number ∷ r.class ∷ r.method ∷ r.place ∷ []

pub record IsOutcome (s t : List ℕ) (r : Answer) (u : List ℕ) : Type 0 where
  pub says : told r ≡ numbers (read_outcome s t).answer
  pub leaves : u ≡ (read_outcome s t).scratch
  pub small : r.number ≤ 20

-- ---- the same in bytes
-- a number's low 32 bits, low byte first
unfoldable pub four_bytes : ℕ → List ℕ
four_bytes n = n % 256 ∷ n / 256 % 256 ∷ n / 65536 % 256 ∷ n / 16777216 % 256 ∷ []

unfoldable pub in_bytes : List ℕ → List ℕ
in_bytes [] = []
in_bytes (n ∷ ns) = four_bytes n ++ in_bytes ns

-- sixteen words: four numbers, then zeros
unfoldable pub result_bytes : List ℕ → List ℕ
result_bytes ns = in_bytes ns ++ replicate 48 0

abbrev pub result_size : ℕ
result_size = 64

pub record Exported : Type 0 where
  pub code : ℕ
  pub scratch : List ℕ
  pub result : List ℕ

abbrev pub exported : ℕ → List ℕ → List ℕ → Exported
exported n t o = record { code = n; scratch = t; result = o }

-- the verdict's number, the scratch and the result; a result of another size is 20 and nothing changes
abbrev pub export_of : Outcome → Exported
export_of x = exported (get_or (numbers x.answer) 0 0) x.scratch (result_bytes (numbers x.answer))

unfoldable pub read_export : List ℕ → List ℕ → List ℕ → Exported
read_export s t o = cond (eqb (length o) result_size) (export_of (read_outcome s t)) (exported 20 t o)

-- ---- no two outcomes
pub one_outcome : (s t : List ℕ) (r r' : Answer) (u u' : List ℕ) → IsOutcome s t r u → IsOutcome s t r' u' → (r ≡ r') × (u ≡ u')
one_outcome s t r r' u u' a b =
    (ap (λ (l : List ℕ). answer (get_or l 0 0) (get_or l 1 0) (get_or l 2 0) (get_or l 3 0)) (a.says ∙ sym b.says), a.leaves ∙ sym b.leaves)

pub one_export : (n n' : ℕ) (u u' o o' : List ℕ) (x : Exported) → exported n u o ≡ x → exported n' u' o' ≡ x → (n ≡ n') × (u ≡ u') × (o ≡ o')
one_export n n' u u' o o' x p q =
    let e = p ∙ sym q in
    (ap (λ (y : Exported). y.code) e, ap (λ (y : Exported). y.scratch) e, ap (λ (y : Exported). y.result) e)

-- ---- what the code does
short_outcome : (s t : List ℕ) → length t < scratch_size → read_outcome s t ≡ outcome (fail (in_bundle (fault 20 0))) t
unfolding read_outcome
short_outcome s t h = rw (lt-ltb (length t) scratch_size h)

long_outcome : (s t : List ℕ) → scratch_size ≤ length t → read_outcome s t ≡ outcome (read_verdict (read_bundle s)) (replicate (length t) 0)
unfolding read_outcome
long_outcome s t h = rw (le-ltb (length t) scratch_size h)

pub too_short : (s t : List ℕ) → length t < scratch_size → IsOutcome s t (answer 20 unnamed unnamed 0) t
unfolding numbers
too_short s t h = record { says = rw (short_outcome s t h); leaves = rw (short_outcome s t h); small = omega arith }

module _ (s t u v : List ℕ) (h : scratch_size ≤ length t) (l : length u ≡ length t) (z : v ≡ replicate (length u) 0) where
  zeros : v ≡ (read_outcome s t).scratch
  zeros = z ∙ ap (λ (n : ℕ). replicate n 0) l ∙ sym (ap (λ (y : Outcome). y.scratch) (long_outcome s t h))

  pub read_pass : (n : ℕ) → IsReading s (Ok n) u → IsOutcome s t (answer 0 unnamed unnamed 0) v
  unfolding numbers read_verdict
  read_pass n x = record { says = rw (long_outcome s t h, ← x.is); leaves = zeros; small = omega arith }

  pub read_fail : (e : Refused) → IsReading s (Err e) u → (a : Answer) → a ≡ answer (number e.refusal) e.class unnamed e.place → IsOutcome s t a v
  unfolding numbers read_verdict
  read_fail e x a w = rw w (record { says = rw (long_outcome s t h, ← x.is); leaves = zeros; small = omega (arith, low) })
    where
      low : number e.refusal ≤ 9
      low = subst LowRead (sym x.is) (read_low s)

low_byte : (x y k : ℕ) → y ≡ 256 * k + x → x % 256 ≡ y % 256
low_byte x y k e = omega arith

four_low : (n : ℕ) → four_bytes (n % 2 ^ 32) ≡ four_bytes n
unfolding four_bytes
four_low n =
    let q = n / 2 ^ 32 in
    let a : n ≡ 256 * (16777216 * q) + n % 2 ^ 32 = omega arith in
    let b : n / 256 ≡ 256 * (65536 * q) + n % 2 ^ 32 / 256 = omega arith in
    let c : n / 65536 ≡ 256 * (256 * q) + n % 2 ^ 32 / 65536 = omega arith in
    let d : n / 16777216 ≡ 256 * q + n % 2 ^ 32 / 16777216 = omega arith in
    rw (low_byte _ _ _ a, low_byte _ _ _ b, low_byte _ _ _ c, low_byte _ _ _ d)

puts : (a b c d : ℕ) → put_word (put_word (put_word (put_word (replicate 64 0) 0 a) 1 b) 2 c) 3 d ≡ four_bytes a ++ (four_bytes b ++ (four_bytes c ++ (four_bytes d ++ replicate 48 0)))
unfolding put_word four_bytes
puts a b c d = refl

spelled : (a b c d : ℕ) → four_bytes a ++ (four_bytes b ++ (four_bytes c ++ (four_bytes d ++ replicate 48 0))) ≡ result_bytes (a ∷ b ∷ c ∷ d ∷ [])
unfolding result_bytes in_bytes four_bytes
spelled a b c d = refl

module _ (o : List ℕ) (h : length o ≡ result_size) (a b c d : ℕ) where
  pub put-result : (z w x y v : List ℕ) (i j k l : ℕ) → z ≡ replicate (length o) 0 → i ≡ a % 2 ^ 32 → w ≡ put_word z 0 i → j ≡ b % 2 ^ 32 → x ≡ put_word w 1 j
      → k ≡ c % 2 ^ 32 → y ≡ put_word x 2 k → l ≡ d % 2 ^ 32 → v ≡ put_word y 3 l → v ≡ result_bytes (a ∷ b ∷ c ∷ d ∷ [])
  put-result z w x y v i j k l ez ei ew ej ex ek ey el ev =
      rw (ev, ey, ex, ew, ez, h, ei, ej, ek, el) (puts (a % 2 ^ 32) (b % 2 ^ 32) (c % 2 ^ 32) (d % 2 ^ 32)
      ∙ rw (four_low a, four_low b, four_low c, four_low d) (spelled a b c d))

-- ---- the export
same_export : (n n' : ℕ) (t t' o o' : List ℕ) → n ≡ n' → t ≡ t' → o ≡ o' → exported n t o ≡ exported n' t' o'
same_export n n' t t' o o' p q r = cc

pub wrong_result : (s t o : List ℕ) → (length o ≡ result_size → ⊥) → exported 20 t o ≡ read_export s t o
unfolding read_export
wrong_result s t o h = rw (ne_eqb (length o) result_size h)

pub right_result : (s t u o v : List ℕ) (r : Answer) → length o ≡ result_size → IsOutcome s t r u → v ≡ result_bytes (told r) → exported r.number u v ≡ read_export s t o
unfolding read_export
right_result s t u o v r h x e =
    rw (eq-eqb (length o) result_size h)
    (same_export _ _ _ _ _ _ (ap (λ (l : List ℕ). get_or l 0 0) x.says) x.leaves (e ∙ ap result_bytes x.says))
