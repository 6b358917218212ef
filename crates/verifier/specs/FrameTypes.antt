-- A row of types read into words, as the loop goes. Assumes nothing.
use Rattle.std.specs.Prelude.{ℕ, ◌+◌, ◌-◌, ◌^◌, ◌<◌, ◌≤◌, ◌≡◌, Result, Ok, Err, IsErrAnd, List, length}
use Rattle.std.proofs.Common.{sym, ◌∙◌, inr, ap, arith}
use Rattle.kit.specs.Words.{put_word}
use Rattle.texts.specs.Reading.{Res, ok, bad, pre, many}
use Rattle.texts.specs.Faults.{number}
use Rattle.classfiles.specs.Loops.{pre_nil, many_done, many_stop, many_next}
use Rattle.texts.specs.declared.faults.Fault as faults
use Rattle.rules.specs.Types.{Ty}
use Rattle.rules.specs.TypeWords.{type_of}
use Rattle.rules.specs.Slots.{locals_at}
use Rattle.verifier.specs.FrameReading.{type_at, Readable}
use Rattle.verifier.specs.Besides.{Besides, besides_none, besides_put, besides_types, besides_readable, locals_put}
use Rattle.rules.specs.declared.site.Site.{Site}

-- n types from q on stand in the words from w on, and the answer is the position past them
abbrev pub types_as : List ℕ → ℕ → ℕ → Result ℕ faults.Fault → Res (List Ty)
types_as u w n (Ok a) = ok (locals_at u w n) a
types_as u w n (Err e) = bad (number e.0) e.1

pub record Types (s t : List ℕ) (x : Site) (f : List ℕ) (k n w q : ℕ) (r : Result ℕ faults.Fault) (u : List ℕ) : Type 0 where
  pub is : types_as u w n r ≡ many (type_at s t x f k) n q
  pub besides : Besides w n t u

-- i of them are read, the next stands at a
pub record TypesRead (s t : List ℕ) (x : Site) (f : List ℕ) (k n w q : ℕ) (u : List ℕ) (a i : ℕ) : Type 0 where
  pub is : pre (locals_at u w i) (many (type_at s t x f k) (n - i) a) ≡ many (type_at s t x f k) n q
  pub besides : Besides w n t u
  pub few : i ≤ n

module _ (s t : List ℕ) (x : Site) (f : List ℕ) (k n w q : ℕ) where
  pub types_start : TypesRead s t x f k n w q t q 0
  unfolding locals_at
  types_start = record { is = pre_nil (many (type_at s t x f k) (n - 0) q) ∙ (let z : n - 0 ≡ n = omega arith in ap (λ (m : ℕ). many (type_at s t x f k) m q) z); besides = besides_none w n t; few = omega arith }

  module _ (u : List ℕ) (a i : ℕ) (z : TypesRead s t x f k n w q u a i) where
    pub types_ready : Readable s t x → 65184 ≤ w → Readable s u x
    types_ready y h = besides_readable w n t u z.besides (omega arith) s x (inr h) y

    pub types-end : n ≤ i → Types s t x f k n w q (Ok a) u
    types-end h =
        let e : i ≡ n = omega (arith, z.few) in
        record { is = ap (λ (m : ℕ). ok (locals_at u w m) a) (sym e) ∙ many_done (type_at s t x f k) n i a (locals_at u w i) _ z.is h; besides = z.besides }

    module _ (h : 65184 ≤ w) (l : i < n) where
      same_type : (R : Res Ty) → R ≡ type_at s u x f k a → R ≡ type_at s t x f k a
      same_type R e = e ∙ besides_types w n t u z.besides (omega arith) s x f k a

      pub types_stop : (r : Result ℕ faults.Fault) (e : faults.Fault) → IsErrAnd r (λ j. j ≡ e) → bad (number e.0) e.1 ≡ type_at s u x f k a → Types s t x f k n w q r u
      types_stop (Ok j) e p g = absurd p
      types_stop (Err j) e p g = record {
        is = rw p (many_stop (type_at s t x f k) n i a (locals_at u w i) _ z.is l (number e.0) e.1 (same_type _ g));
        besides = z.besides;
      }

      pub types_next : (j b : ℕ) → ok (type_of j) b ≡ type_at s u x f k a → (v : List ℕ) → v ≡ put_word u (w + i) j → j < 2 ^ 32 → w + n ≤ 65536 → 262144 ≤ length t
          → TypesRead s t x f k n w q v b (i + 1)
      types_next j b e v ev o g m = record {
        is =
            ap (λ (ls : List Ty). pre ls (many (type_at s t x f k) (n - (i + 1)) b))
            (ap (λ (y : List ℕ). locals_at y w (i + 1)) ev ∙ locals_put u w i j (omega (arith, z.besides.long)) o)
            ∙ many_next (type_at s t x f k) n i a (locals_at u w i) _ z.is l (type_of j) b (same_type _ e);
        besides = rw ev (besides_put w n (w + i) j t u (omega arith) (omega arith) z.besides);
        few = omega arith;
      }
