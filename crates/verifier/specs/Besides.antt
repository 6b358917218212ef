-- Some words of a scratch change and all other bytes stay: what that leaves of the method's site, marks and types. Assumes nothing.
use Rattle.std.specs.Prelude.{ℕ, zero, suc, ◌+◌, ◌-◌, ◌*◌, ◌/◌, ◌^◌, ◌<◌, ◌≤◌, ◌≡◌, refl, ◌⊎◌, min, length, get_or}
use Rattle.std.proofs.Common.{sym, ◌∙◌, arith, add-one, length-take, get_or-take, ext_get_or, ap, subst, List, [], ◌∷◌, ◌++◌, inl, inr}
use Rattle.kit.specs.Pick.{side}
use Rattle.kit.specs.Words.{word, put_word, word_by, word_out, word_same, word_other, byte_other, length_put}
use Rattle.rules.specs.Types.{Ty}
use Rattle.rules.specs.TypeWords.{type_of}
use Rattle.rules.specs.Slots.{slot, locals_at}
use Rattle.rules.specs.SlotLaws.{locals_same}
use Rattle.rules.specs.Lines.{Line, lines}
use Rattle.rules.specs.Frames.{info_at}
use Rattle.rules.specs.Sites.{front, program_at, method_at}
use Rattle.shaping.specs.Marks.{mark_at, lines_at, Marked, Ready}
use Rattle.shaping.specs.ScanLaws.{here_front, init-front, lines-front}
use Rattle.verifier.specs.FrameReading.{type_at, Readable}
use Rattle.rules.specs.declared.site.Site.{Site}

-- n words from w on
pub record Besides (w n : ℕ) (t u : List ℕ) : Type 0 where
  pub bytes : (j : ℕ) → (j < 4 * w) ⊎ (4 * (w + n) ≤ j) → get_or u j 0 ≡ get_or t j 0
  pub long : length u ≡ length t

pub besides_none : (w n : ℕ) (t : List ℕ) → Besides w n t t
besides_none w n t = record { bytes = λ j o. refl; long = refl }

pub besides_then : (w n : ℕ) (t u v : List ℕ) → Besides w n t u → Besides w n u v → Besides w n t v
besides_then w n t u v a b = record { bytes = λ j o. b.bytes j o ∙ a.bytes j o; long = b.long ∙ a.long }

pub besides_wide : (w n x m : ℕ) (t u : List ℕ) → x ≤ w → w + n ≤ x + m → Besides w n t u → Besides x m t u
besides_wide w n x m t u h l b = record { bytes = λ j o. b.bytes j (go j o); long = b.long }
  where
    go : (j : ℕ) → (j < 4 * x) ⊎ (4 * (x + m) ≤ j) → (j < 4 * w) ⊎ (4 * (w + n) ≤ j)
    go j (inl p) = inl (omega arith)
    go j (inr p) = inr (omega arith)

pub besides_put : (w n k v : ℕ) (t u : List ℕ) → w ≤ k → k < w + n → Besides w n t u → Besides w n t (put_word u k v)
besides_put w n k v t u h l b =
    record { bytes = λ j o. byte_other u k v j (away j o) ∙ b.bytes j o; long = length_put u k v ∙ b.long }
  where
    away : (j : ℕ) → (j < 4 * w) ⊎ (4 * (w + n) ≤ j) → j / 4 ≡ k → ⊥
    away j (inl p) e = absurd (omega arith)
    away j (inr p) e = absurd (omega arith)

module _ (w n : ℕ) (t u : List ℕ) (b : Besides w n t u) where
  pub besides_word : (k : ℕ) → (k < w) ⊎ (w + n ≤ k) → word u k ≡ word t k
  besides_word k o = go (side k (length t / 4))
    where
      far : (i : ℕ) → i < 4 → (4 * k + i < 4 * w) ⊎ (4 * (w + n) ≤ 4 * k + i)
      far i h = by o
        where
          by : (k < w) ⊎ (w + n ≤ k) → (4 * k + i < 4 * w) ⊎ (4 * (w + n) ≤ 4 * k + i)
          by (inl p) = inl (omega arith)
          by (inr p) = inr (omega arith)

      go : (k < length t / 4) ⊎ (length t / 4 ≤ k) → word u k ≡ word t k
      go (inl h) = word_by u t k k (rw b.long h) h (λ i l. b.bytes (4 * k + i) (far i l))
      go (inr h) = word_out u k (rw b.long h) ∙ sym (word_out t k h)

  pub besides_locals : (x m : ℕ) → (x + m ≤ w) ⊎ (w + n ≤ x) → locals_at u x m ≡ locals_at t x m
  unfolding slot
  besides_locals x m o = locals_same t u x m (λ i h l. ap type_of (besides_word i (by i h l o)))
    where
      by : (i : ℕ) → x ≤ i → i < x + m → (x + m ≤ w) ⊎ (w + n ≤ x) → (i < w) ⊎ (w + n ≤ i)
      by i h l (inl p) = inl (omega arith)
      by i h l (inr p) = inr (omega arith)

  module _ (h : 46752 ≤ w) where
    pub besides_front : front u ≡ front t
    besides_front =
        ext_get_or 0 (front u) (front t)
        (length-take 187008 u ∙ ap (min 187008) b.long ∙ sym (length-take 187008 t))
        (λ i l. at i (omega (arith, length-take 187008 u)))
      where
        at : (i : ℕ) → i < 187008 → get_or (front u) i 0 ≡ get_or (front t) i 0
        at i l = get_or-take 187008 u i 0 l ∙ b.bytes i (inl (omega arith)) ∙ sym (get_or-take 187008 t i 0 l)

    pub besides_types : (s : List ℕ) (x : Site) (f : List ℕ) (k q : ℕ) → type_at s u x f k q ≡ type_at s t x f k q
    unfolding type_at lines_at
    besides_types s x f k q = ap (λ (l : List ℕ). info_at (program_at s l x) (method_at s l x) (lines (program_at s l x) (method_at s l x)) f k q) besides_front

    besides_ready : (s : List ℕ) (x : Site) → (w + n ≤ 64160) ⊎ (65184 ≤ w) → Ready s t x → Ready s u x
    unfolding mark_at
    besides_ready s x o y = record {
      here = here_front s t u x besides_front y.here;
      one = y.one;
      long = rw b.long y.long;
      marks = subst (λ (ls : List Line). Marked ls (x.end - x.start) u) (sym (lines-front s t u x besides_front)) kept;
    }
      where
        away : (j : ℕ) → j < 4096 → (w + n ≤ 64160) ⊎ (65184 ≤ w) → (256640 + j < 4 * w) ⊎ (4 * (w + n) ≤ 256640 + j)
        away j l (inl p) = inr (omega arith)
        away j l (inr p) = inl (omega arith)

        mark_same : (j : ℕ) → j < 4096 → get_or u (256640 + j) 0 ≡ get_or t (256640 + j) 0
        mark_same j l = b.bytes (256640 + j) (away j l o)

        kept : Marked (lines_at s t x) (x.end - x.start) u
        kept = record { at = λ j l. mark_same j (omega (arith, y.here.bounded.size)) ∙ y.marks.at j l; past = y.marks.past }

    pub besides_readable : (s : List ℕ) (x : Site) → (w + n ≤ 64160) ⊎ (65184 ≤ w) → Readable s t x → Readable s u x
    besides_readable s x o y = record { marked = besides_ready s x o y.marked; init = init-front s t u x besides_front y.init }

-- one more of a row of types
pub locals_more : (t : List ℕ) (w i : ℕ) → locals_at t w (suc i) ≡ locals_at t w i ++ (slot t (w + i) ∷ [])
unfolding locals_at
locals_more t w zero = let z : w ≡ w + 0 = omega arith in ap (λ (k : ℕ). slot t k ∷ []) z
locals_more t w (suc i) =
    let z : suc w + i ≡ w + suc i = omega arith in
    ap (λ (l : List Ty). slot t w ∷ l) (locals_more t (suc w) i ∙ ap (λ (k : ℕ). locals_at t (suc w) i ++ (slot t k ∷ [])) z)

pub locals_put : (t : List ℕ) (w i v : ℕ) → w + i < length t / 4 → v < 2 ^ 32 → locals_at (put_word t (w + i) v) w (i + 1) ≡ locals_at t w i ++ (type_of v ∷ [])
unfolding slot
locals_put t w i v h f =
    ap (locals_at (put_word t (w + i) v) w) (add-one i) ∙ locals_more (put_word t (w + i) v) w i
    ∙ ap (λ (l : List Ty). l ++ (type_of (word (put_word t (w + i) v) (w + i)) ∷ [])) (locals_same t (put_word t (w + i) v) w i (λ j a b. ap type_of (word_other t (w + i) v j (λ e. omega arith))))
    ∙ ap (λ (k : ℕ). locals_at t w i ++ (type_of k ∷ [])) (word_same t (w + i) v h f)
