-- Laws of frames in words: the look-up's turns, and a state that goes to what was found. Assumes nothing.
use Rattle.std.specs.Prelude.{◌≡◌, refl, List, [], ◌⊎◌, length}
use Rattle.std.proofs.Common.{sym, ◌∙◌, inl, inr, not-suc-le-zero, ℕ, zero, suc, ◌+◌, ◌-◌, ◌*◌, ◌/◌, ◌%◌, ◌<◌, ◌≤◌, arith, eq-eqb, ne_eqb, ap, false, eqb}
use Rattle.std.proofs.Math.Option.{Option, none, some}
use Rattle.kit.specs.Pick.{side}
use Rattle.kit.specs.Words.{word}
use Rattle.kit.specs.Claims.{Ruling, fail, verdict, claim_fails}
use Rattle.reader.specs.Program.{Program}
use Rattle.rules.specs.States.{State, state_fits}
use Rattle.rules.specs.Walk.{frame_at, into_frame}
use Rattle.rules.specs.Slots.{held}
use Rattle.rules.specs.FrameRows.{row_held, frames_at, frames_of, Laid, Among, Sound}
use Rattle.rules.specs.declared.slots.Held.{Held}
use Rattle.rules.specs.declared.frames.Rows.{Rows}

-- a row as it is read: d and w are its words
module _ (t : List ℕ) (n x d w : ℕ) where
  pub row_is : d ≡ word t (x + 65) → w ≡ word t (x + 66) → ◌≡◌ {A = Held} (record { at = x; locals = n; depth = d % 33; flag = eqb w 1 }) (row_held t n x)
  row_is p q = cc

  pub row-sound : n ≤ 32 → x + 68 ≤ length t / 4 → Sound t (record { at = x; locals = n; depth = d % 33; flag = eqb w 1 })
  row-sound h l = record { placed = record { inside = omega arith; locals = h; depth = omega arith }; depth = omega arith }

-- ---- look-up by halves
module _ (t : List ℕ) (n o : ℕ) where
  -- c rows: k that stand elsewhere, then m
  skip : (x k m c : ℕ) → c ≡ k + m → ((i : ℕ) → i < k → word t (x + 68 * i + 64) ≡ o → ⊥) → frame_at (frames_at t n x c) o ≡ frame_at (frames_at t n (x + 68 * k) m) o
  unfolding frames_at frame_at
  skip x zero m c l h =
      let e : x ≡ x + 68 * 0 = omega arith in
      let d : c ≡ m = omega arith in
      ap (λ (y : ℕ). frame_at (frames_at t n y c) o) e ∙ ap (λ (y : ℕ). frame_at (frames_at t n (x + 68 * 0) y) o) d
  skip x (suc k) m zero l h = absurd (omega arith)
  skip x (suc k) m (suc c) l h =
      let e : x + 68 + 68 * k ≡ x + 68 * suc k = omega arith in
      let z : x + 68 * 0 + 64 ≡ x + 64 = omega arith in
      let g : eqb (word t (x + 64)) o ≡ false = ne_eqb (word t (x + 64)) o (λ q. h 0 (omega arith) (ap (word t) z ∙ q)) in
      rw (g, ← e)
      (skip (x + 68) k m c (omega arith) (λ i l. let y : x + 68 * suc i + 64 ≡ x + 68 + 68 * i + 64 = omega arith in λ q. h (suc i) (omega arith) (ap (word t) y ∙ q)))

  none_there : (x m : ℕ) → ((i : ℕ) → i < m → word t (x + 68 * i + 64) ≡ o → ⊥) → frame_at (frames_at t n x m) o ≡ none
  unfolding frames_at frame_at
  none_there x m h = skip x m 0 m (omega arith) h

  -- c rows: k, then m that stand elsewhere
  trim : (x k m c : ℕ) → c ≡ k + m → ((i : ℕ) → k ≤ i → i < c → word t (x + 68 * i + 64) ≡ o → ⊥) → frame_at (frames_at t n x c) o ≡ frame_at (frames_at t n x k) o
  unfolding frames_at frame_at
  trim x zero m c l h = none_there x c (λ i g. h i (omega arith) g)
  trim x (suc k) m zero l h = absurd (omega arith)
  trim x (suc k) m (suc c) l h =
      let r : frame_at (frames_at t n (x + 68) c) o ≡ frame_at (frames_at t n (x + 68) k) o =
      trim (x + 68) k m c (omega arith) (λ i g l. let y : x + 68 * suc i + 64 ≡ x + 68 + 68 * i + 64 = omega arith in λ q. h (suc i) (omega arith) (omega arith) (ap (word t) y ∙ q)) in
      rw r

  hit_first : (x m : ℕ) → 0 < m → word t (x + 64) ≡ o → frame_at (frames_at t n x m) o ≡ some (held t (row_held t n x))
  unfolding frames_at frame_at
  hit_first x zero l e = absurd (not-suc-le-zero l)
  hit_first x (suc m) l e = rw (eq-eqb (word t (x + 64)) o e)

-- the rows from lo up to hi are left; R is what the whole look-up gives, w the offset of the row in the middle
module _ (t : List ℕ) (f : Rows) (h : Laid t f) (o lo hi : ℕ) (R : Option State) (i : frame_at (frames_at t f.locals (f.at + 68 * lo) (hi - lo)) o ≡ R) (hc : hi ≤ f.count) where
  module _ (mid w : ℕ) (a : lo ≤ mid) (b : mid < hi) (e : w ≡ word t (f.at + 68 * mid + 64)) where
    row_is_at : (j : ℕ) → f.at + 68 * lo + 68 * j + 64 ≡ f.at + 68 * (lo + j) + 64
    row_is_at j = omega arith

    under_it : (j : ℕ) → lo + j < mid → word t (f.at + 68 * lo + 68 * j + 64) < w
    under_it j l = rw (row_is_at j, e) (h.rising (lo + j) mid l (omega arith))

    over_it : (j : ℕ) → mid < lo + j → lo + j < hi → w < word t (f.at + 68 * lo + 68 * j + 64)
    over_it j l m = rw (row_is_at j, e) (h.rising mid (lo + j) l (omega arith))

    at_it : (j : ℕ) → lo + j ≡ mid → word t (f.at + 68 * lo + 68 * j + 64) ≡ w
    at_it j l = rw (row_is_at j, l, e)

    pub half_hit : (g : Held) → w ≡ o → g ≡ row_held t f.locals (f.at + 68 * mid) → some (held t g) ≡ R
    half_hit g q p =
        let y : f.at + 68 * lo + 68 * (mid - lo) ≡ f.at + 68 * mid = omega arith in
        ap (λ (v : Held). some (held t v)) p
        ∙ sym (hit_first t f.locals o (f.at + 68 * mid) (hi - mid) (omega arith) (sym e ∙ q))
        ∙ ap (λ (v : ℕ). frame_at (frames_at t f.locals v (hi - mid)) o) (sym y)
        ∙ sym (skip t f.locals o (f.at + 68 * lo) (mid - lo) (hi - mid) (hi - lo) (omega arith) (λ j l z. omega (arith, under_it j (omega arith)))) ∙ i

    pub half_up : w < o → frame_at (frames_at t f.locals (f.at + 68 * (mid + 1)) (hi - (mid + 1))) o ≡ R
    half_up q =
        let y : f.at + 68 * lo + 68 * (mid + 1 - lo) ≡ f.at + 68 * (mid + 1) = omega arith in
        ap (λ (v : ℕ). frame_at (frames_at t f.locals v (hi - (mid + 1))) o) (sym y)
        ∙ sym (skip t f.locals o (f.at + 68 * lo) (mid + 1 - lo) (hi - (mid + 1)) (hi - lo) (omega arith) (λ j l z. low j l z (side (lo + j) mid))) ∙ i
      where
        low : (j : ℕ) → j < mid + 1 - lo → word t (f.at + 68 * lo + 68 * j + 64) ≡ o → (lo + j < mid) ⊎ (mid ≤ lo + j) → ⊥
        low j l z (inl m) = omega (arith, under_it j m)
        low j l z (inr m) = omega (arith, at_it j (omega arith))

    pub half_down : o < w → frame_at (frames_at t f.locals (f.at + 68 * lo) (mid - lo)) o ≡ R
    half_down q =
        sym (trim t f.locals o (f.at + 68 * lo) (mid - lo) (hi - mid) (hi - lo) (omega arith) (λ j g l z. high j g l z (side mid (lo + j)))) ∙ i
      where
        high : (j : ℕ) → mid - lo ≤ j → j < hi - lo → word t (f.at + 68 * lo + 68 * j + 64) ≡ o → (mid < lo + j) ⊎ (lo + j ≤ mid) → ⊥
        high j g l z (inl m) = omega (arith, over_it j m (omega arith))
        high j g l z (inr m) = omega (arith, at_it j (omega arith))

  pub half_end : hi ≤ lo → none ≡ R
  unfolding frames_at frame_at
  half_end l = let z : hi - lo ≡ 0 = omega arith in ap (λ (k : ℕ). frame_at (frames_at t f.locals (f.at + 68 * lo) k) o) (sym z) ∙ i

pub half_start : (t : List ℕ) (f : Rows) (o : ℕ) → frame_at (frames_at t f.locals (f.at + 68 * 0) (f.count - 0)) o ≡ frame_at (frames_of t f) o
half_start t f o =
    let x : f.at + 68 * 0 ≡ f.at = omega arith in
    let y : f.count - 0 ≡ f.count = omega arith in
    rw (x, y)

pub among-row : (t : List ℕ) (f : Rows) (h : Held) (x : ℕ) → h ≡ row_held t f.locals x → x + 68 ≤ f.at + 68 * f.count + 68 → Among f h
among-row t f h x e l = rw e (record { end = l; locals = refl })

-- into what was found
module _ (P : Program) (S : State) (F : Option State) where
  pub into_none : none ≡ F → fail 17 ≡ verdict (into_frame P S F)
  into_none e = rw (← e) (claim_fails 17 [] false refl)

  pub into_some : (G : State) (R : Ruling ℕ) → some G ≡ F → R ≡ verdict (state_fits P S G) → R ≡ verdict (into_frame P S F)
  into_some G R e q = rw (← e) q
