-- A frame's row written from the words at hand: locals, operands, offset, depth, flag. Assumes nothing.
use Rattle.std.specs.Prelude.{◌≡◌, refl, Bool, true, false, cond, not, ◌⊎◌, eqb, length}
use Rattle.std.proofs.Common.{sym, ◌∙◌, inl, inr, zero-add, ℕ, zero, suc, ◌+◌, ◌-◌, ◌/◌, ◌%◌, ◌^◌, ◌<◌, ◌≤◌, ap, List, [], ◌∷◌, ◌++◌, reverse, arith, replicate}
use mathlib.Core.List.{reverse-append}
use Rattle.kit.specs.Pick.{side}
use Rattle.kit.specs.Words.{word, put_word, word_same, word_other, length_put}
use Rattle.rules.specs.Types.{self, Ty, top, uninit, is_uninit}
use Rattle.rules.specs.Rule.{key_of}
use Rattle.rules.specs.States.{State, state, no_copy, padded}
use Rattle.rules.specs.TypeWords.{type_of}
use Rattle.rules.specs.Slots.{slot, locals_at, stack_at, held}
use Rattle.rules.specs.SlotLaws.{slot_is, length_locals}
use Rattle.rules.specs.FrameRows.{row_held}
use Rattle.verifier.specs.Besides.{Besides, besides_none, besides_put, besides_then, besides_wide, besides_word, besides_locals, locals_more}
use Rattle.verifier.specs.Drawing.{list_in, stack_in}

-- the n words from a on stand from b on too, all others as they were
pub record Brought (a b n : ℕ) (t u : List ℕ) : Type 0 where
  pub done : (j : ℕ) → j < n → slot u (b + j) ≡ slot t (a + j)
  pub besides : Besides b n t u

-- the n words from a on are top
pub record Topped (a n : ℕ) (t u : List ℕ) : Type 0 where
  pub done : (j : ℕ) → j < n → slot u (a + j) ≡ top
  pub besides : Besides a n t u

-- n locals and m operands at hand stand in the row at a, with z locals in all
pub record SlotsPut (t : List ℕ) (a z n m : ℕ) (u : List ℕ) : Type 0 where
  pub locals : locals_at u a z ≡ padded z (list_in t n)
  pub stack : stack_at u (a + 32) m ≡ reverse (stack_in t m)
  pub besides : Besides a 64 t u

-- the frame at hand is the row at a
abbrev pub state_at_hand : List ℕ → ℕ → ℕ → ℕ → State
state_at_hand t z n m = state (not (no_copy self (list_in t n ++ stack_in t m))) (padded z (list_in t n)) (reverse (stack_in t m))

pub record RowPut (t : List ℕ) (a z n m o : ℕ) (u : List ℕ) : Type 0 where
  pub offset : word u (a + 64) ≡ o
  pub holds : held u (row_held u z a) ≡ state_at_hand t z n m
  pub besides : Besides a 68 t u

-- ---- uninitThis among some words: v is the word read, q what was found of it
module _ (t : List ℕ) (a i n : ℕ) (R : Bool) (inv : no_copy self (locals_at t (a + i) (n - i)) ≡ R) where
  pub self_end : n ≤ i → true ≡ R
  unfolding no_copy locals_at
  self_end h = let z : n - i ≡ 0 = omega arith in ap (λ (k : ℕ). no_copy self (locals_at t (a + i) k)) (sym z) ∙ inv

  module _ (h : i < n) (v k : ℕ) (q : Bool) (ev : v ≡ word t (a + i)) (ek : type_of k ≡ uninit self) (eq : q ≡ is_uninit (key_of (type_of k)) (type_of v)) where
    self_step : no_copy self (locals_at t (a + i) (n - i)) ≡ cond q false (no_copy self (locals_at t (a + (i + 1)) (n - (i + 1))))
    unfolding no_copy locals_at slot
    self_step =
        let z : n - i ≡ suc (n - (i + 1)) = omega arith in
        let y : suc (a + i) ≡ a + (i + 1) = omega arith in
        let w : q ≡ is_uninit self (type_of (word t (a + i))) = eq ∙ ap (λ (u : Ty). is_uninit (key_of u) (type_of v)) ek ∙ ap (λ (u : ℕ). is_uninit self (type_of u)) ev in
        rw (z, w, y)

    pub self_hit : q ≡ true → false ≡ R
    self_hit e = sym (self_step ∙ ap (λ (b : Bool). cond b false (no_copy self (locals_at t (a + (i + 1)) (n - (i + 1))))) e) ∙ inv

    pub self_more : q ≡ false → no_copy self (locals_at t (a + (i + 1)) (n - (i + 1))) ≡ R
    self_more e = sym (self_step ∙ ap (λ (b : Bool). cond b false (no_copy self (locals_at t (a + (i + 1)) (n - (i + 1))))) e) ∙ inv

pub self_start : (t : List ℕ) (a n : ℕ) → no_copy self (locals_at t (a + 0) (n - 0)) ≡ no_copy self (locals_at t a n)
self_start t a n =
    let y : a + 0 ≡ a = omega arith in
    let z : n - 0 ≡ n = omega arith in
    rw (y, z)

copy_append : (l m : List Ty) → no_copy self (l ++ m) ≡ cond (no_copy self l) (no_copy self m) false
unfolding no_copy
copy_append [] m = refl
copy_append (y ∷ l) m = go (is_uninit self y) (copy_append l m)
  where
    go : (b : Bool) → no_copy self (l ++ m) ≡ cond (no_copy self l) (no_copy self m) false
        → cond b false (no_copy self (l ++ m)) ≡ cond (cond b false (no_copy self l)) (no_copy self m) false
    go true e = refl
    go false e = e

module _ (l m : List Ty) (p : Bool) (ep : p ≡ no_copy self l) where
  pub flag-locals : p ≡ false → ◌≡◌ {A = ℕ} 1 (cond (no_copy self (l ++ m)) 0 1)
  flag-locals e = sym (rw (copy_append l m, ← ep, e))

  module _ (e : p ≡ true) (q : Bool) (eq : q ≡ no_copy self m) where
    pub flag-stack : q ≡ false → ◌≡◌ {A = ℕ} 1 (cond (no_copy self (l ++ m)) 0 1)
    flag-stack f = sym (rw (copy_append l m, ← ep, e, ← eq, f))

    pub flag_none : q ≡ true → ◌≡◌ {A = ℕ} 0 (cond (no_copy self (l ++ m)) 0 1)
    flag_none f = sym (rw (copy_append l m, ← ep, e, ← eq, f))

-- ---- the loops
slot_put : (t : List ℕ) (i w : ℕ) → i < length t / 4 → w < 2 ^ 32 → slot (put_word t i w) i ≡ type_of w
slot_put t i w h f = sym (slot_is (put_word t i w) i) ∙ ap type_of (word_same t i w h f)

slot_other : (t : List ℕ) (i j w : ℕ) → (j ≡ i → ⊥) → slot (put_word t i w) j ≡ slot t j
slot_other t i j w n = sym (slot_is (put_word t i w) j) ∙ ap type_of (word_other t i w j n) ∙ slot_is t j

besides_slot : (w n : ℕ) (t u : List ℕ) → Besides w n t u → (k : ℕ) → (k < w) ⊎ (w + n ≤ k) → slot u k ≡ slot t k
besides_slot w n t u b k o = sym (slot_is u k) ∙ ap type_of (besides_word w n t u b k o) ∙ slot_is t k

pub brought_none : (a b : ℕ) (t : List ℕ) → Brought a b 0 t t
brought_none a b t = record { done = λ j l. absurd (omega arith); besides = besides_none b 0 t }

pub brought_more : (a b n w : ℕ) (t u v : List ℕ) → Brought a b n t u → b + n ≤ a + n → b + n < length u / 4 → w ≡ word u (a + n) → w < 2 ^ 32 → v ≡ put_word u (b + n) w → Brought a b (n + 1) t v
brought_more a b n w t u v c h l e f g = rw g (record {
  done = λ j k. done j k (side j n);
  besides = besides_put b (n + 1) (b + n) w t u (omega arith) (omega arith) (besides_wide b n b (n + 1) t u (omega arith) (omega arith) c.besides);
})
  where
    done : (j : ℕ) → j < n + 1 → (j < n) ⊎ (n ≤ j) → slot (put_word u (b + n) w) (b + j) ≡ slot t (a + j)
    done j k (inl d) = slot_other u (b + n) (b + j) w (λ z. omega arith) ∙ c.done j d
    done j k (inr d) =
        let z : j ≡ n = omega arith in
        ap (λ (i : ℕ). slot (put_word u (b + n) w) (b + i)) z ∙ slot_put u (b + n) w l f ∙ ap type_of e ∙ slot_is u (a + n)
        ∙ besides_slot b n t u c.besides (a + n) (inr h) ∙ ap (λ (i : ℕ). slot t (a + i)) (sym z)

pub topped_none : (a : ℕ) (t : List ℕ) → Topped a 0 t t
topped_none a t = record { done = λ j l. absurd (omega arith); besides = besides_none a 0 t }

pub topped_more : (a n : ℕ) (t u v : List ℕ) → Topped a n t u → a + n < length u / 4 → v ≡ put_word u (a + n) 0 → Topped a (n + 1) t v
unfolding type_of
topped_more a n t u v c l g = rw g (record {
  done = λ j k. done j k (side j n);
  besides = besides_put a (n + 1) (a + n) 0 t u (omega arith) (omega arith) (besides_wide a n a (n + 1) t u (omega arith) (omega arith) c.besides);
})
  where
    done : (j : ℕ) → j < n + 1 → (j < n) ⊎ (n ≤ j) → slot (put_word u (a + n) 0) (a + j) ≡ top
    done j k (inl d) = slot_other u (a + n) (a + j) 0 (λ z. omega arith) ∙ c.done j d
    done j k (inr d) =
        let z : j ≡ n = omega arith in
        ap (λ (i : ℕ). slot (put_word u (a + n) 0) (a + i)) z ∙ slot_put u (a + n) 0 l (omega arith)

-- ---- the state
pub locals_moved : (t u : List ℕ) (a b n : ℕ) → ((j : ℕ) → j < n → slot u (b + j) ≡ slot t (a + j)) → locals_at u b n ≡ locals_at t a n
unfolding locals_at
locals_moved t u a b zero h = refl
locals_moved t u a b (suc n) h =
    let x : b + 0 ≡ b = omega arith in
    let y : a + 0 ≡ a = omega arith in
    let p : slot u b ≡ slot t a = ap (slot u) (sym x) ∙ h 0 (omega arith) ∙ ap (slot t) y in
    let q : locals_at u (suc b) n ≡ locals_at t (suc a) n =
    locals_moved t u (suc a) (suc b) n (λ j l. let v : b + suc j ≡ suc b + j = omega arith in let w : a + suc j ≡ suc a + j = omega arith in ap (slot u) (sym v) ∙ h (suc j) (omega arith) ∙ ap (slot t) w) in
    cc

locals-top : (u : List ℕ) (a n : ℕ) → ((j : ℕ) → j < n → slot u (a + j) ≡ top) → locals_at u a n ≡ replicate n top
unfolding locals_at
locals-top u a zero h = refl
locals-top u a (suc n) h =
    let x : a + 0 ≡ a = omega arith in
    let p : slot u a ≡ top = ap (slot u) (sym x) ∙ h 0 (omega arith) in
    let q : locals_at u (suc a) n ≡ replicate n top = locals-top u (suc a) n (λ j l. let w : a + suc j ≡ suc a + j = omega arith in ap (slot u) (sym w) ∙ h (suc j) (omega arith)) in
    cc

pub locals-append : (t : List ℕ) (w n m : ℕ) → locals_at t w (n + m) ≡ locals_at t w n ++ locals_at t (w + n) m
unfolding locals_at
locals-append t w zero m = let z : w ≡ w + 0 = omega arith in rw (zero-add m) (ap (λ (j : ℕ). locals_at t j m) z)
locals-append t w (suc n) m =
    let z : suc n + m ≡ suc (n + m) = omega arith in
    let y : suc w + n ≡ w + suc n = omega arith in
    ap (locals_at t w) z ∙ ap (λ (l : List Ty). slot t w ∷ l) (locals-append t (suc w) n m ∙ ap (λ (j : ℕ). locals_at t (suc w) n ++ locals_at t j m) y)

pub stack-reverse : (t : List ℕ) (x d : ℕ) → stack_at t x d ≡ reverse (locals_at t x d)
unfolding stack_at locals_at
stack-reverse t x zero = refl
stack-reverse t x (suc d) =
    ap (λ (l : List Ty). slot t (x + d) ∷ l) (stack-reverse t x d)
    ∙ sym (reverse-append (locals_at t x d) (slot t (x + d) ∷ [])) ∙ sym (ap reverse (locals_more t x d))

module _ (t : List ℕ) (a z n m : ℕ) (h : n ≤ z) (l : z ≤ 32) (k : m ≤ 32) (g : a + 68 ≤ 65184) where
  pub slots_put : (u v w : List ℕ) → Brought 65184 a n t u → Topped (a + n) (z - n) u v → Brought 65216 (a + 32) m v w → SlotsPut t a z n m w
  unfolding padded
  slots_put u v w p q r = record {
    locals =
        let e : z ≡ n + (z - n) = omega arith in
        let c : locals_at w a n ≡ list_in t n =
        besides_locals (a + 32) m v w r.besides a n (inl (omega arith)) ∙ besides_locals (a + n) (z - n) u v q.besides a n (inl (omega arith))
        ∙ locals_moved t u 65184 a n p.done in
        let d : locals_at w (a + n) (z - n) ≡ replicate (z - n) top =
        besides_locals (a + 32) m v w r.besides (a + n) (z - n) (inl (omega arith)) ∙ locals-top v (a + n) (z - n) q.done in
        ap (locals_at w a) e ∙ locals-append w a n (z - n) ∙ ap (λ (y : List Ty). y ++ locals_at w (a + n) (z - n)) c
        ∙ ap (λ (y : List Ty). list_in t n ++ y) d ∙ ap (λ (j : ℕ). list_in t n ++ replicate (z - j) top) (sym (length_locals t 65184 n));
    stack =
        stack-reverse w (a + 32) m
        ∙ ap reverse
        (locals_moved v w 65216 (a + 32) m r.done ∙ besides_locals (a + n) (z - n) u v q.besides 65216 m (inr (omega arith))
        ∙ besides_locals a n t u p.besides 65216 m (inr (omega arith)));
    besides =
        besides_then a 64 t v w
        (besides_then a 64 t u v (besides_wide a n a 64 t u (omega arith) (omega arith) p.besides) (besides_wide (a + n) (z - n) a 64 u v (omega arith) (omega arith) q.besides))
        (besides_wide (a + 32) m a 64 v w (omega arith) (omega arith) r.besides);
  }

  flag_is : (b : Bool) → eqb (cond b 0 1) 1 ≡ not b
  flag_is true = refl
  flag_is false = refl

  pub row_put : (o y : ℕ) (u v w r : List ℕ) → o < 65536 → 65288 ≤ length t / 4 → y ≡ cond (no_copy self (list_in t n ++ stack_in t m)) 0 1 → SlotsPut t a z n m u
      → v ≡ put_word u (a + 64) o → w ≡ put_word v (a + 65) m → r ≡ put_word w (a + 66) y → RowPut t a z n m o r
  row_put o y u v w r ho hl ey p ev ew er = record { offset = offset; holds = is; besides = whole }
    where
      small : y < 2 ^ 32
      small = rw ey (go (no_copy self (list_in t n ++ stack_in t m)))
        where
          go : (b : Bool) → cond b 0 1 < 2 ^ 32
          go true = omega arith
          go false = omega arith

      tail : Besides (a + 64) 3 u r
      tail =
          rw er (besides_put (a + 64) 3 (a + 66) y u w (omega arith) (omega arith)
          (rw ew (besides_put (a + 64) 3 (a + 65) m u v (omega arith) (omega arith)
          (rw ev (besides_put (a + 64) 3 (a + 64) o u u (omega arith) (omega arith) (besides_none (a + 64) 3 u))))))

      whole : Besides a 68 t r
      whole = besides_then a 68 t u r (besides_wide a 64 a 68 t u (omega arith) (omega arith) p.besides) (besides_wide (a + 64) 3 a 68 u r (omega arith) (omega arith) tail)

      lu : length u ≡ length t
      lu = p.besides.long

      lv : length v ≡ length t
      lv = ap length ev ∙ length_put u (a + 64) o ∙ lu

      lw : length w ≡ length t
      lw = ap length ew ∙ length_put v (a + 65) m ∙ lv

      offset : word r (a + 64) ≡ o
      offset =
          ap (λ (l : List ℕ). word l (a + 64)) er ∙ word_other w (a + 66) y (a + 64) (λ e. omega arith)
          ∙ ap (λ (l : List ℕ). word l (a + 64)) ew ∙ word_other v (a + 65) m (a + 64) (λ e. omega arith)
          ∙ ap (λ (l : List ℕ). word l (a + 64)) ev ∙ word_same u (a + 64) o (omega (arith, lu)) (omega arith)

      depth : word r (a + 65) ≡ m
      depth =
          ap (λ (l : List ℕ). word l (a + 65)) er ∙ word_other w (a + 66) y (a + 65) (λ e. omega arith)
          ∙ ap (λ (l : List ℕ). word l (a + 65)) ew ∙ word_same v (a + 65) m (omega (arith, lv)) (omega arith)

      flag : word r (a + 66) ≡ y
      flag = ap (λ (l : List ℕ). word l (a + 66)) er ∙ word_same w (a + 66) y (omega (arith, lw)) small

      is : held r (row_held r z a) ≡ state_at_hand t z n m
      is =
          let fl : eqb (word r (a + 66)) 1 ≡ not (no_copy self (list_in t n ++ stack_in t m)) = ap (λ (j : ℕ). eqb j 1) (flag ∙ ey) ∙ flag_is (no_copy self (list_in t n ++ stack_in t m)) in
          let lo : locals_at r a z ≡ padded z (list_in t n) = besides_locals (a + 64) 3 u r tail a z (inl (omega arith)) ∙ p.locals in
          let dp : word r (a + 65) % 33 ≡ m = omega (arith, depth) in
          let st : stack_at r (a + 32) m ≡ reverse (stack_in t m) =
          stack-reverse r (a + 32) m ∙ ap reverse (besides_locals (a + 64) 3 u r tail (a + 32) m (inl (omega arith))) ∙ sym (stack-reverse u (a + 32) m) ∙ p.stack in
          rw (fl, lo, dp, st)
