-- Laws of states in words: what reads and stores of words are to the state, in the direction in which the code's returns ask for them.
-- Assumes nothing.
use Rattle.std.specs.Prelude.{◌≡◌, Result, IsErrAnd, Option, Some, None, is_some, Bool, true, not, ◌⊎◌, eqb, leb, length, get_or, take, drop, set}
use Rattle.std.proofs.Common.{◌∙◌, inl, inr, arith, not-suc-le-zero, add-one, sub-one, take-take, le-leb, ne_eqb, eq-eqb, ℕ, zero, suc, ◌+◌, ◌-◌, ◌*◌, ◌/◌, ◌^◌, ◌<◌, ◌≤◌, List, [], ◌∷◌, ◌++◌, refl, sym, ap, false, cond}
use Rattle.std.specs.Bool.{beq}
use Rattle.std.proofs.Math.ListN.{get_or-eq_default}
use Rattle.std.proofs.Math.Seq.{set_out}
use Rattle.std.proofs.lemmas.Bool.{lt-leb, not-true, not-false}
use Rattle.kit.specs.Pick.{side}
use Rattle.kit.specs.Claims.{claim, Ruling, pass, fail, ruled, verdict, verdict_yes, none_claimed, claim_fails, claims_on, claims_off}
use Rattle.kit.specs.Words.{word, put_word, word_same, word_other}
use Rattle.classfiles.specs.BlockWords.{take_put}
use Rattle.reader.specs.Program.{Program}
use Rattle.rules.specs.Types.{Key, Ty, top, is_uninit, fits}
use Rattle.rules.specs.States.{state, top_of, operand, slots_fit, state_fits, replace_all, no_copy}
use Rattle.rules.specs.TypeWords.{type_of}
use Rattle.rules.specs.Rule.{key_of}
use Rattle.rules.specs.declared.slots.Held.{Held}
use Rattle.rules.specs.declared.types.Ty as code
use Rattle.rules.specs.Slots.{slot, locals_at, stack_at, held, Roomy, Outside, Moved, pushed, dropped, stored, swap1, locals_swapped, all_swapped, veil1, veil, hidden_key, Swapped}

-- ---- one claim
pub claim_yes : (n : ℕ) (b : Bool) → b ≡ true → pass ≡ verdict (claim n b ∷ [])
claim_yes n b e = none_claimed ∙ sym (verdict_yes n b [] e)

pub claim_no : (n : ℕ) (b : Bool) → b ≡ false → fail n ≡ verdict (claim n b ∷ [])
claim_no n b e = claim_fails n [] b e

-- ---- slots
pub slot_is : (t : List ℕ) (i : ℕ) → type_of (word t i) ≡ slot t i
unfolding slot
slot_is t i = refl

pub slot-word : (t u : List ℕ) (i : ℕ) → word u i ≡ word t i → slot u i ≡ slot t i
unfolding slot
slot-word t u i e = ap type_of e

slot_put : (t : List ℕ) (i w : ℕ) → i < length t / 4 → w < 2 ^ 32 → slot (put_word t i w) i ≡ type_of w
unfolding slot
slot_put t i w h f = ap type_of (word_same t i w h f)

slot_other : (t : List ℕ) (i j w : ℕ) → (j ≡ i → ⊥) → slot (put_word t i w) j ≡ slot t j
unfolding slot
slot_other t i j w n = ap type_of (word_other t i w j n)

-- ---- what lies in a range decides
pub locals_same : (t u : List ℕ) (x n : ℕ) → ((i : ℕ) → x ≤ i → i < x + n → slot u i ≡ slot t i) → locals_at u x n ≡ locals_at t x n
unfolding locals_at
locals_same t u x zero h = refl
locals_same t u x (suc n) h =
    let p : slot u x ≡ slot t x = h x (omega arith) (omega arith) in
    let q : locals_at u (suc x) n ≡ locals_at t (suc x) n = locals_same t u (suc x) n (λ i a b. h i (omega arith) (omega arith)) in
    cc

pub stack_same : (t u : List ℕ) (x n : ℕ) → ((i : ℕ) → x ≤ i → i < x + n → slot u i ≡ slot t i) → stack_at u x n ≡ stack_at t x n
unfolding stack_at
stack_same t u x zero h = refl
stack_same t u x (suc n) h =
    let p : slot u (x + n) ≡ slot t (x + n) = h (x + n) (omega arith) (omega arith) in
    let q : stack_at u x n ≡ stack_at t x n = stack_same t u x n (λ i a b. h i (omega arith) (omega arith)) in
    cc

pub length-stack : (t : List ℕ) (x d : ℕ) → length (stack_at t x d) ≡ d
unfolding stack_at
length-stack t x zero = refl
length-stack t x (suc d) = ap suc (length-stack t x d)

pub length_locals : (t : List ℕ) (x n : ℕ) → length (locals_at t x n) ≡ n
unfolding locals_at
length_locals t x zero = refl
length_locals t x (suc n) = ap suc (length_locals t (suc x) n)

-- ---- a loop over n - i of n, at its start and a turn on
pub whole : (n : ℕ) → n - 0 ≡ n
whole n = omega arith

pub turned_one : (n i : ℕ) → n - (i + 1) ≡ n - i - 1
turned_one n i = omega arith

-- ---- operands
pub drop-stack : (k : ℕ) (t : List ℕ) (x d : ℕ) → drop k (stack_at t x d) ≡ stack_at t x (d - k)
unfolding stack_at
drop-stack zero t x d =
    let e : d - 0 ≡ d = omega arith in
    ap (stack_at t x) (sym e)
drop-stack (suc k) t x zero =
    let e : 0 - suc k ≡ 0 = omega arith in
    ap (stack_at t x) (sym e)
drop-stack (suc k) t x (suc d) =
    let e : d - k ≡ suc d - suc k = omega arith in
    drop-stack k t x d ∙ ap (stack_at t x) e

pub stack_cons : (t : List ℕ) (x d : ℕ) → 0 < d → stack_at t x d ≡ slot t (x + (d - 1)) ∷ stack_at t x (d - 1)
unfolding stack_at
stack_cons t x zero h = absurd (not-suc-le-zero h)
stack_cons t x (suc d) h = simp sub-one

pub stack_none : (t : List ℕ) (x d : ℕ) → d ≤ 0 → stack_at t x d ≡ []
unfolding stack_at
stack_none t x zero h = refl
stack_none t x (suc d) h = absurd (not-suc-le-zero h)

-- the last of d - i operands
pub stack_next : (t : List ℕ) (x d i : ℕ) → i < d → stack_at t x (d - i) ≡ slot t (x + (d - (i + 1))) ∷ stack_at t x (d - (i + 1))
stack_next t x d i h = rw (turned_one d i) (stack_cons t x (d - i) (omega arith))

module _ (t : List ℕ) (x d k : ℕ) where
  pub peek_at : (r : ℕ) → r ≡ word t (x + (d - k - 1)) → k < d → type_of r ≡ operand k (stack_at t x d)
  peek_at r e h =
      ap type_of e ∙ slot_is t (x + (d - k - 1)) ∙ sym (ap top_of (drop-stack k t x d ∙ stack_cons t x (d - k) (omega arith)))

  pub peek_none : (w : ℕ) → type_of w ≡ top → d ≤ k → type_of w ≡ operand k (stack_at t x d)
  peek_none w e h = e ∙ sym (ap top_of (drop-stack k t x d ∙ stack_none t x (d - k) (omega arith)))

-- ---- locals
locals_get : (t : List ℕ) (x n j : ℕ) → j < n → get_or (locals_at t x n) j top ≡ slot t (x + j)
unfolding locals_at
locals_get t x zero j h = absurd (not-suc-le-zero h)
locals_get t x (suc n) zero h =
    let e : x ≡ x + 0 = omega arith in
    ap (slot t) e
locals_get t x (suc n) (suc j) h =
    let e : suc x + j ≡ x + suc j = omega arith in
    locals_get t (suc x) n j (omega arith) ∙ ap (slot t) e

module _ (t : List ℕ) (x n j : ℕ) where
  pub local-at : (r : ℕ) → r ≡ word t (x + j) → j < n → type_of r ≡ get_or (locals_at t x n) j top
  local-at r e h = ap type_of e ∙ slot_is t (x + j) ∙ sym (locals_get t x n j h)

  pub local_none : (w : ℕ) → type_of w ≡ top → n ≤ j → type_of w ≡ get_or (locals_at t x n) j top
  local_none w e h = e ∙ sym (get_or-eq_default (locals_at t x n) top (omega (arith, length_locals t x n)))

-- ---- depths
module _ (k d : ℕ) where
  pub need_yes : k ≤ d → pass ≡ verdict {K = ℕ} (claim 15 (leb k d) ∷ [])
  need_yes h = claim_yes 15 (leb k d) (le-leb k d h)

  pub need_no : d < k → fail 15 ≡ verdict {K = ℕ} (claim 15 (leb k d) ∷ [])
  need_no h = claim_no 15 (leb k d) (lt-leb k d h)

-- room for p more where k of d go; q is what the code has for the rest
module _ (p d k most : ℕ) where
  pub room_none : most < p → fail 15 ≡ verdict {K = ℕ} (claim 15 (leb (p + (d - k)) most) ∷ [])
  room_none h = need_no (p + (d - k)) most (omega arith)

  module _ (q : ℕ) where
    pub room_no : p ≤ most → q ≡ d - k → most - p < q → fail 15 ≡ verdict {K = ℕ} (claim 15 (leb (p + (d - k)) most) ∷ [])
    room_no h e l = need_no (p + (d - k)) most (omega arith)

    pub room_yes : p ≤ most → q ≡ d - k → q ≤ most - p → pass ≡ verdict {K = ℕ} (claim 15 (leb (p + (d - k)) most) ∷ [])
    room_yes h e l = need_yes (p + (d - k)) most (omega arith)

-- ---- a copy among the operands: a loop that counts down; a is what was read, q what was found of it
module _ (t : List ℕ) (x : ℕ) (k : Key) (d i : ℕ) (R : Bool) where
  none_step : (b : Bool) → i < d → is_uninit k (slot t (x + (d - (i + 1)))) ≡ b
      → no_copy k (stack_at t x (d - i)) ≡ cond b false (no_copy k (stack_at t x (d - (i + 1))))
  unfolding no_copy
  none_step b h e =
      ap (no_copy k) (stack_next t x d i h) ∙ ap (λ (b : Bool). cond b false (no_copy k (stack_at t x (d - (i + 1))))) e

  module _ (a : ℕ) (q : Bool) where
    found : (b : Bool) → q ≡ b → q ≡ is_uninit k (type_of a) → a ≡ word t (x + (d - (i + 1))) → is_uninit k (slot t (x + (d - (i + 1)))) ≡ b
    found b e s r = ap (is_uninit k) (sym (slot_is t (x + (d - (i + 1)))) ∙ ap type_of (sym r)) ∙ sym s ∙ e

    pub copy_hit : no_copy k (stack_at t x (d - i)) ≡ R → i < d → q ≡ true → q ≡ is_uninit k (type_of a) → a ≡ word t (x + (d - (i + 1))) → false ≡ R
    copy_hit v h e s r = sym (none_step true h (found true e s r)) ∙ v

    pub copy_more : no_copy k (stack_at t x (d - i)) ≡ R → i < d → q ≡ false → q ≡ is_uninit k (type_of a) → a ≡ word t (x + (d - (i + 1)))
        → no_copy k (stack_at t x (d - (i + 1))) ≡ R
    copy_more v h e s r = sym (none_step false h (found false e s r)) ∙ v

  pub copy_end : no_copy k (stack_at t x (d - i)) ≡ R → d ≤ i → true ≡ R
  unfolding no_copy
  copy_end v h = sym (ap (no_copy k) (stack_none t x (d - i) (omega arith))) ∙ v

-- ---- stores
module _ (t : List ℕ) (i w : ℕ) where
  pub stack_apart : (x d : ℕ) → i < x → stack_at (put_word t i w) x d ≡ stack_at t x d
  stack_apart x d h = stack_same t (put_word t i w) x d (λ j a b. slot_other t i j w (λ e. omega arith))

  pub locals_apart : (x n : ℕ) → x + n ≤ i → locals_at (put_word t i w) x n ≡ locals_at t x n
  locals_apart x n h = locals_same t (put_word t i w) x n (λ j a b. slot_other t i j w (λ e. omega arith))

  pub outside_put : (x : ℕ) → x ≤ i → i < x + 72 → Outside x t (put_word t i w)
  outside_put x h l = record { kept = λ j s. word_other t i w j (λ e. apart j s e); front = take_put x t i w h }
    where
      apart : (j : ℕ) → (j < x) ⊎ (x + 72 ≤ j) → j ≡ i → ⊥
      apart j (inl a) e = omega arith
      apart j (inr a) e = omega arith

-- what is the same up to n is the same up to m below
pub take_less : (m n : ℕ) (t u : List ℕ) → m ≤ n → take n u ≡ take n t → take m u ≡ take m t
take_less m n t u h e = sym (take-take m n u h) ∙ ap (take m) e ∙ take-take m n t h

pub outside_none : (x : ℕ) (t : List ℕ) → Outside x t t
outside_none x t = record { kept = λ j s. refl; front = refl }

pub outside_two : (x : ℕ) (t u v : List ℕ) → Outside x t u → Outside x u v → Outside x t v
outside_two x t u v p q = record { kept = λ j s. q.kept j s ∙ p.kept j s; front = q.front ∙ p.front }

stack_push : (t : List ℕ) (x d w : ℕ) → x + d < length t / 4 → w < 2 ^ 32 → stack_at (put_word t (x + d) w) x (d + 1) ≡ type_of w ∷ stack_at t x d
unfolding stack_at
stack_push t x d w h f =
    rw add-one
    (let p : slot (put_word t (x + d) w) (x + d) ≡ type_of w = slot_put t (x + d) w h f in
    let q : stack_at (put_word t (x + d) w) x d ≡ stack_at t x d = stack_same t (put_word t (x + d) w) x d (λ i a b. slot_other t (x + d) i w (λ e. omega arith)) in
    cc)

locals-set : (t : List ℕ) (x n j w : ℕ) → j < n → x + n ≤ length t / 4 → w < 2 ^ 32
    → locals_at (put_word t (x + j) w) x n ≡ set (locals_at t x n) j (type_of w)
unfolding locals_at
locals-set t x zero j w h k f = absurd (not-suc-le-zero h)
locals-set t x (suc n) zero w h k f =
    let e : x + 0 ≡ x = omega arith in
    let l : x < length t / 4 = omega arith in
    let p : slot (put_word t (x + 0) w) x ≡ type_of w = rw e (slot_put t x w l f) in
    let q : locals_at (put_word t (x + 0) w) (suc x) n ≡ locals_at t (suc x) n = locals_same t (put_word t (x + 0) w) (suc x) n (λ i a b. slot_other t (x + 0) i w (λ e. omega arith)) in
    cc
locals-set t x (suc n) (suc j) w h k f =
    let e : x + suc j ≡ suc x + j = omega arith in
    let p : slot (put_word t (x + suc j) w) x ≡ slot t x = slot_other t (x + suc j) x w (λ e. omega arith) in
    let q : locals_at (put_word t (x + suc j) w) (suc x) n ≡ set (locals_at t (suc x) n) j (type_of w) = rw e (locals-set t (suc x) n j w (omega arith) (omega arith) f) in
    cc

pub moved_to : (h r : Held) (d e : ℕ) → d ≡ e → Moved h r d → Moved h r e
moved_to h r d e q m = record { at = m.at; locals = m.locals; flag = m.flag; depth = m.depth ∙ q }

-- a state after one store
module _ (t u : List ℕ) (h : Held) (w : ℕ) (f : w < 2 ^ 32) (p : Roomy t h) where
  pub put_held : (r : Held) (k d : ℕ) → d ≡ h.depth - k → d < 40 → u ≡ put_word t (h.at + 32 + d) w → Moved h r (d + 1)
      → held u r ≡ pushed k (type_of w) (held t h)
  put_held r k d e l s m =
      let i : h.at + 32 + d < length t / 4 = omega arith in
      let a : locals_at u r.at r.locals ≡ locals_at t h.at h.locals =
      rw (m.at, m.locals, s) (locals_apart t (h.at + 32 + d) w h.at h.locals (omega arith)) in
      let b : stack_at u (r.at + 32) r.depth ≡ type_of w ∷ drop k (stack_at t (h.at + 32) h.depth) =
      rw (m.at, m.depth, s) (stack_push t (h.at + 32) d w i f ∙ ap (λ (y : List Ty). type_of w ∷ y) (ap (stack_at t (h.at + 32)) e ∙ sym (drop-stack k t (h.at + 32) h.depth))) in
      let g : r.flag ≡ h.flag = m.flag in
      cc

  pub put_outside : (d : ℕ) → d < 40 → u ≡ put_word t (h.at + 32 + d) w → Outside h.at t u
  put_outside d l s = rw s (outside_put t (h.at + 32 + d) w h.at (omega arith) (omega arith))

  pub set-held : (j : ℕ) → j < h.locals → u ≡ put_word t (h.at + j) w → held u h ≡ stored j (type_of w) (held t h)
  set-held j l s =
      let a : locals_at u h.at h.locals ≡ set (locals_at t h.at h.locals) j (type_of w) =
      rw s (locals-set t h.at h.locals j w l (omega arith) f) in
      let b : stack_at u (h.at + 32) h.depth ≡ stack_at t (h.at + 32) h.depth =
      rw s (stack_apart t (h.at + j) w (h.at + 32) h.depth (omega arith)) in
      cc

  pub set_outside : (j : ℕ) → j < h.locals → u ≡ put_word t (h.at + j) w → Outside h.at t u
  set_outside j l s = rw s (outside_put t (h.at + j) w h.at (omega arith) (omega arith))

pub set_past : (t : List ℕ) (h : Held) (j : ℕ) (v : Ty) → h.locals ≤ j → held t h ≡ stored j v (held t h)
set_past t h j v l =
    let a : set (locals_at t h.at h.locals) j v ≡ locals_at t h.at h.locals =
    set_out (locals_at t h.at h.locals) j v (omega (arith, length_locals t h.at h.locals)) in
    cc

pub cut-held : (t : List ℕ) (h r : Held) (k : ℕ) → Moved h r (h.depth - k) → held t r ≡ dropped k (held t h)
cut-held t h r k m =
    let a : locals_at t r.at r.locals ≡ locals_at t h.at h.locals = rw (m.at, m.locals) in
    let b : stack_at t (r.at + 32) r.depth ≡ drop k (stack_at t (h.at + 32) h.depth) =
    rw (m.at, m.depth) (sym (drop-stack k t (h.at + 32) h.depth)) in
    let g : r.flag ≡ h.flag = m.flag in
    cc

-- ---- copies swapped
module _ (k : Key) (v u : Ty) (q : Bool) where
  pub swap_yes : q ≡ true → q ≡ is_uninit k u → v ≡ swap1 k v u
  swap_yes e s =
      let h : is_uninit k u ≡ true = sym s ∙ e in
      rw h

  pub swap_no : q ≡ false → q ≡ is_uninit k u → u ≡ swap1 k v u
  swap_no e s =
      let h : is_uninit k u ≡ false = sym s ∙ e in
      rw h

module _ (k : Key) (v : Ty) (t : List ℕ) (x : ℕ) where
  pub swapped_none : Swapped k v t t x 0
  swapped_none = record { done = λ j a b. absurd (omega arith); rest = λ j s. refl; front = refl }

  -- one word more
  pub swapped_more : (u : List ℕ) (i w : ℕ) → Swapped k v t u x i → x + i < length u / 4 → w < 2 ^ 32 → type_of w ≡ swap1 k v (type_of (word u (x + i)))
      → Swapped k v t (put_word u (x + i) w) x (i + 1)
  swapped_more u i w s l f e = record { done = λ j a b. done j a b (side j (x + i)); rest = λ j c. rest j c; front = take_put x u (x + i) w (omega arith) ∙ s.front }
    where
      done : (j : ℕ) → x ≤ j → j < x + (i + 1) → (j < x + i) ⊎ (x + i ≤ j) → slot (put_word u (x + i) w) j ≡ swap1 k v (slot t j)
      done j a b (inl c) = slot_other u (x + i) j w (λ e. omega arith) ∙ s.done j a c
      done j a b (inr c) =
          let at : j ≡ x + i = omega arith in
          let old : type_of (word u (x + i)) ≡ slot t (x + i) = slot_is u (x + i) ∙ slot-word t u (x + i) (s.rest (x + i) (inr (omega arith))) in
          rw at (slot_put u (x + i) w l f ∙ e ∙ ap (swap1 k v) old)

      rest : (j : ℕ) → (j < x) ⊎ (x + (i + 1) ≤ j) → word (put_word u (x + i) w) j ≡ word t j
      rest j (inl c) = word_other u (x + i) w j (λ e. omega arith) ∙ s.rest j (inl c)
      rest j (inr c) = word_other u (x + i) w j (λ e. omega arith) ∙ s.rest j (inr (omega arith))

module _ (k : Key) (v : Ty) (t u : List ℕ) where
  swap-locals : (x n y m : ℕ) → Swapped k v t u y m → y ≤ x → x + n ≤ y + m → locals_at u x n ≡ replace_all k v (locals_at t x n)
  unfolding locals_at replace_all
  swap-locals x zero y m s a b = refl
  swap-locals x (suc n) y m s a b = cc (s.done x a (omega arith), swap-locals (suc x) n y m s (omega arith) (omega arith))

  swap-stack : (x d m : ℕ) → Swapped k v t u x m → d ≤ m → stack_at u x d ≡ replace_all k v (stack_at t x d)
  unfolding stack_at replace_all
  swap-stack x zero m s a = refl
  swap-stack x (suc d) m s a = cc (s.done (x + d) (omega arith) (omega arith), swap-stack x d m s (omega arith))

  rest-locals : (x n y m : ℕ) → Swapped k v t u y m → x + n ≤ y → locals_at u x n ≡ locals_at t x n
  rest-locals x n y m s h = locals_same t u x n (λ i a b. slot-word t u i (s.rest i (inl (omega arith))))

  rest-stack : (x d y m : ℕ) → Swapped k v t u y m → y + m ≤ x → stack_at u x d ≡ stack_at t x d
  rest-stack x d y m s h = stack_same t u x d (λ i a b. slot-word t u i (s.rest i (inr (omega arith))))

  swap_outside : (x y m : ℕ) → Swapped k v t u y m → x ≤ y → y + m ≤ x + 72 → Outside x t u
  swap_outside x y m s h l = record { kept = λ j c. kept j c; front = take_less (4 * x) (4 * y) t u (omega arith) s.front }
    where
      kept : (j : ℕ) → (j < x) ⊎ (x + 72 ≤ j) → word u j ≡ word t j
      kept j (inl a) = s.rest j (inl (omega arith))
      kept j (inr a) = s.rest j (inr (omega arith))

  module _ (h : Held) (p : Roomy t h) (s : Swapped k v t u h.at h.locals) where
    pub held-locals : held u h ≡ locals_swapped k v (held t h)
    held-locals =
        let a : locals_at u h.at h.locals ≡ replace_all k v (locals_at t h.at h.locals) =
        swap-locals h.at h.locals h.at h.locals s (omega arith) (omega arith) in
        let b : stack_at u (h.at + 32) h.depth ≡ stack_at t (h.at + 32) h.depth =
        rest-stack (h.at + 32) h.depth h.at h.locals s (omega arith) in
        cc

    pub outside_locals : Outside h.at t u
    outside_locals = swap_outside h.at h.at h.locals s (omega arith) (omega arith)

module _ (k : Key) (v : Ty) (t u z : List ℕ) (h : Held) (p : Roomy t h) (s : Swapped k v t u h.at h.locals) (r : Swapped k v u z (h.at + 32) h.depth) where
  pub held_all : held z h ≡ all_swapped k v (held t h)
  held_all =
      let a : locals_at u h.at h.locals ≡ replace_all k v (locals_at t h.at h.locals) =
      swap-locals k v t u h.at h.locals h.at h.locals s (omega arith) (omega arith) in
      let b : stack_at u (h.at + 32) h.depth ≡ stack_at t (h.at + 32) h.depth =
      rest-stack k v t u (h.at + 32) h.depth h.at h.locals s (omega arith) in
      let a' : locals_at z h.at h.locals ≡ locals_at u h.at h.locals =
      rest-locals k v u z h.at h.locals (h.at + 32) h.depth r (omega arith) in
      let b' : stack_at z (h.at + 32) h.depth ≡ replace_all k v (stack_at u (h.at + 32) h.depth) =
      swap-stack k v u z (h.at + 32) h.depth h.depth r (omega arith) in
      cc

  pub outside_all : Outside h.at t z
  outside_all =
      outside_two h.at t u z (outside_locals k v t u h p s)
      (swap_outside k v u z h.at (h.at + 32) h.depth r (omega arith) (omega arith))

-- ---- fitting
module _ (b : Bool) (k : Key) (u : Ty) where
  pub veil_on : (r : Ty) (v : Ty) → b ≡ true → r ≡ swap1 k v u → v ≡ top → r ≡ veil1 b k u
  veil_on r v e h z = rw e (h ∙ ap (λ (y : Ty). swap1 k y u) z)

  pub veil_off : b ≡ false → u ≡ veil1 b k u
  veil_off e = rw e

module _ (hidden : Option code.Ty) (u : Ty) where
  pub hidden_on : (w : code.Ty) (r : Ty) (v : Ty) → hidden ≡ Some w → r ≡ swap1 (key_of (type_of w.word)) v u → v ≡ top → r ≡ veil1 (is_some hidden) (hidden_key hidden) u
  hidden_on w r v e h z = rw e (veil_on true (key_of (type_of w.word)) u r v refl h z)

  pub hidden_off : hidden ≡ None → u ≡ veil1 (is_some hidden) (hidden_key hidden) u
  hidden_off e = rw e

pub veil_no : (k : Key) (l : List Ty) → veil false k l ≡ l
unfolding veil
veil_no k [] = refl
veil_no k (t ∷ l) = ap (λ (m : List Ty). t ∷ m) (veil_no k l)

pub veil_yes : (k : Key) (l : List Ty) → veil true k l ≡ replace_all k top l
unfolding veil replace_all
veil_yes k [] = refl
veil_yes k (t ∷ l) = ap (λ (m : List Ty). swap1 k top t ∷ m) (veil_yes k l)

-- one slot more, one that does not fit, none left
module _ (P : Program) (t u : Ty) (ts us : List Ty) where
  slots_more : fits P t u ≡ true → verdict (slots_fit P (t ∷ ts) (u ∷ us)) ≡ verdict (slots_fit P ts us)
  unfolding slots_fit
  slots_more e = verdict_yes 16 (fits P t u) (slots_fit P ts us) e

  slots_no : fits P t u ≡ false → fail 16 ≡ verdict (slots_fit P (t ∷ ts) (u ∷ us))
  unfolding slots_fit
  slots_no e = claim_fails 16 (slots_fit P ts us) (fits P t u) e

slots_none : (P : Program) → pass ≡ verdict (slots_fit P [] [])
unfolding slots_fit
slots_none P = none_claimed

-- a loop over locals upwards: a and b are the words read, v what is seen of a, f what was found
module _ (P : Program) (t : List ℕ) (hide : Bool) (k : Key) (x y n i : ℕ) (R : Ruling ℕ) where
  locals_cons : i < n → verdict (slots_fit P (veil hide k (locals_at t (x + i) (n - i))) (locals_at t (y + i) (n - i)))
      ≡ verdict (slots_fit P (veil1 hide k (slot t (x + i)) ∷ veil hide k (locals_at t (x + (i + 1)) (n - (i + 1)))) (slot t (y + i) ∷ locals_at t (y + (i + 1)) (n - (i + 1))))
  unfolding locals_at veil
  locals_cons h =
      let e : n - i ≡ suc (n - (i + 1)) = omega arith in
      let a : x + (i + 1) ≡ suc (x + i) = omega arith in
      let b : y + (i + 1) ≡ suc (y + i) = omega arith in
      rw (e, a, b)

  module _ (a b v : ℕ) (f : Bool) where
    seen : (c : Bool) → f ≡ c → f ≡ fits P (type_of v) (type_of b) → type_of v ≡ veil1 hide k (type_of a) → a ≡ word t (x + i) → b ≡ word t (y + i)
        → fits P (veil1 hide k (slot t (x + i))) (slot t (y + i)) ≡ c
    unfolding slot
    seen c e s g p q = rw (← p, ← q, ← g, ← s) e

    pub locals_more : verdict (slots_fit P (veil hide k (locals_at t (x + i) (n - i))) (locals_at t (y + i) (n - i))) ≡ R → i < n → not f ≡ false
        → f ≡ fits P (type_of v) (type_of b) → type_of v ≡ veil1 hide k (type_of a) → a ≡ word t (x + i) → b ≡ word t (y + i)
        → verdict (slots_fit P (veil hide k (locals_at t (x + (i + 1)) (n - (i + 1)))) (locals_at t (y + (i + 1)) (n - (i + 1)))) ≡ R
    locals_more w h e s g p q = sym (locals_cons h ∙ slots_more P _ _ _ _ (seen true (not-false f e) s g p q)) ∙ w

    pub locals_no : verdict (slots_fit P (veil hide k (locals_at t (x + i) (n - i))) (locals_at t (y + i) (n - i))) ≡ R → i < n → not f ≡ true
        → f ≡ fits P (type_of v) (type_of b) → type_of v ≡ veil1 hide k (type_of a) → a ≡ word t (x + i) → b ≡ word t (y + i) → fail 16 ≡ R
    locals_no w h e s g p q = slots_no P _ _ _ _ (seen false (not-true f e) s g p q) ∙ sym (locals_cons h) ∙ w

  pub locals_end : verdict (slots_fit P (veil hide k (locals_at t (x + i) (n - i))) (locals_at t (y + i) (n - i))) ≡ R → n ≤ i → pass ≡ R
  unfolding locals_at veil
  locals_end w h =
      let e : n - i ≡ 0 = omega arith in
      slots_none P ∙ (rw e at w)

-- a loop over operands downwards
module _ (P : Program) (t : List ℕ) (x y d i : ℕ) (R : Ruling ℕ) where
  operands_cons : i < d → verdict (slots_fit P (stack_at t x (d - i)) (stack_at t y (d - i)))
      ≡ verdict (slots_fit P (slot t (x + (d - (i + 1))) ∷ stack_at t x (d - (i + 1))) (slot t (y + (d - (i + 1))) ∷ stack_at t y (d - (i + 1))))
  operands_cons h = rw (stack_next t x d i h, stack_next t y d i h)

  module _ (a b : ℕ) (f : Bool) where
    compared : (c : Bool) → f ≡ c → f ≡ fits P (type_of a) (type_of b) → a ≡ word t (x + (d - (i + 1))) → b ≡ word t (y + (d - (i + 1)))
        → fits P (slot t (x + (d - (i + 1)))) (slot t (y + (d - (i + 1)))) ≡ c
    unfolding slot
    compared c e s p q = rw (← p, ← q, ← s) e

    pub operands_more : verdict (slots_fit P (stack_at t x (d - i)) (stack_at t y (d - i))) ≡ R → i < d → not f ≡ false → f ≡ fits P (type_of a) (type_of b)
        → a ≡ word t (x + (d - (i + 1))) → b ≡ word t (y + (d - (i + 1)))
        → verdict (slots_fit P (stack_at t x (d - (i + 1))) (stack_at t y (d - (i + 1)))) ≡ R
    operands_more w h e s p q = sym (operands_cons h ∙ slots_more P _ _ _ _ (compared true (not-false f e) s p q)) ∙ w

    pub operands_no : verdict (slots_fit P (stack_at t x (d - i)) (stack_at t y (d - i))) ≡ R → i < d → not f ≡ true → f ≡ fits P (type_of a) (type_of b)
        → a ≡ word t (x + (d - (i + 1))) → b ≡ word t (y + (d - (i + 1))) → fail 16 ≡ R
    operands_no w h e s p q = slots_no P _ _ _ _ (compared false (not-true f e) s p q) ∙ sym (operands_cons h) ∙ w

  pub operands_end : verdict (slots_fit P (stack_at t x (d - i)) (stack_at t y (d - i))) ≡ R → d ≤ i → pass ≡ R
  unfolding stack_at
  operands_end w h =
      let e : d - i ≡ 0 = omega arith in
      slots_none P ∙ (rw e at w)

-- lists of different lengths do not fit
slots_uneven : (P : Program) (l m : List Ty) → (length l ≡ length m → ⊥) → fail 16 ≡ verdict (slots_fit P l m)
unfolding slots_fit
slots_uneven P [] [] h = absurd (h refl)
slots_uneven P [] (u ∷ us) h = claim_fails 16 [] false refl
slots_uneven P (t ∷ ts) [] h = claim_fails 16 [] false refl
slots_uneven P (t ∷ ts) (u ∷ us) h = go (fits P t u) refl (slots_uneven P ts us (λ e. h (ap suc e)))
  where
    go : (b : Bool) → fits P t u ≡ b → fail 16 ≡ verdict (slots_fit P ts us) → fail 16 ≡ verdict {K = ℕ} (claim 16 (fits P t u) ∷ slots_fit P ts us)
    go true e r = r ∙ sym (verdict_yes 16 (fits P t u) (slots_fit P ts us) e)
    go false e r = claim_fails 16 (slots_fit P ts us) (fits P t u) e

length-veil : (b : Bool) (k : Key) (l : List Ty) → length (veil b k l) ≡ length l
unfolding veil
length-veil b k [] = refl
length-veil b k (t ∷ l) = ap suc (length-veil b k l)

pub locals_uneven : (P : Program) (t : List ℕ) (b : Bool) (k : Key) (x n y m : ℕ) → (n ≡ m → ⊥)
    → fail 16 ≡ verdict (slots_fit P (veil b k (locals_at t x n)) (locals_at t y m))
locals_uneven P t b k x n y m h =
    slots_uneven P (veil b k (locals_at t x n)) (locals_at t y m)
    (λ e. h (sym (length-veil b k (locals_at t x n) ∙ length_locals t x n) ∙ e ∙ length_locals t y m))

pub locals_even : (P : Program) (t : List ℕ) (b : Bool) (k : Key) (x n y m : ℕ) (R : Ruling ℕ) → n ≡ m
    → R ≡ verdict (slots_fit P (veil b k (locals_at t x m)) (locals_at t y m))
    → R ≡ verdict (slots_fit P (veil b k (locals_at t x n)) (locals_at t y m))
locals_even P t b k x n y m R e h = rw e h

pub same_set : (a b : Bool) → a ≡ true → b ≡ beq a b
same_set a true e = rw e
same_set a false e = rw e

-- whole states
module _ (P : Program) (g g' : Bool) (l l' s s' : List Ty) where
  states_flag : beq g g' ≡ false → fail 18 ≡ verdict (state_fits P (state g l s) (state g' l' s'))
  unfolding state_fits
  states_flag e = claim_fails 18 _ (beq g g') e

  states_depth : beq g g' ≡ true → (length s ≡ length s' → ⊥) → fail 16 ≡ verdict (state_fits P (state g l s) (state g' l' s'))
  unfolding state_fits
  states_depth e h =
      claim_fails 16 (slots_fit P l l' ++ slots_fit P s s') (eqb (length s) (length s')) (ne_eqb (length s) (length s') h)
      ∙ sym (verdict_yes 18 (beq g g') _ e)

  states_slots : (R : Ruling ℕ) → beq g g' ≡ true → length s ≡ length s' → R ≡ verdict (slots_fit P l l' ++ slots_fit P s s')
      → R ≡ verdict (state_fits P (state g l s) (state g' l' s'))
  unfolding state_fits
  states_slots R e h q =
      q ∙ sym (verdict_yes 16 (eqb (length s) (length s')) (slots_fit P l l' ++ slots_fit P s s') (eq-eqb (length s) (length s') h))
      ∙ sym (verdict_yes 18 (beq g g') _ e)

module _ (P : Program) (t : List ℕ) (h f : Held) where
  pub fit-flag : beq h.flag f.flag ≡ false → fail 18 ≡ verdict (state_fits P (held t h) (held t f))
  fit-flag e = states_flag P h.flag f.flag _ _ _ _ e

  module _ (e : beq h.flag f.flag ≡ true) where
    pub fit_depth : (h.depth ≡ f.depth → ⊥) → fail 16 ≡ verdict (state_fits P (held t h) (held t f))
    fit_depth n =
        states_depth P h.flag f.flag _ _ _ _ e
        (λ z. n (sym (length-stack t (h.at + 32) h.depth) ∙ z ∙ length-stack t (f.at + 32) f.depth))

    module _ (d : h.depth ≡ f.depth) (k : Key) where
      shown : (A : Ruling ℕ) → A ≡ verdict (slots_fit P (veil false k (locals_at t h.at h.locals)) (locals_at t f.at f.locals))
          → A ≡ verdict (slots_fit P (locals_at t h.at h.locals) (locals_at t f.at f.locals))
      shown A m = m ∙ ap (λ (l : List Ty). verdict (slots_fit P l (locals_at t f.at f.locals))) (veil_no k (locals_at t h.at h.locals))

      as_deep : length (stack_at t (h.at + 32) h.depth) ≡ length (stack_at t (f.at + 32) f.depth)
      as_deep = length-stack t (h.at + 32) h.depth ∙ d ∙ sym (length-stack t (f.at + 32) f.depth)

      pub fit-slots : (R : Ruling ℕ) → pass ≡ verdict (slots_fit P (veil false k (locals_at t h.at h.locals)) (locals_at t f.at f.locals))
          → R ≡ verdict (slots_fit P (stack_at t (h.at + 32) f.depth) (stack_at t (f.at + 32) f.depth))
          → R ≡ verdict (state_fits P (held t h) (held t f))
      fit-slots R m n =
          states_slots P h.flag f.flag _ _ _ _ R e as_deep
          (claims_on R _ _ (shown pass m) (n ∙ ap (λ (i : ℕ). verdict (slots_fit P (stack_at t (h.at + 32) i) (stack_at t (f.at + 32) f.depth))) (sym d)))

      pub fit_no_slot : {E : Type 0} (n : E → ℕ) (r : Result (Unit {0}) E) (z : E) → IsErrAnd r (λ y. y ≡ z)
          → fail (n z) ≡ verdict (slots_fit P (veil false k (locals_at t h.at h.locals)) (locals_at t f.at f.locals))
          → ruled n r ≡ verdict (state_fits P (held t h) (held t f))
      fit_no_slot n r z p m = states_slots P h.flag f.flag _ _ _ _ _ e as_deep (claims_off n r z p _ _ (shown (fail (n z)) m))

-- what a handler gets: u alone on the stack
module _ (P : Program) (t : List ℕ) (l : List Ty) (u : Ty) (f : Held) where
  pub caught-flag : f.flag ≡ true → fail 18 ≡ verdict (state_fits P (state false l (u ∷ [])) (held t f))
  caught-flag e = states_flag P false f.flag _ _ _ _ (rw e)

  pub caught_depth : f.flag ≡ false → (f.depth ≡ 1 → ⊥) → fail 16 ≡ verdict (state_fits P (state false l (u ∷ [])) (held t f))
  caught_depth e n = states_depth P false f.flag _ _ _ _ (rw e) (λ z. n (sym (z ∙ length-stack t (f.at + 32) f.depth)))

  one-operand : f.depth ≡ 1 → stack_at t (f.at + 32) f.depth ≡ operand 0 (stack_at t (f.at + 32) f.depth) ∷ []
  unfolding stack_at
  one-operand e = rw e

  module _ (e : f.flag ≡ false) (d : f.depth ≡ 1) where
    pub caught_yes : (R : Ruling ℕ) (v : ℕ) (q : Bool) → pass ≡ verdict (slots_fit P l (locals_at t f.at f.locals))
        → type_of v ≡ operand 0 (stack_at t (f.at + 32) f.depth) → q ≡ fits P u (type_of v) → R ≡ verdict (claim 16 q ∷ [])
        → R ≡ verdict (state_fits P (state false l (u ∷ [])) (held t f))
    unfolding slots_fit
    caught_yes R v q m o s w =
        states_slots P false f.flag _ _ _ _ R (rw e) (sym (length-stack t (f.at + 32) f.depth ∙ d))
        (claims_on R _ _ m (w ∙ ap (λ (b : Bool). verdict (claim 16 b ∷ [])) (s ∙ ap (fits P u) o)
        ∙ ap (λ (y : List Ty). verdict (slots_fit P (u ∷ []) y)) (sym (one-operand d))))

    pub caught_no : {E : Type 0} (n : E → ℕ) (r : Result (Unit {0}) E) (z : E) → IsErrAnd r (λ y. y ≡ z)
        → fail (n z) ≡ verdict (slots_fit P l (locals_at t f.at f.locals)) → ruled n r ≡ verdict (state_fits P (state false l (u ∷ [])) (held t f))
    caught_no n r z p m =
        states_slots P false f.flag _ _ _ _ _ (rw e) (sym (length-stack t (f.at + 32) f.depth ∙ d)) (claims_off n r z p _ _ m)

-- a test on what a call gave
pub fit_via : (P : Program) (a : ℕ) (t u : Ty) (q : Bool) → q ≡ fits P (type_of a) u → type_of a ≡ t → q ≡ fits P t u
fit_via P a t u q e h = e ∙ ap (λ (y : Ty). fits P y u) h

module _ (n : ℕ) (q b : Bool) where
  pub claim_via : (R : Ruling ℕ) → R ≡ verdict (claim n q ∷ []) → q ≡ b → R ≡ verdict (claim n b ∷ [])
  claim_via R h e = h ∙ ap (λ (c : Bool). verdict (claim n c ∷ [])) e

pub ruleset states = (fit-flag, fit_depth, fit-slots, fit_no_slot, caught-flag, caught_depth, caught_yes, caught_no)

pub ruleset leaves = (locals_uneven, locals_even, fit_via, claim_via, hidden_on, hidden_off, swap_yes, swap_no, claim_yes, claim_no, room_none, room_no, room_yes, need_yes, need_no, peek_at, peek_none, local-at, local_none)

pub ruleset turns = (locals_more, locals_no, locals_end, operands_more, operands_no, operands_end, copy_hit, copy_more, copy_end)
