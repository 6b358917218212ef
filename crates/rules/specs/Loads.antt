-- A frame's state copied to where the state at hand stands; and how a present state and a frame meet. Assumes nothing.
use Rattle.std.specs.Prelude.{ℕ, zero, suc, ◌+◌, ◌*◌, ◌^◌, ◌/◌, ◌<◌, ◌≤◌, ◌≡◌, refl, Bool, true, false, cond, List, [], ◌∷◌, ◌⊎◌, length, take}
use Rattle.std.proofs.Common.{sym, ap, ◌∙◌, inl, inr, arith}
use Rattle.std.proofs.Math.Option.{Option, none, some}
use Rattle.kit.specs.Pick.{side}
use Rattle.kit.specs.Words.{word, put_word, word_same, word_other}
use Rattle.kit.specs.Claims.{claim, Ruling, pass, verdict, none_claimed, fail_pass, verdict_yes, verdict_no}
use Rattle.classfiles.specs.BlockWords.{take_put}
use Rattle.reader.specs.Program.{Program}
use Rattle.rules.specs.States.{State, state_fits}
use Rattle.rules.specs.Walk.{meets, merged}
use Rattle.rules.specs.Slots.{slot, locals_at, stack_at, held, Outside}
use Rattle.rules.specs.SlotLaws.{take_less}
use Rattle.rules.specs.FrameRows.{Sound}
use Rattle.rules.specs.StepClaims.{Going}
use Rattle.rules.specs.declared.slots.Held.{Held}

-- the n words from a on stand from b on too, all others as they were
pub record Copied (a b n : ℕ) (t u : List ℕ) : Type 0 where
  pub done : (j : ℕ) → j < n → word u (b + j) ≡ word t (a + j)
  pub rest : (j : ℕ) → (j < b) ⊎ (b + n ≤ j) → word u j ≡ word t j
  pub front : take (4 * b) u ≡ take (4 * b) t

-- the state of g, at x
pub record Loaded (x : ℕ) (g r : Held) : Type 0 where
  pub at : r.at ≡ x
  pub locals : r.locals ≡ g.locals
  pub depth : r.depth ≡ g.depth

-- ---- the loop
pub copied_none : (a b : ℕ) (t : List ℕ) → Copied a b 0 t t
copied_none a b t = record { done = λ j l. absurd (omega arith); rest = λ j s. refl; front = refl }

pub copied_more : (a b n w : ℕ) (t u v : List ℕ) → Copied a b n t u → a + n < b → b + n < length u / 4 → w ≡ word u (a + n) → w < 2 ^ 32 → v ≡ put_word u (b + n) w → Copied a b (n + 1) t v
copied_more a b n w t u v c h l e f g = record { done = λ j k. done j k (side j n); rest = rest; front = ap (take (4 * b)) g ∙ take_put b u (b + n) w (omega arith) ∙ c.front }
  where
    other : (j : ℕ) → (j ≡ b + n → ⊥) → word v j ≡ word u j
    other j d = ap (λ (z : List ℕ). word z j) g ∙ word_other u (b + n) w j d

    done : (j : ℕ) → j < n + 1 → (j < n) ⊎ (n ≤ j) → word v (b + j) ≡ word t (a + j)
    done j k (inl d) = other (b + j) (λ z. omega arith) ∙ c.done j d
    done j k (inr d) =
        let z : j ≡ n = omega arith in
        ap (λ (i : ℕ). word v (b + i)) z ∙ ap (λ (y : List ℕ). word y (b + n)) g ∙ word_same u (b + n) w l f ∙ e
        ∙ c.rest (a + n) (inl h) ∙ ap (λ (i : ℕ). word t (a + i)) (sym z)

    rest : (j : ℕ) → (j < b) ⊎ (b + (n + 1) ≤ j) → word v j ≡ word t j
    rest j (inl d) = other j (λ z. omega arith) ∙ c.rest j (inl d)
    rest j (inr d) = other j (λ z. omega arith) ∙ c.rest j (inr (omega arith))

-- ---- the state
locals_moved : (t u : List ℕ) (a b n : ℕ) → ((j : ℕ) → j < n → slot u (b + j) ≡ slot t (a + j)) → locals_at u b n ≡ locals_at t a n
unfolding locals_at
locals_moved t u a b zero h = refl
locals_moved t u a b (suc n) h =
    let x : b + 0 ≡ b = omega arith in
    let y : a + 0 ≡ a = omega arith in
    let p : slot u b ≡ slot t a = ap (slot u) (sym x) ∙ h 0 (omega arith) ∙ ap (slot t) y in
    let q : locals_at u (suc b) n ≡ locals_at t (suc a) n =
    locals_moved t u (suc a) (suc b) n (λ j l. let v : b + suc j ≡ suc b + j = omega arith in let w : a + suc j ≡ suc a + j = omega arith in ap (slot u) (sym v) ∙ h (suc j) (omega arith) ∙ ap (slot t) w) in
    cc

stack_moved : (t u : List ℕ) (a b n : ℕ) → ((j : ℕ) → j < n → slot u (b + j) ≡ slot t (a + j)) → stack_at u b n ≡ stack_at t a n
unfolding stack_at
stack_moved t u a b zero h = refl
stack_moved t u a b (suc n) h =
    let p : slot u (b + n) ≡ slot t (a + n) = h n (omega arith) in
    let q : stack_at u b n ≡ stack_at t a n = stack_moved t u a b n (λ j l. h j (omega arith)) in
    cc

copied_slot : (t u : List ℕ) (i j : ℕ) → word u i ≡ word t j → slot u i ≡ slot t j
unfolding slot
copied_slot t u i j e = rw e

module _ (t u v : List ℕ) (g : Held) (x : ℕ) (s : Sound t g) (h : g.at + 68 ≤ x) (p : Copied g.at x g.locals t u) (q : Copied (g.at + 32) (x + 32) g.depth u v) where
  pub loaded_held : held v (record { at = x; locals = g.locals; depth = g.depth; flag = g.flag }) ≡ held t g
  loaded_held =
      let l : g.locals ≤ 32 = s.placed.locals in
      let d : g.depth ≤ 32 = s.depth in
      let a : locals_at v x g.locals ≡ locals_at t g.at g.locals =
      locals_moved t v g.at x g.locals (λ j k. copied_slot t v (x + j) (g.at + j) (q.rest (x + j) (inl (omega arith)) ∙ p.done j k)) in
      let b : stack_at v (x + 32) g.depth ≡ stack_at t (g.at + 32) g.depth =
      stack_moved t v (g.at + 32) (x + 32) g.depth (λ j k. copied_slot t v (x + 32 + j) (g.at + 32 + j) (q.done j k ∙ p.rest (g.at + 32 + j) (inl (omega arith)))) in
      cc

  pub loaded_outside : Outside x t v
  loaded_outside = record { kept = kept; front = take_less (4 * x) (4 * (x + 32)) u v (omega arith) q.front ∙ p.front }
    where
      l : g.locals ≤ 32
      l = s.placed.locals

      d : g.depth ≤ 32
      d = s.depth

      kept : (j : ℕ) → (j < x) ⊎ (x + 72 ≤ j) → word v j ≡ word t j
      kept j (inl k) = q.rest j (inl (omega arith)) ∙ p.rest j (inl k)
      kept j (inr k) = q.rest j (inr (omega (arith, d))) ∙ p.rest j (inr (omega (arith, l)))

-- ---- a state that is present, or none
abbrev pub current : Bool → State → Option State
current live S = cond live (some S) none

module _ (P : Program) (live : Bool) (S : State) (F : Option State) where
  -- without a frame the state goes on, where there is one
  pub meet_none : (R : Ruling ℕ) → F ≡ none → R ≡ verdict (claim 17 live ∷ []) → R ≡ verdict (meets P (current live S) F)
  meet_none R f h = h ∙ go live ∙ ap (λ (G : Option State). verdict (meets P (current live S) G)) (sym f)
    where
      go : (b : Bool) → verdict {K = ℕ} (claim 17 b ∷ []) ≡ verdict (meets P (current b S) none)
      go true = verdict_yes 17 true [] refl
      go false = refl

  module _ (G : State) (f : F ≡ some G) where
    pub meet_fit : live ≡ true → (R : Ruling ℕ) → R ≡ verdict (state_fits P S G) → R ≡ verdict (meets P (current live S) F)
    meet_fit e R h = rw (e, f) h

    pub meet_new : live ≡ false → pass ≡ verdict (meets P (current live S) F)
    meet_new e = rw (e, f) none_claimed

module _ (live : Bool) (S : State) (F : Option State) where
  pub merge_none : F ≡ none → pass ≡ verdict {K = ℕ} (claim 17 live ∷ []) → S ≡ merged (current live S) F
  merge_none f h = go live h ∙ ap (merged (current live S)) (sym f)
    where
      go : (b : Bool) → pass ≡ verdict {K = ℕ} (claim 17 b ∷ []) → S ≡ merged (current b S) none
      go true e = refl
      go false e = absurd (fail_pass 17 (sym (verdict_no 17 false [] refl) ∙ sym e))

  pub merge_frame : (G X : State) → F ≡ some G → X ≡ G → X ≡ merged (current live S) F
  merge_frame G X f e = e ∙ go live ∙ ap (merged (current live S)) (sym f)
    where
      go : (b : Bool) → G ≡ merged (current b S) (some G)
      go true = refl
      go false = refl

pub going_loaded : (h g r : Held) → Loaded h.at g r → g.locals ≡ h.locals → g.depth ≤ 32 → Going h r
going_loaded h g r l e d = record { at = l.at; locals = l.locals ∙ e; depth = let z : r.depth ≡ g.depth = l.depth in omega arith }
