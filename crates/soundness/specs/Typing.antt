-- What a value is when it has a type: a ghost function says what stands at each address, and who owns it.
use Prim.Native.Nat.{ℕ, zero, suc, ◌+◌, ◌<◌, ◌≤◌}
use Rattle.std.specs.Prelude.{◌≡◌, Bool, cond, drop, eqb, leb}
use Rattle.std.proofs.Math.Path.{refl}
use Rattle.std.proofs.Common.{sym, ap, ◌∙◌, subst, eqb→eq, leb→le}
use Rattle.std.proofs.Math.Bool.{true, false}
use mathlib.Core.List.{List, [], ◌∷◌, ◌++◌}
use Rattle.std.proofs.Math.Option.{Option, none, some}
use native.Mathlib.Omega.{arith}
use Rattle.std.proofs.Math.Decide.{ℕ_discrete}
use Rattle.std.proofs.Math.ListN.{length}
use Rattle.std.proofs.Math.Dec.{T, eqb_refl}
use Rattle.kit.specs.Bools.{T_true, T_false}
use Rattle.kit.specs.Claims.{AllT}
use Rattle.classfiles.specs.Descriptors.{Ref, cls, Desc, dint, dref}
use Rattle.reader.specs.Program.{Program, Method, below}
use Rattle.rules.specs.Types.{Key, at, self, same_key, Ty, top, int, null, ini, uninit, is_uninit, ty_of, ref_fits, fits}
use Rattle.rules.specs.States.{operand, slots_fit, replace_all, no_copy}
use Rattle.rules.specs.Rule.{key_class}
use Rattle.rules.specs.Walk.{operands_fit}
use Rattle.plain.specs.Heap.{Val, num, ref, from_cell, to_cell}
use Rattle.facts.specs.Classes.{Link, ref_trans}
use Rattle.soundness.specs.Pairs.{All2, anil, acons}

-- An object is ready, or it is the uninitialised object k of the call with d calls below it.
pub data Own : Type 0 where
  ready : Own
  born : ℕ → Key → Own

pub data HTy : Type 0 where
  hty : Ref → Own → HTy

-- what stands at an address
abbrev pub HTys : Type 0
HTys = ℕ → Option HTy

abbrev pub is_ready : Own → Bool
is_ready ready = true
is_ready (born d k) = false

abbrev pub upd : HTys → ℕ → HTy → HTys
upd Ψ a x b = cond (eqb b a) (some x) (Ψ b)

pub upd_same : (Ψ : HTys) (a : ℕ) (x : HTy) → upd Ψ a x a ≡ some x
upd_same Ψ a x = rw (T_true (eqb a a) (eqb_refl a))

-- an address that is another, or that holds another thing, or held nothing
pub upd_else : (Ψ : HTys) (a r : ℕ) (x : HTy) → (r ≡ a → ⊥) → upd Ψ a x r ≡ Ψ r
upd_else Ψ a r x n = rw (T_false (eqb r a) (λ t. n (eqb→eq r a t)))

pub upd-new : (Ψ : HTys) (a r : ℕ) (x y : HTy) → Ψ a ≡ none → Ψ r ≡ some y → upd Ψ a x r ≡ some y
upd-new Ψ a r x y e p = upd_else Ψ a r x (λ q. let z : ◌≡◌ {A = ℕ} 0 1 = cc in omega arith) ∙ p

upd_other : (Ψ : HTys) (a r : ℕ) (x y z : HTy) → Ψ a ≡ some x → Ψ r ≡ some y → (x ≡ y → ⊥) → upd Ψ a z r ≡ some y
upd_other Ψ a r x y z e p n = upd_else Ψ a r z (λ q. n (cc)) ∙ p

-- a value and a descriptor
pub data VD (P : Program) (Ψ : HTys) : Val → Desc → Type 0 where
  vdint : {a : ℕ} → VD P Ψ (num a) dint
  vdnul : {t : Ref} → VD P Ψ (ref 0) (dref t)
  vdref : {a : ℕ} {t : Ref} (e : Ref) → Ψ a ≡ some (hty e ready) → T (ref_fits P e t) → VD P Ψ (ref (suc a)) (dref t)

-- a value and a type, in a call of the method M with d calls below; σ k is where its uninitialised object k stands
pub data VT (P : Program) (M : Method) (Ψ : HTys) (d : ℕ) (σ : Key → ℕ) : Val → Ty → Type 0 where
  vtop : {v : Val} → VT P M Ψ d σ v top
  vint : {a : ℕ} → VT P M Ψ d σ (num a) int
  vnull : VT P M Ψ d σ (ref 0) null
  vnulc : {t : Ref} → VT P M Ψ d σ (ref 0) (ini t)
  vini : {a : ℕ} {t : Ref} (e : Ref) → Ψ a ≡ some (hty e ready) → T (ref_fits P e t) → VT P M Ψ d σ (ref (suc a)) (ini t)
  vraw : {a : ℕ} {k : Key} (e : ℕ) → a ≡ σ k → Ψ a ≡ some (hty (cls e) (born d k)) → T (below P e (key_class P M k)) → VT P M Ψ d σ (ref (suc a)) (uninit k)

-- what is ready or older than the call with d below stays
abbrev pub Old : ℕ → Own → Type 0
Old d ready = Unit {0}
Old d (born e k) = e < d

pub record Keeps (d : ℕ) (Ψ Ψ' : HTys) : Type 0 where
  pub kept : (r : ℕ) (e : Ref) (w : Own) → Old d w → Ψ r ≡ some (hty e w) → Ψ' r ≡ some (hty e w)
  pub stays : (r : ℕ) (e : Ref) (w : Own) → Ψ r ≡ some (hty e w) → (w' : Own) × (Ψ' r ≡ some (hty e w'))

-- the same but for the uninitialised object K of the call with d below
pub record Others (d : ℕ) (K : Key) (Ψ Ψ' : HTys) : Type 0 where
  pub kept : (r : ℕ) (e : Ref) (w : Own) → Old (suc d) w → (w ≡ born d K → ⊥) → Ψ r ≡ some (hty e w) → Ψ' r ≡ some (hty e w)

pub keeps_others : {d : ℕ} {Ψ Ψ' : HTys} (K : Key) → Keeps (suc d) Ψ Ψ' → Others d K Ψ Ψ'
keeps_others K k = record { kept = λ r e w o n p. k.kept r e w o p }

pub keeps-down : {Ψ Ψ' : HTys} (e d : ℕ) → e ≤ d → Keeps d Ψ Ψ' → Keeps e Ψ Ψ'
keeps-down {Ψ} {Ψ'} e d h k = record { kept = go; stays = k.stays }
  where
    go : (r : ℕ) (t : Ref) (w : Own) → Old e w → Ψ r ≡ some (hty t w) → Ψ' r ≡ some (hty t w)
    go r t ready o p = k.kept r t ready tt p
    go r t (born e' L) o p = k.kept r t (born e' L) (omega arith) p

pub keeps_self : (d : ℕ) (Ψ : HTys) → Keeps d Ψ Ψ
keeps_self d Ψ = record { kept = λ r e w o p. p; stays = λ r e w p. (w, p) }

pub keeps_then : {d : ℕ} {Ψ Ψ' Ψ'' : HTys} → Keeps d Ψ Ψ' → Keeps d Ψ' Ψ'' → Keeps d Ψ Ψ''
keeps_then k l = record { kept = λ r e w o p. l.kept r e w o (k.kept r e w o p); stays = λ r e w p. l.stays r e (k.stays r e w p).0 (k.stays r e w p).1 }

pub keeps_more : (d : ℕ) (Ψ : HTys) (a : ℕ) (x : HTy) → Ψ a ≡ none → Keeps d Ψ (upd Ψ a x)
keeps_more d Ψ a x n = record { kept = λ r e w o p. upd-new Ψ a r x (hty e w) n p; stays = λ r e w p. (w, upd-new Ψ a r x (hty e w) n p) }

module _ {P : Program} {Ψ : HTys} where
  pub to_vt : {v : Val} {D : Desc} (M : Method) (d : ℕ) (σ : Key → ℕ) → VD P Ψ v D → VT P M Ψ d σ v (ty_of D)
  to_vt M d σ vdint = vint
  to_vt M d σ vdnul = vnulc
  to_vt M d σ (vdref e p q) = vini e p q

  pub from_vt : {M : Method} {d : ℕ} {σ : Key → ℕ} {v : Val} (D : Desc) → VT P M Ψ d σ v (ty_of D) → VD P Ψ v D
  from_vt dint vint = vdint
  from_vt (dref t) vnulc = vdnul
  from_vt (dref t) (vini e p q) = vdref e p q

  pub keep_vd : {Ψ' : HTys} {d : ℕ} → Keeps d Ψ Ψ' → {v : Val} {D : Desc} → VD P Ψ v D → VD P Ψ' v D
  keep_vd k vdint = vdint
  keep_vd k vdnul = vdnul
  keep_vd k (vdref {a} e p q) = vdref e (k.kept a e ready tt p) q

  pub keep_vt : {Ψ' : HTys} {e : ℕ} → Keeps (suc e) Ψ Ψ' → {M : Method} {σ : Key → ℕ} {v : Val} {t : Ty} → VT P M Ψ e σ v t → VT P M Ψ' e σ v t
  keep_vt k vtop = vtop
  keep_vt k vint = vint
  keep_vt k vnull = vnull
  keep_vt k vnulc = vnulc
  keep_vt k (vini {a} e p q) = vini e (k.kept a e ready tt p) q
  keep_vt {e} k (vraw {a} {k = j} c s p q) = vraw c s (k.kept a (cls c) (born e j) (omega arith) p) q

  -- a cell of a type that is null or zero, and a value that goes to a cell and back
  pub zero_ok : (D : Desc) → VD P Ψ (from_cell D 0) D
  zero_ok dint = vdint
  zero_ok (dref t) = vdnul

  pub cell_ok : {v : Val} {D : Desc} → VD P Ψ v D → VD P Ψ (from_cell D (to_cell v)) D
  cell_ok vdint = vdint
  cell_ok vdnul = vdnul
  cell_ok (vdref e p q) = vdref e p q

-- keys
pub key_eq : (k j : Key) → T (same_key k j) → j ≡ k
key_eq (at L) (at K) h = rw (eqb→eq K L h)
key_eq (at L) self h = absurd h
key_eq self (at K) h = absurd h
key_eq self self h = refl

pub key_refl : (k : Key) → T (same_key k k)
key_refl (at L) = eqb_refl L
key_refl self = tt

-- the operand that stands on top, and the rest
pub data Peeled (R : Val → Ty → Type 0) : List Val → Ty → List Ty → Type 0 where
  peeled : {v : Val} {vs : List Val} {t : Ty} {ts : List Ty} → R v t → All2 R vs ts → Peeled R (v ∷ vs) t ts

-- the operands that stand on top, each of the type that is asked for, and the rest
pub data Popped (R : Val → Ty → Type 0) : List Val → List Ty → List Ty → Type 0 where
  pnil : {vs : List Val} {ts : List Ty} → All2 R vs ts → Popped R vs [] ts
  pcons : {v : Val} {vs : List Val} {u : Ty} {us ts : List Ty} → R v u → Popped R vs us ts → Popped R (v ∷ vs) (u ∷ us) ts

pub cut : (k : ℕ) (s : List Ty) → k < length s → drop k s ≡ operand k s ∷ drop (suc k) s
cut k [] h = absurd (omega arith)
cut zero (t ∷ s) h = refl
cut (suc k) (t ∷ s) h = cut k s (omega arith)

pub peel : {R : Val → Ty → Type 0} {vs : List Val} (k : ℕ) (s : List Ty) → k < length s → All2 R vs (drop k s) → Peeled R vs (operand k s) (drop (suc k) s)
peel {R} {vs} k s h x = go (rw (cut k s h) at x)
  where
    go : {vs : List Val} {t : Ty} {ts : List Ty} → All2 R vs (t ∷ ts) → Peeled R vs t ts
    go (acons y ys) = peeled y ys

module _ {P : Program} (L : Link P) {M : Method} {Ψ : HTys} {d : ℕ} {σ : Key → ℕ} where
  pub fit : (u : Ty) {v : Val} {t : Ty} → VT P M Ψ d σ v t → T (fits P t u) → VT P M Ψ d σ v u
  unfolding fits
  fit top x h = vtop
  fit int vtop h = absurd h
  fit int vint h = vint
  fit int vnull h = absurd h
  fit int vnulc h = absurd h
  fit int (vini e p q) h = absurd h
  fit int (vraw e s p q) h = absurd h
  fit null vtop h = absurd h
  fit null vint h = absurd h
  fit null vnull h = vnull
  fit null vnulc h = absurd h
  fit null (vini e p q) h = absurd h
  fit null (vraw e s p q) h = absurd h
  fit (ini u) vtop h = absurd h
  fit (ini u) vint h = absurd h
  fit (ini u) vnull h = vnulc
  fit (ini u) vnulc h = vnulc
  fit (ini u) (vini {t = b} e p q) h = vini e p (ref_trans P L e b u q h)
  fit (ini u) (vraw e s p q) h = absurd h
  fit (uninit k) vtop h = absurd h
  fit (uninit k) vint h = absurd h
  fit (uninit k) vnull h = absurd h
  fit (uninit k) vnulc h = absurd h
  fit (uninit k) (vini e p q) h = absurd h
  fit (uninit k) (vraw {k = j} e s p q) h = rw (← key_eq k j h) (vraw e s p q)

  pub fit_all : {vs : List Val} {ts : List Ty} (us : List Ty) → All2 (VT P M Ψ d σ) vs ts → AllT (slots_fit P ts us) → All2 (VT P M Ψ d σ) vs us
  unfolding slots_fit
  fit_all [] anil h = anil
  fit_all [] (acons x xs) h = absurd h.0
  fit_all (u ∷ us) anil h = absurd h.0
  fit_all (u ∷ us) (acons x xs) h = acons (fit u x h.0) (fit_all us xs h.1)

  -- the first of the operands that are asked for
  popping : {vs : List Val} (k : ℕ) (us ws s : List Ty) → k + length us ≤ length s → All2 (VT P M Ψ d σ) vs (drop k s) → AllT (operands_fit P k (us ++ ws) s) → Popped (VT P M Ψ d σ) vs us (drop (k + length us) s)
  unfolding operands_fit
  popping k [] ws s l xs h = let e : k + 0 ≡ k = omega arith in rw e (pnil xs)
  popping {vs} k (u ∷ us) ws s l xs h =
      let e : suc k + length us ≡ k + suc (length us) = omega arith in
      rw (← e) (go (λ vs. popping {vs = vs} (suc k) us ws s (omega arith)) (peel k s (omega arith) xs))
    where
      go : ((vs : List Val) → All2 (VT P M Ψ d σ) vs (drop (suc k) s) → AllT (operands_fit P (suc k) (us ++ ws) s) → Popped (VT P M Ψ d σ) vs us (drop (suc k + length us) s))
          → {vs : List Val} → Peeled (VT P M Ψ d σ) vs (operand k s) (drop (suc k) s) → Popped (VT P M Ψ d σ) vs (u ∷ us) (drop (suc k + length us) s)
      go ih (peeled {vs = vs} y ys) = pcons (fit u y h.0) (ih vs ys h.1)

  pub popped : {vs : List Val} (us ws s : List Ty) → T (leb (length us) (length s)) → All2 (VT P M Ψ d σ) vs s → AllT (operands_fit P 0 (us ++ ws) s) → Popped (VT P M Ψ d σ) vs us (drop (length us) s)
  popped us ws s l xs h =
      let m : length us ≤ length s = leb→le (length us) (length s) l in
      let e : 0 + length us ≡ length us = omega arith in
      rw e at (popping 0 us ws s (omega arith) xs h)

-- the uninitialised object K of a call changes, and its copies get the type t
abbrev pub renew : Key → ℕ → (Key → ℕ) → Key → ℕ
renew K r σ j = cond (same_key K j) r (σ j)

module _ (P : Program) (M : Method) (Ψ Ψ' : HTys) (d : ℕ) (σ σ' : Key → ℕ) (K : Key) (o : Others d K Ψ Ψ') (agree : (j : Key) → same_key K j ≡ false → σ' j ≡ σ j) where
  miss : {v : Val} {u : Ty} → is_uninit K u ≡ false → VT P M Ψ d σ v u → VT P M Ψ' d σ' v u
  miss h vtop = vtop
  miss h vint = vint
  miss h vnull = vnull
  miss h vnulc = vnulc
  miss h (vini {a} e p q) = vini e (o.kept a e ready tt (λ x. let z : ◌≡◌ {A = ℕ} 0 1 = cc in omega arith) p) q
  miss h (vraw {a} {k = j} e s p q) =
      vraw e (s ∙ sym (agree j h)) (o.kept a (cls e) (born d j) (omega arith) (λ x. let z : j ≡ K = cc in subst T h (rw z (key_refl K))) p) q

  module _ (t : Ty) (hit : (v : Val) (u : Ty) → is_uninit K u ≡ true → VT P M Ψ d σ v u → VT P M Ψ' d σ' v t) where
    slot : {v : Val} {u : Ty} (b : Bool) → is_uninit K u ≡ b → VT P M Ψ d σ v u → VT P M Ψ' d σ' v (cond b t u)
    slot {v} {u} true e x = hit v u e x
    slot false e x = miss e x

    pub swapped : {vs : List Val} {ts : List Ty} → All2 (VT P M Ψ d σ) vs ts → All2 (VT P M Ψ' d σ') vs (replace_all K t ts)
    unfolding replace_all
    swapped anil = anil
    swapped (acons {b = u} x xs) = acons (slot (is_uninit K u) refl x) (swapped xs)

  -- where no slot has the type nothing is lost
  pub unswapped : {vs : List Val} {ts : List Ty} → T (no_copy K ts) → All2 (VT P M Ψ d σ) vs ts → All2 (VT P M Ψ' d σ') vs ts
  unfolding no_copy
  unswapped h anil = anil
  unswapped h (acons {a = v} {b = t} {as' = vs} {bs = ts} x xs) = go (λ h. unswapped h xs) (is_uninit K t) refl h
    where
      go : (T (no_copy K ts) → All2 (VT P M Ψ' d σ') vs ts) → (b : Bool) → is_uninit K t ≡ b → T (cond b false (no_copy K ts)) → All2 (VT P M Ψ' d σ') (v ∷ vs) (t ∷ ts)
      go ih true e h = absurd h
      go ih false e h = acons (miss e x) (ih h)

  -- all copies are the one object, which is ready now
  pub hit_made : (a e c : ℕ) → a ≡ σ K → Ψ' a ≡ some (hty (cls e) ready) → T (ref_fits P (cls e) (cls c)) → (v : Val) (u : Ty) → is_uninit K u ≡ true → VT P M Ψ d σ v u → VT P M Ψ' d σ' v (ini (cls c))
  hit_made a e c s₀ p₀ q₀ _ _ h vtop = let z : ◌≡◌ {A = ℕ} 0 1 = cc in absurd (omega arith)
  hit_made a e c s₀ p₀ q₀ _ _ h vint = let z : ◌≡◌ {A = ℕ} 0 1 = cc in absurd (omega arith)
  hit_made a e c s₀ p₀ q₀ _ _ h vnull = let z : ◌≡◌ {A = ℕ} 0 1 = cc in absurd (omega arith)
  hit_made a e c s₀ p₀ q₀ _ _ h vnulc = let z : ◌≡◌ {A = ℕ} 0 1 = cc in absurd (omega arith)
  hit_made a e c s₀ p₀ q₀ _ _ h (vini e' p q) = let z : ◌≡◌ {A = ℕ} 0 1 = cc in absurd (omega arith)
  hit_made a e c s₀ p₀ q₀ _ _ h (vraw {a = b} {k = j} e' s p q) =
      let z : j ≡ K = key_eq K j (rw h tt) in
      let y : b ≡ a = s ∙ ap σ z ∙ sym s₀ in
      vini {a = b} (cls e) (rw y p₀) q₀

  pub hit_top : (v : Val) (u : Ty) → is_uninit K u ≡ true → VT P M Ψ d σ v u → VT P M Ψ' d σ' v top
  hit_top v u h x = vtop

-- one object's owner changes
module _ (Ψ : HTys) (d : ℕ) (K : Key) (r₀ : ℕ) (t : Ref) (w : Own) (at₀ : Ψ r₀ ≡ some (hty t (born d K))) where
  pub own_others : Others d K Ψ (upd Ψ r₀ (hty t w))
  own_others = record { kept = λ r e u o n p. upd_other Ψ r₀ r (hty t (born d K)) (hty e u) (hty t w) at₀ p (λ x. n (cc)) }

  pub own_keeps : Keeps d Ψ (upd Ψ r₀ (hty t w))
  own_keeps = record { kept = go; stays = still }
    where
      still : (r : ℕ) (e : Ref) (u : Own) → Ψ r ≡ some (hty e u) → (w' : Own) × (upd Ψ r₀ (hty t w) r ≡ some (hty e w'))
      still r e u p = same (ℕ_discrete r r₀)
        where
          same : Dec (r ≡ r₀) → (w' : Own) × (upd Ψ r₀ (hty t w) r ≡ some (hty e w'))
          same (yes z) = let p₁ : Ψ r₀ ≡ some (hty e u) = rw z at p in let et : t ≡ e = cc in (w, rw (z, ← et) (upd_same Ψ r₀ (hty t w)))
          same (no z) = (u, upd_else Ψ r₀ r (hty t w) z ∙ p)

      go : (r : ℕ) (e : Ref) (u : Own) → Old d u → Ψ r ≡ some (hty e u) → upd Ψ r₀ (hty t w) r ≡ some (hty e u)
      go r e ready o p = upd_other Ψ r₀ r (hty t (born d K)) (hty e ready) (hty t w) at₀ p (λ q. let z : ◌≡◌ {A = ℕ} 0 1 = cc in omega arith)
      go r e (born e' j) o p = upd_other Ψ r₀ r (hty t (born d K)) (hty e (born e' j)) (hty t w) at₀ p (λ q. let z : d ≡ e' = cc in omega arith)

  pub own_at : upd Ψ r₀ (hty t w) r₀ ≡ some (hty t w)
  own_at = upd_same Ψ r₀ (hty t w)
