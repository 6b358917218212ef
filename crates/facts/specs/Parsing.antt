-- Reading taken apart: what an item that was read went through; and a descriptor read twice, with classes numbered in two ways.
use Prim.Native.Nat.{ℕ, zero, suc, ◌+◌, ◌-◌, ◌<◌, ◌≤◌}
use Rattle.std.specs.Prelude.{◌≡◌, refl, Bool, true, false, cond, length, get_or, T, eqb, ltb}
use Rattle.std.proofs.Common.{sym, ap, ◌∙◌, arith}
use mathlib.Core.List.{List, [], ◌∷◌}
use Rattle.classfiles.specs.Limits.{max_dimensions}
use Rattle.texts.specs.Reading.{Res, ok, bad, and_then, pre, many, part}
use Rattle.texts.specs.Names.{Text, class_name}
use Rattle.classfiles.specs.Descriptors.{Desc, MethodType, semicolon, named_at, base_at, type_at, params_at, results_at, whole, method_type_at}
use Rattle.reader.specs.Program.{method_type_or}

pub not_ok : {A B : Type 0} (n p e : ℕ) (x : A) → ◌≡◌ {A = Res A} (bad n p) (ok x e) → B
not_ok n p e x q = let z : ◌≡◌ {A = ℕ} 0 1 = cc in absurd (omega arith)

pub record Passed {A B : Type 0} (r : Res A) (f : A → ℕ → Res B) (b : B) (e : ℕ) : Type 0 where
  pub val : A
  pub past : ℕ
  pub first : r ≡ ok val past
  pub rest : f val past ≡ ok b e

pub then_ok : {A B : Type 0} (r : Res A) (f : A → ℕ → Res B) (b : B) (e : ℕ) → and_then r f ≡ ok b e → Passed r f b e
unfolding and_then
then_ok (ok a z) f b e h = record { val = a; past = z; first = refl; rest = h }
then_ok (bad n p) f b e h = not_ok n p e b h

pub test_ok : {A : Type 0} (t : Bool) (r : Res A) (n p : ℕ) (a : A) (e : ℕ) → cond t r (bad n p) ≡ ok a e → T t × (r ≡ ok a e)
test_ok true r n p a e h = (tt, h)
test_ok false r n p a e h = not_ok n p e a h

-- each item of a list
pub data Each {A : Type 0} (Q : A → Type 0) : List A → Type 0 where
  enil : Each Q []
  econs : {a : A} {l : List A} → Q a → Each Q l → Each Q (a ∷ l)

pub each_at : {A : Type 0} {Q : A → Type 0} {l : List A} → Each Q l → (i : ℕ) (d : A) → i < length l → Q (get_or l i d)
each_at enil i d h = absurd (omega arith)
each_at (econs x xs) zero d h = x
each_at (econs x xs) (suc i) d h = each_at xs i d (omega arith)

module _ {A : Type 0} (Q : A → Type 0) where
  -- one item in front of others
  pub pre-each : (a : A) → Q a → (r : Res (List A)) → ((l : List A) (e : ℕ) → r ≡ ok l e → Each Q l) → (l : List A) (e : ℕ) → pre (a ∷ []) r ≡ ok l e → Each Q l
  unfolding pre
  pre-each a q (ok m z) h l e x = let y : a ∷ m ≡ l = cc in rw (← y) (econs q (h m z refl))
  pre-each a q (bad n p) h l e x = not_ok n p e l x

  pub many-each : (f : ℕ → Res A) → ((q : ℕ) (a : A) (e : ℕ) → f q ≡ ok a e → Q a) → (n q : ℕ) (l : List A) (e : ℕ) → many f n q ≡ ok l e → Each Q l
  unfolding many
  many-each f h zero q l e x = let y : [] ≡ l = cc in rw (← y) enil
  many-each f h (suc n) q l e x =
      let p = then_ok (f q) _ l e x in
      pre-each p.val (h q p.val p.past p.first) (many f n p.past) (many-each f h n p.past) l e p.rest

-- two readings of one text: both end at one place, or neither is well formed
pub data Like {A : Type 0} (R : A → A → Type 0) : Res A → Res A → Type 0 where
  lok : {a b : A} {e : ℕ} → R a b → Like R (ok a e) (ok b e)
  lbad : {n p m q : ℕ} → Like R (bad n p) (bad m q)

like_then : {A B : Type 0} {R : A → A → Type 0} {Q : B → B → Type 0} {x y : Res A} → Like R x y → (f g : A → ℕ → Res B) → ((a b : A) (e : ℕ) → R a b → Like Q (f a e) (g b e)) → Like Q (and_then x f) (and_then y g)
unfolding and_then
like_then (lok {a} {b} {e} r) f g h = h a b e r
like_then lbad f g h = lbad

like_cond : {A : Type 0} {R : A → A → Type 0} (t : Bool) {x y u v : Res A} → Like R x y → Like R u v → Like R (cond t x u) (cond t y v)
like_cond true p q = p
like_cond false p q = q

abbrev Any : {A : Type 0} → A → A → Type 0
Any a b = Unit {0}

like_pre : {A : Type 0} {x y : Res (List A)} (l m : List A) → Like Any x y → Like Any (pre l x) (pre m y)
unfolding pre
like_pre l m (lok r) = lok tt
like_pre l m lbad = lbad

abbrev results_in : Res MethodType → List Desc
results_in (ok u e) = u.results
results_in (bad n p) = []

abbrev list_in : Res (List Desc) → List Desc
list_in (ok l e) = l
list_in (bad n p) = []

module _ (n m : Text → ℕ) (t : Text) (p q : ℕ) where
  base_like : (i : ℕ) → Like Any (base_at n t p i) (base_at m t q i)
  unfolding base_at named_at
  base_like i = like_cond (eqb (get_or t i 0) 73) (lok tt) (like_cond (eqb (get_or t i 0) 76) (named (i + 1) (semicolon t (i + 1))) lbad)
    where
      named : (i z : ℕ) → Like Any (named_at n t p i z) (named_at m t q i z)
      named i z = like_cond (ltb z (length t)) (like_cond (class_name (part t i (z - i))) (lok tt) lbad) lbad

  type_like : (k i : ℕ) → Like Any (type_at n t p k i) (type_at m t q k i)
  unfolding type_at
  type_like zero i = base_like i
  type_like (suc k) i = like_cond (eqb (get_or t i 0) 91) (like_then (type_like k (i + 1)) _ _ (λ a b e r. lok tt)) (base_like i)

  params_like : (k i : ℕ) → Like Any (params_at n t p k i) (params_at m t q k i)
  unfolding params_at
  params_like zero i = lbad
  params_like (suc k) i = go (params_like k)
    where
      go : ((e : ℕ) → Like Any (params_at n t p k e) (params_at m t q k e))
          → Like Any (cond (eqb (get_or t i 0) 41) (ok [] (i + 1)) (and_then (type_at n t p max_dimensions i) λ d e. pre (d ∷ []) (params_at n t p k e)))
          (cond (eqb (get_or t i 0) 41) (ok [] (i + 1)) (and_then (type_at m t q max_dimensions i) λ d e. pre (d ∷ []) (params_at m t q k e)))
      go ih = like_cond (eqb (get_or t i 0) 41) (lok tt) (like_then (type_like max_dimensions i) _ _ (λ a b e r. like_pre (a ∷ []) (b ∷ []) (ih e)))

  results_like : (i : ℕ) → Like (λ (a b : List Desc). length a ≡ length b) (results_at n t p i) (results_at m t q i)
  unfolding results_at
  results_like i = like_cond (eqb (get_or t i 0) 86) (lok refl) (like_then (type_like max_dimensions i) _ _ (λ a b e r. lok refl))

  method_like : Like (λ (a b : MethodType). length a.results ≡ length b.results) (method_type_at n t p) (method_type_at m t q)
  unfolding method_type_at whole
  method_like = like_cond (eqb (get_or t 0 0) 40) (like_then (params_like (length t) 1) _ _ (λ ps qs a r.
      like_then (results_like a) _ _ (λ rs ss e x. like_cond (eqb e (length t)) (lok x) lbad))) lbad

-- as many results, however classes are numbered
pub results-length : (n m : Text → ℕ) (t : Text) (p q : ℕ) (u : MethodType) (e : ℕ) → method_type_at n t p ≡ ok u e → length (method_type_or (method_type_at m t q)).results ≡ length u.results
results-length n m t p q u e h = go (method_like n m t p q) h
  where
    go : {x y : Res MethodType} → Like (λ (a b : MethodType). length a.results ≡ length b.results) x y → x ≡ ok u e → length (method_type_or y).results ≡ length u.results
    go (lok {a} {b} r) h = let z : a ≡ u = cc in sym r ∙ ap (λ (v : MethodType). length v.results) z
    go lbad h = not_ok _ _ e u h

type_few : (n : Text → ℕ) (t : Text) (p : ℕ) (u : MethodType) (e : ℕ) → method_type_at n t p ≡ ok u e → length u.results ≤ 1
unfolding method_type_at results_at whole
type_few n t p u e h =
    let a = then_ok (params_at n t p (length t) 1) _ u e (test_ok (eqb (get_or t 0 0) 40) _ 7 p u e h).1 in
    let b = then_ok (results_at n t p a.past) _ u e a.rest in
    let c = (test_ok (eqb b.past (length t)) _ 7 p u e b.rest).1 in
    let z : b.val ≡ u.results = ap results_in c in
    rw (← z) (go (eqb (get_or t a.past 0) 86) b.val b.past (a.past + 1) (type_at n t p max_dimensions a.past) b.first)
  where
    one : (rs : List Desc) (z : ℕ) (r : Res Desc) → ◌≡◌ {A = Res (List Desc)} (and_then r λ d e. ok (d ∷ []) e) (ok rs z) → length rs ≤ 1
    one rs z r h = let x = then_ok r _ rs z h in let y : x.val ∷ [] ≡ rs = ap list_in x.rest in rw (← y) (omega arith)

    go : (v : Bool) (rs : List Desc) (z i : ℕ) (r : Res Desc) → ◌≡◌ {A = Res (List Desc)} (cond v (ok [] i) (and_then r λ d e. ok (d ∷ []) e)) (ok rs z) → length rs ≤ 1
    go true rs z i r h = let y : [] ≡ rs = cc in rw (← y) (omega arith)
    go false rs z i r h = one rs z r h

-- none or one
pub results_few : (n : Text → ℕ) (t : Text) (p : ℕ) → length (method_type_or (method_type_at n t p)).results ≤ 1
results_few n t p = go (method_type_at n t p) refl
  where
    go : (r : Res MethodType) → method_type_at n t p ≡ r → length (method_type_or r).results ≤ 1
    go (ok u e) q = type_few n t p u e q
    go (bad m q) e = omega arith
