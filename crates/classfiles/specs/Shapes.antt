-- Descriptors read for their form alone: where they end and how many parameters and results they have. What phase A asks.
use Rattle.std.specs.Prelude.{ℕ, zero, suc, ◌+◌, ◌-◌, ◌<◌, ◌≤◌, ◌≡◌, refl, List, [], ◌∷◌, Bool, true, false, cond, not, eqb, ltb, length, get_or, Result, IsErrAnd}
use Rattle.std.proofs.Common.{sym, ap, ◌∙◌, arith, ltb-true, ltb-false, eqb-true}
use Rattle.std.proofs.Math.ListN.{get_or-eq_default}
use Rattle.std.proofs.lemmas.Bool.{not-true, not-false}
use Rattle.kit.specs.Scan.{first_ge}
use Rattle.classfiles.specs.Limits.{max_dimensions}
use Rattle.texts.specs.Reading.{Res, ok, bad, and_then, pre, part}
use Rattle.texts.specs.Faults.{number}
use Rattle.texts.specs.Answers.{res, t_ok, t_stop}
use Rattle.texts.specs.Names.{Text, class_name}
use Rattle.texts.specs.declared.faults.Got.{Got}
use Rattle.texts.specs.declared.faults.Fault.{Fault}
pub use Rattle.classfiles.specs.declared.descriptors.Arity.{Arity}
use Rattle.classfiles.specs.Descriptors.{cls, arr, Desc, dint, dref, MethodType, method_type, in_name, semicolon, named_at, base_at, type_at, params_at, results_at, whole, field_type_at, method_type_at, as_ref, class_type_at}

-- how many parameters and results
abbrev pub arity : ℕ → ℕ → Arity
arity n m = record { params = n; results = m }

-- a reading with its value seen through f
unfoldable pub seen : {A B : Type 0} → (A → B) → Res A → Res B
seen f (ok v e) = ok (f v) e
seen f (bad n p) = bad n p

module _ (t : Text) (p : ℕ) where
  unfoldable pub named_shape : ℕ → ℕ → Res ℕ
  named_shape q z = cond (ltb z (length t)) (cond (class_name (part t q (z - q))) (ok 0 (z + 1)) (bad 7 p)) (bad 7 p)

  unfoldable pub base_shape : ℕ → Res ℕ
  base_shape q = cond (eqb (get_or t q 0) 73) (ok 0 (q + 1)) (cond (eqb (get_or t q 0) 76) (named_shape (q + 1) (semicolon t (q + 1))) (bad 7 p))

  unfoldable pub type_shape : ℕ → ℕ → Res ℕ
  type_shape zero q = base_shape q
  type_shape (suc k) q = cond (eqb (get_or t q 0) 91) (type_shape k (q + 1)) (base_shape q)

  -- c parameters were read before
  unfoldable pub params_shape : ℕ → ℕ → ℕ → Res ℕ
  params_shape zero c q = bad 7 p
  params_shape (suc n) c q = cond (eqb (get_or t q 0) 41) (ok c (q + 1)) (and_then (type_shape max_dimensions q) λ v e. params_shape n (c + 1) e)

  unfoldable pub results_shape : ℕ → Res ℕ
  results_shape q = cond (eqb (get_or t q 0) 86) (ok 0 (q + 1)) (and_then (type_shape max_dimensions q) λ v e. ok 1 e)

  unfoldable pub field_shape : Res ℕ
  field_shape = and_then (type_shape max_dimensions 0) λ v e. cond (eqb e (length t)) (ok 0 e) (bad 7 p)

  unfoldable pub method_shape : Res Arity
  method_shape =
      cond (eqb (get_or t 0 0) 40)
      (and_then (params_shape (length t) 0 1) λ n a. and_then (results_shape a) λ m e. cond (eqb e (length t)) (ok (arity n m) e) (bad 7 p)) (bad 7 p)

  unfoldable pub class_shape : Res ℕ
  class_shape = cond (eqb (get_or t 0 0) 91) field_shape (cond (class_name t) (ok 0 (length t)) (bad 7 p))

-- ---- they say what the descriptors' own definitions say, whatever numbers the classes have
abbrev none : {A : Type 0} → A → ℕ
none a = 0

seen_bad : {A B : Type 0} (f : A → B) (n p : ℕ) → seen f (bad n p) ≡ bad n p
unfolding seen
seen_bad f n p = refl

seen-cond : {A B : Type 0} (f : A → B) (b : Bool) (x y : Res A) → seen f (cond b x y) ≡ cond b (seen f x) (seen f y)
seen-cond f true x y = refl
seen-cond f false x y = refl

arrays : (x : Res Desc) → seen none (and_then x λ d e. ok (dref (arr d)) e) ≡ seen none x
unfolding and_then seen
arrays (ok d e) = refl
arrays (bad n q) = refl

abbrev more : ℕ → List Desc → ℕ
more c ds = c + length ds

counted : (c : ℕ) (d : Desc) (y : Res (List Desc)) → seen (more c) (pre (d ∷ []) y) ≡ seen (more (c + 1)) y
unfolding seen pre
counted c d (ok ds e) = let n : c + length (d ∷ ds) ≡ c + 1 + length ds = omega arith in ap (λ (k : ℕ). ok k e) n
counted c d (bad n q) = refl

module _ (c : ℕ) (f : ℕ → Res (List Desc)) (g : ℕ → Res ℕ) (h : (e : ℕ) → seen (more (c + 1)) (f e) ≡ g e) where
  step : (x : Res Desc) → seen (more c) (and_then x λ d e. pre (d ∷ []) (f e)) ≡ and_then (seen none x) λ v e. g e
  unfolding and_then seen
  step (ok d e) = counted c d (f e) ∙ h e
  step (bad n q) = refl

single : (x : Res Desc) → seen length (and_then x λ d e. ok (d ∷ []) e) ≡ and_then (seen none x) λ v e. ok 1 e
unfolding and_then seen
single (ok d e) = refl
single (bad n q) = refl

abbrev arity_of : MethodType → Arity
arity_of m = arity (length m.params) (length m.results)

module _ (number : Text → ℕ) (t : Text) (p : ℕ) where
  named-shape : (q z : ℕ) → seen none (named_at number t p q z) ≡ named_shape t p q z
  unfolding named_at named_shape seen
  named-shape q z = by (ltb z (length t)) (class_name (part t q (z - q)))
    where
      by : (a b : Bool) → seen none (cond a (cond b (ok (dref (cls (number (part t q (z - q))))) (z + 1)) (bad 7 p)) (bad 7 p)) ≡ cond a (cond b (ok 0 (z + 1)) (bad 7 p)) (bad 7 p)
      by true true = refl
      by true false = refl
      by false b = refl

  base-shape : (q : ℕ) → seen none (base_at number t p q) ≡ base_shape t p q
  unfolding base_at base_shape seen
  base-shape q = by (eqb (get_or t q 0) 73) (eqb (get_or t q 0) 76)
    where
      by : (a b : Bool) → seen none (cond a (ok dint (q + 1)) (cond b (named_at number t p (q + 1) (semicolon t (q + 1))) (bad 7 p))) ≡ cond a (ok 0 (q + 1)) (cond b (named_shape t p (q + 1) (semicolon t (q + 1))) (bad 7 p))
      by true b = refl
      by false true = named-shape (q + 1) (semicolon t (q + 1))
      by false false = refl

  pub type-shape : (k q : ℕ) → seen none (type_at number t p k q) ≡ type_shape t p k q
  unfolding type_at type_shape
  type-shape zero q = base-shape q
  type-shape (suc k) q = by (eqb (get_or t q 0) 91) (type-shape k (q + 1))
    where
      by : (a : Bool) → seen none (type_at number t p k (q + 1)) ≡ type_shape t p k (q + 1)
          → seen none (cond a (and_then (type_at number t p k (q + 1)) λ d e. ok (dref (arr d)) e) (base_at number t p q)) ≡ cond a (type_shape t p k (q + 1)) (base_shape t p q)
      by true h = arrays (type_at number t p k (q + 1)) ∙ h
      by false h = base-shape q

  pub params_shape_lem : (n c q : ℕ) → seen (more c) (params_at number t p n q) ≡ params_shape t p n c q
  unfolding params_at params_shape seen
  params_shape_lem zero c q = refl
  params_shape_lem (suc n) c q = by (eqb (get_or t q 0) 41) (λ e. params_shape_lem n (c + 1) e)
    where
      none_read : c + 0 ≡ c
      none_read = omega arith

      by : (a : Bool) → ((e : ℕ) → seen (more (c + 1)) (params_at number t p n e) ≡ params_shape t p n (c + 1) e)
          → seen (more c) (cond a (ok [] (q + 1)) (and_then (type_at number t p max_dimensions q) λ d e. pre (d ∷ []) (params_at number t p n e)))
          ≡ cond a (ok c (q + 1)) (and_then (type_shape t p max_dimensions q) λ v e. params_shape t p n (c + 1) e)
      by true h = ap (λ (k : ℕ). ok k (q + 1)) none_read
      by false h =
          step c (params_at number t p n) (params_shape t p n (c + 1)) h (type_at number t p max_dimensions q)
          ∙ ap (λ (x : Res ℕ). and_then x λ v e. params_shape t p n (c + 1) e) (type-shape max_dimensions q)

  results-shape : (q : ℕ) → seen length (results_at number t p q) ≡ results_shape t p q
  unfolding results_at results_shape seen
  results-shape q = by (eqb (get_or t q 0) 86)
    where
      by : (a : Bool) → seen length (cond a (ok [] (q + 1)) (and_then (type_at number t p max_dimensions q) λ d e. ok (d ∷ []) e))
          ≡ cond a (ok 0 (q + 1)) (and_then (type_shape t p max_dimensions q) λ v e. ok 1 e)
      by true = refl
      by false = single (type_at number t p max_dimensions q) ∙ ap (λ (x : Res ℕ). and_then x λ v e. ok 1 e) (type-shape max_dimensions q)

  whole-shape : {A B : Type 0} (f : A → B) (a : A) (e : ℕ) → seen f (whole number t p a e) ≡ cond (eqb e (length t)) (ok (f a) e) (bad 7 p)
  unfolding whole seen
  whole-shape f a e = seen-cond f (eqb e (length t)) (ok a e) (bad 7 p)

  field_end : (x : Res Desc) → seen none (and_then x (whole number t p)) ≡ and_then (seen none x) λ v e. cond (eqb e (length t)) (ok 0 e) (bad 7 p)
  unfolding and_then seen
  field_end (ok d e) = whole-shape none d e
  field_end (bad n q) = refl

  pub field-shape : seen none (field_type_at number t p) ≡ field_shape t p
  unfolding field_type_at field_shape
  field-shape =
      field_end (type_at number t p max_dimensions 0)
      ∙ ap (λ (x : Res ℕ). and_then x λ v e. cond (eqb e (length t)) (ok 0 e) (bad 7 p)) (type-shape max_dimensions 0)

  method_end : (ps : List Desc) (x : Res (List Desc)) → seen arity_of (and_then x λ rs e. whole number t p (method_type ps rs) e)
      ≡ and_then (seen length x) λ m e. cond (eqb e (length t)) (ok (arity (length ps) m) e) (bad 7 p)
  unfolding and_then seen
  method_end ps (ok rs e) = whole-shape arity_of (method_type ps rs) e
  method_end ps (bad n q) = refl

  method-rest : (x : Res (List Desc)) → seen arity_of (and_then x λ ps a. and_then (results_at number t p a) λ rs e. whole number t p (method_type ps rs) e)
      ≡ and_then (seen (more 0) x) λ n a. and_then (results_shape t p a) λ m e. cond (eqb e (length t)) (ok (arity n m) e) (bad 7 p)
  unfolding and_then seen
  method-rest (ok ps a) =
      method_end ps (results_at number t p a)
      ∙ (ap (λ (x : Res ℕ). and_then x λ m e. cond (eqb e (length t)) (ok (arity (length ps) m) e) (bad 7 p)) (results-shape a)
      ∙ ap (λ (n : ℕ). and_then (results_shape t p a) λ m e. cond (eqb e (length t)) (ok (arity n m) e) (bad 7 p)) count)
    where
      count : length ps ≡ 0 + length ps
      count = omega arith
  method-rest (bad n q) = refl

  pub method-shape : seen arity_of (method_type_at number t p) ≡ method_shape t p
  unfolding method_type_at method_shape
  method-shape = by (eqb (get_or t 0 0) 40)
    where
      by : (b : Bool) → seen arity_of (cond b (and_then (params_at number t p (length t) 1) λ ps a. and_then (results_at number t p a) λ rs e. whole number t p (method_type ps rs) e) (bad 7 p))
          ≡ cond b (and_then (params_shape t p (length t) 0 1) λ n a. and_then (results_shape t p a) λ m e. cond (eqb e (length t)) (ok (arity n m) e) (bad 7 p)) (bad 7 p)
      by true =
          method-rest (params_at number t p (length t) 1)
          ∙ ap (λ (x : Res ℕ). and_then x λ n a. and_then (results_shape t p a) λ m e. cond (eqb e (length t)) (ok (arity n m) e) (bad 7 p)) (params_shape_lem (length t) 0 1)
      by false = seen_bad arity_of 7 p

  -- what begins with [ is an array, so it is a reference
  array_ref : (x : Res Desc) → seen none (and_then (and_then (and_then x λ d e. ok (dref (arr d)) e) (whole number t p)) (as_ref number t p))
      ≡ seen none (and_then (and_then x λ d e. ok (dref (arr d)) e) (whole number t p))
  unfolding and_then seen whole as_ref
  array_ref (ok d e) = by (eqb e (length t))
    where
      by : (b : Bool) → seen none (and_then (cond b (ok (dref (arr d)) e) (bad 7 p)) (as_ref number t p)) ≡ seen none (cond b (ok (dref (arr d)) e) (bad 7 p))
      by true = refl
      by false = refl
  array_ref (bad n q) = refl

  array_shape : eqb (get_or t 0 0) 91 ≡ true → seen none (and_then (field_type_at number t p) (as_ref number t p)) ≡ seen none (field_type_at number t p)
  unfolding field_type_at type_at
  array_shape h = rw h (array_ref (type_at number t p 6 1))

  pub class-shape : seen none (class_type_at number t p) ≡ class_shape t p
  unfolding class_type_at class_shape seen
  class-shape = by (eqb (get_or t 0 0) 91) refl
    where
      name : (b : Bool) → seen none (cond b (ok (cls (number t)) (length t)) (bad 7 p)) ≡ cond b (ok 0 (length t)) (bad 7 p)
      name b = seen-cond none b (ok (cls (number t)) (length t)) (bad 7 p)

      by : (b : Bool) → eqb (get_or t 0 0) 91 ≡ b
          → seen none (cond b (and_then (field_type_at number t p) (as_ref number t p)) (cond (class_name t) (ok (cls (number t)) (length t)) (bad 7 p)))
          ≡ cond b (field_shape t p) (cond (class_name t) (ok 0 (length t)) (bad 7 p))
      by true h = array_shape h ∙ field-shape
      by false h = name (class_name t)

-- ---- for the code
-- a byte that is not 0 stands inside the text
pub inside : (t : List ℕ) (q b : ℕ) → 0 < b → eqb (get_or t q 0) b ≡ true → q < length t
inside t q b h e = by (ltb q (length t)) refl (eqb-true (get_or t q 0) b e)
  where
    by : (a : Bool) → ltb q (length t) ≡ a → get_or t q 0 ≡ b → q < length t
    by true p g = ltb-true q (length t) p
    by false p g = let z : get_or t q 0 ≡ 0 = get_or-eq_default t 0 (ltb-false q (length t) p) in absurd (omega arith)

pub is_at : (t : List ℕ) (q b k : ℕ) → 0 < b → k ≡ get_or t q 0 → (eqb k b ≡ eqb (get_or t q 0) b) × (eqb k b ≡ true → q < length t)
is_at t q b k h e = (ap (λ (n : ℕ). eqb n b) e, λ y. inside t q b h (sym (ap (λ (n : ℕ). eqb n b) e) ∙ y))

-- the ; is not before the name
pub semicolon_past : (t : Text) (q r : ℕ) → r ≡ semicolon t q → q ≤ r
unfolding semicolon
semicolon_past t q r e = rw e (first_ge (in_name t) (length t - q) q)

pub named_via : (R : Res ℕ) (t : Text) (p q k z : ℕ) → k ≡ z → R ≡ named_shape t p q k → R ≡ named_shape t p q z
named_via R t p q k z e h = h ∙ ap (named_shape t p q) e

-- a loop that counts the brackets up to n; R is what the contract says
module _ (R r : Res ℕ) (t : Text) (p n k q : ℕ) (i : type_shape t p (n - k) q ≡ R) where
  pub type_last : n ≤ k → r ≡ base_shape t p q → r ≡ R
  unfolding type_shape
  type_last h e = let z : n - k ≡ 0 = omega arith in e ∙ (sym (rw z) ∙ i)

  pub type_here : (b : Bool) → k < n → not b ≡ true → b ≡ eqb (get_or t q 0) 91 → r ≡ base_shape t p q → r ≡ R
  unfolding type_shape
  type_here b h f g e =
      let z : n - k ≡ suc (n - (k + 1)) = omega arith in
      let w : eqb (get_or t q 0) 91 ≡ false = sym g ∙ not-true b f in
      e ∙ (sym (rw (z, w)) ∙ i)

pub type_next : (R : Res ℕ) (t : Text) (p n k q : ℕ) (b : Bool) → type_shape t p (n - k) q ≡ R → k < n → not b ≡ false → b ≡ eqb (get_or t q 0) 91
    → type_shape t p (n - (k + 1)) (q + 1) ≡ R
unfolding type_shape
type_next R t p n k q b i h f g =
    let z : n - k ≡ suc (n - (k + 1)) = omega arith in
    let w : eqb (get_or t q 0) 91 ≡ true = sym g ∙ not-false b f in
    sym (rw (z, w)) ∙ i

pub ruleset brackets = (type_last, type_here, type_next)

-- a loop that reads parameters and counts c up to n; R is what the contract says
module _ (t : Text) (p n c q : ℕ) (R : Res ℕ) (i : params_shape t p (n - c) c q ≡ R) where
  pub params_none : n ≤ c → bad 7 p ≡ R
  unfolding params_shape
  params_none h = let z : n - c ≡ 0 = omega arith in sym (rw z) ∙ i

  module _ (b : Bool) (h : c < n) (g : b ≡ eqb (get_or t q 0) 41) where
    left : n - c ≡ suc (n - (c + 1))
    left = omega arith

    pub params_end : b ≡ true → ok c (q + 1) ≡ R
    unfolding params_shape
    params_end f = let w : eqb (get_or t q 0) 41 ≡ true = sym g ∙ f in sym (rw (left, w)) ∙ i

    module _ (f : b ≡ false) where
      another : (and_then (type_shape t p max_dimensions q) λ v e. params_shape t p (n - (c + 1)) (c + 1) e) ≡ R
      unfolding params_shape
      another = let w : eqb (get_or t q 0) 41 ≡ false = sym g ∙ f in sym (rw (left, w)) ∙ i

      pub params_bad : (r : Result (Got ℕ) Fault) (a : Fault) → IsErrAnd r (λ z. z ≡ a) → bad (number a.0) a.1 ≡ type_shape t p max_dimensions q → res r ≡ R
      params_bad r a u k = t_stop (λ v. v) (type_shape t p max_dimensions q) (λ v e. params_shape t p (n - (c + 1)) (c + 1) e) r a u k ∙ another

      pub params_more : (v e : ℕ) → ok v e ≡ type_shape t p max_dimensions q → params_shape t p (n - (c + 1)) (c + 1) e ≡ R
      params_more v e k = t_ok _ (type_shape t p max_dimensions q) (λ v e. params_shape t p (n - (c + 1)) (c + 1) e) v e k refl ∙ another

pub ruleset parameters = (params_none, params_end, params_bad, params_more)
