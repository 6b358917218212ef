-- Types that are written down: of initialised objects and in descriptors (JVMS 4.3), classes by their numbers.
use Rattle.std.specs.Prelude.{ℕ, zero, suc, ◌+◌, ◌-◌, List, [], ◌∷◌, Bool, true, cond, not, length, get_or, ltb, eqb}
use Rattle.kit.specs.Scan.{first_not}
use Rattle.classfiles.specs.Limits.{max_dimensions}
use Rattle.texts.specs.Reading.{Res, ok, bad, and_then, pre, part}
use Rattle.texts.specs.Names.{Text, class_name}

mutual
  -- an initialised object's type: a class, or an array of something
  pub data Ref : Type 0 where
    cls : ℕ → Ref
    arr : Desc → Ref

  -- I, L name ; or [ and a descriptor
  pub data Desc : Type 0 where
    dint : Desc
    dref : Ref → Desc

pub record MethodType : Type 0 where
  pub params : List Desc
  pub results : List Desc

abbrev pub method_type : List Desc → List Desc → MethodType
method_type ps rs = record { params = ps; results = rs }

unfoldable pub in_name : Text → ℕ → Bool
in_name t i = not (eqb (get_or t i 0) 59)

-- a name runs to the first ;
unfoldable pub semicolon : Text → ℕ → ℕ
semicolon t q = first_not (in_name t) (length t - q) q

-- `number` says which class a name means; whatever is malformed is 7 at p
module _ (number : Text → ℕ) (t : Text) (p : ℕ) where
  -- the name from q, up to the ; at z
  unfoldable pub named_at : ℕ → ℕ → Res Desc
  named_at q z =
      cond (ltb z (length t)) (cond (class_name (part t q (z - q))) (ok (dref (cls (number (part t q (z - q))))) (z + 1)) (bad 7 p)) (bad 7 p)

  unfoldable pub base_at : ℕ → Res Desc
  base_at q = cond (eqb (get_or t q 0) 73) (ok dint (q + 1)) (cond (eqb (get_or t q 0) 76) (named_at (q + 1) (semicolon t (q + 1))) (bad 7 p))

  -- a field descriptor of at most k [
  unfoldable pub type_at : ℕ → ℕ → Res Desc
  type_at zero q = base_at q
  type_at (suc k) q = cond (eqb (get_or t q 0) 91) (and_then (type_at k (q + 1)) λ d e. ok (dref (arr d)) e) (base_at q)

  -- parameters up to the )
  unfoldable pub params_at : ℕ → ℕ → Res (List Desc)
  params_at zero q = bad 7 p
  params_at (suc n) q =
      cond (eqb (get_or t q 0) 41) (ok [] (q + 1)) (and_then (type_at max_dimensions q) λ d e. pre (d ∷ []) (params_at n e))

  -- V, or a field descriptor
  unfoldable pub results_at : ℕ → Res (List Desc)
  results_at q = cond (eqb (get_or t q 0) 86) (ok [] (q + 1)) (and_then (type_at max_dimensions q) λ d e. ok (d ∷ []) e)

  -- nothing may follow
  unfoldable pub whole : {A : Type 0} → A → ℕ → Res A
  whole a e = cond (eqb e (length t)) (ok a e) (bad 7 p)

  unfoldable pub field_type_at : Res Desc
  field_type_at = and_then (type_at max_dimensions 0) λ d e. whole d e

  unfoldable pub method_type_at : Res MethodType
  method_type_at =
      cond (eqb (get_or t 0 0) 40) (and_then (params_at (length t) 1) λ ps a. and_then (results_at a) λ rs e. whole (method_type ps rs) e) (bad 7 p)

  -- what a Class entry names: an array's descriptor, or a class
  unfoldable pub as_ref : Desc → ℕ → Res Ref
  as_ref dint e = bad 7 p
  as_ref (dref r) e = ok r e

  unfoldable pub class_type_at : Res Ref
  class_type_at =
      cond (eqb (get_or t 0 0) 91) (and_then field_type_at as_ref) (cond (class_name t) (ok (cls (number t)) (length t)) (bad 7 p))

-- every class in it has a number below n
unfoldable mutual
  pub known_ref : ℕ → Ref → Bool
  known_ref n (cls c) = ltb c n
  known_ref n (arr d) = known_desc n d

  pub known_desc : ℕ → Desc → Bool
  known_desc n dint = true
  known_desc n (dref r) = known_ref n r

-- how many [ it has
unfoldable mutual
  pub dimensions : Ref → ℕ
  dimensions (cls c) = 0
  dimensions (arr d) = suc (depth_of d)

  pub depth_of : Desc → ℕ
  depth_of dint = 0
  depth_of (dref r) = dimensions r
