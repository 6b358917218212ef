-- Types as codes of one byte, brackets + 8 * base: what a code stands for, and the methods' types as they are kept. Assumes nothing.
use Rattle.std.specs.Prelude.{Result, Ok, Err, IfOk, ℕ, zero, suc, ◌+◌, ◌*◌, ◌/◌, ◌%◌, ◌≤◌, ◌≡◌, List, [], ◌∷◌, ◌++◌, Bool, true, false, cond, ltb, eqb, length, get_or, take, drop}
use Rattle.classfiles.specs.Limits.{max_parameters}
use Rattle.texts.specs.Reading.{Res, ok, bad, pre}
use Rattle.texts.specs.Names.{Text}
use Rattle.classfiles.specs.Descriptors.{Ref, cls, arr, Desc, dint, dref, method_type_at, params_at, known_desc}
use Rattle.classfiles.specs.Blocks.{listed}
use Rattle.reader.specs.Program.{number_in, class_names, method_type_or, program_of}
use Rattle.reader.specs.Link.{all_known}
use Rattle.reader.specs.Linked.{files_in}
use Rattle.reader.specs.declared.types.Listed.{Listed}
use Rattle.texts.specs.Faults.{number}
use Rattle.texts.specs.declared.faults.Fault.{Fault}

-- ---- codes
-- int, by a number that no class has
abbrev pub int_base : ℕ
int_base = 31

unfoldable pub base_of : ℕ → Desc
base_of b = cond (eqb b int_base) dint (dref (cls b))

-- k brackets in front
unfoldable pub nested : ℕ → Desc → Desc
nested zero d = d
nested (suc k) d = dref (arr (nested k d))

unfoldable pub desc_of : ℕ → Desc
desc_of c = nested (c % 8) (base_of (c / 8))

-- of a code that is not int's
unfoldable pub ref_in : Desc → Ref
ref_in dint = cls int_base
ref_in (dref r) = r

unfoldable pub ref_of : ℕ → Ref
ref_of c = ref_in (desc_of c)

-- none, or a result's code
unfoldable pub result_of : ℕ → List Desc
result_of v = cond (eqb v 256) [] (desc_of v ∷ [])

-- every class in them has a number below m
unfoldable pub known_all : ℕ → List Desc → Bool
known_all m [] = true
known_all m (d ∷ ds) = cond (known_desc m d) (known_all m ds) false

-- ---- methods' types: an entry of 18 bytes a method, 64 entries a class: how many parameters, plus 32 where there is a result; the parameters' codes; the result's
abbrev pub types_at : ℕ
types_at = 168576

abbrev pub types_end : ℕ
types_end = 187008

abbrev pub types_of : ℕ → ℕ
types_of k = types_at + 18 * k

-- n codes from byte w on
unfoldable pub codes_in : List ℕ → ℕ → ℕ → List Desc
codes_in t w n = listed (λ i. desc_of (get_or t (w + i) 0)) n

unfoldable pub result_at : List ℕ → ℕ → List Desc
result_at t w = cond (ltb (get_or t w 0) 32) [] (desc_of (get_or t (w + 17) 0) ∷ [])

unfoldable pub params_in : List ℕ → ℕ → List Desc
params_in t k = codes_in t (types_of k + 1) (get_or t (types_of k) 0 % 32)

unfoldable pub results_in : List ℕ → ℕ → List Desc
results_in t k = result_at t (types_of k)

-- which class a name means
abbrev pub number_by : List ℕ → ℕ → List ℕ → Text → ℕ
number_by s n t = number_in (class_names (files_in s n t))

-- u is t but for n bytes from w on
pub record Aside (w n : ℕ) (t u : List ℕ) : Type 0 where
  pub before : take w u ≡ take w t
  pub after : drop (w + n) u ≡ drop (w + n) t
  pub long : length u ≡ length t

-- one more code is kept, unless there are sixteen
pub record Kept (w count code r : ℕ) (t u : List ℕ) : Type 0 where
  pub more : (ds : List Desc) → codes_in t w count ≡ take max_parameters ds → codes_in u w r ≡ take max_parameters (ds ++ (desc_of code ∷ []))
  pub most : r ≤ max_parameters
  pub aside : Aside w 16 t u

-- the parameters read before position `at`, when the rest may take `left` more
pub record ParamsRead (m : ℕ) (number : Text → ℕ) (x : Text) (w at left count : ℕ) (sure : Bool) (t u : List ℕ) : Type 0 where
  pub ds : List Desc
  pub is : pre ds (params_at number x 0 left at) ≡ params_at number x 0 (length x) 1
  pub codes : codes_in u w count ≡ take max_parameters ds
  pub known : sure ≡ known_all m ds
  pub most : count ≤ max_parameters
  pub aside : Aside w 16 t u

-- ds and the position past them, or the fault
abbrev pub listed_as : List Desc → Result Listed Fault → Res (List Desc)
listed_as ds (Ok r) = ok ds r.at
listed_as ds (Err e) = bad (number e.0) e.1

pub record ParamsKept (m : ℕ) (number : Text → ℕ) (x : Text) (w : ℕ) (r : Result Listed Fault) (t u : List ℕ) : Type 0 where
  pub ds : List Desc
  pub is : params_at number x 0 (length x) 1 ≡ listed_as ds r
  pub codes : IfOk r (λ l. codes_in u w l.count ≡ take max_parameters ds)
  pub known : IfOk r (λ l. l.known ≡ known_all m ds)
  pub most : IfOk r (λ l. l.count ≤ max_parameters)
  pub aside : Aside w 16 t u

-- the entry's other two bytes
pub record Settled (w k v : ℕ) (t u : List ℕ) : Type 0 where
  pub count : get_or u w 0 % 32 ≡ k
  pub codes : codes_in u (w + 1) k ≡ codes_in t (w + 1) k
  pub result : result_at u w ≡ result_of v
  pub aside : Aside w 18 t u

-- the type that descriptor x writes down, as entry k keeps it: more parameters than phase A lets pass are cut
pub record Described (s : List ℕ) (n : ℕ) (x : Text) (k : ℕ) (r : Bool) (t u : List ℕ) : Type 0 where
  pub known : r ≡ all_known (program_of (files_in s n t)) ((method_type_or (method_type_at (number_by s n t) x 0)).params ++ (method_type_or (method_type_at (number_by s n t) x 0)).results)
  pub params : params_in u k ≡ take max_parameters (method_type_or (method_type_at (number_by s n t) x 0)).params
  pub results : results_in u k ≡ (method_type_or (method_type_at (number_by s n t) x 0)).results
  pub aside : Aside (types_of k) 18 t u
