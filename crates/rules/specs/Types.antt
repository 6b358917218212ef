-- Verification types, and which fits which (JVMS 4.10.1.2, without interfaces).
use Rattle.std.specs.Prelude.{ℕ, Bool, true, false, List, [], ◌∷◌, eqb}
use Rattle.classfiles.specs.Descriptors.{Ref, cls, arr, Desc, dint, dref}
use Rattle.reader.specs.BuiltIns.{object, throwable}
use Rattle.reader.specs.Program.{Program, below}

-- which uninitialised object: that of the new at L, or the receiver of this constructor
pub data Key : Type 0 where
  at : ℕ → Key
  self : Key

-- top, int, null, a class or array, uninit(L) or uninitThis
pub data Ty : Type 0 where
  top int null : Ty
  ini : Ref → Ty
  uninit : Key → Ty

abbrev pub is_self : Key → Bool
is_self (at L) = false
is_self self = true

abbrev pub is_at : ℕ → Key → Bool
is_at L (at K) = eqb K L
is_at L self = false

abbrev pub same_key : Key → Key → Bool
same_key (at L) k = is_at L k
same_key self k = is_self k

abbrev pub ty_of : Desc → Ty
ty_of dint = int
ty_of (dref r) = ini r

abbrev pub tys_of : List Desc → List Ty
tys_of [] = []
tys_of (d ∷ ds) = ty_of d ∷ tys_of ds

abbrev pub object_ty : Ty
object_ty = ini (cls object)

abbrev pub throwable_ty : Ty
throwable_ty = ini (cls throwable)

abbrev pub int_array : Ty
int_array = ini (arr dint)

abbrev pub object_array : Ty
object_array = ini (arr (dref (cls object)))

-- ---- kinds
abbrev pub is_int : Ty → Bool
is_int top = false
is_int int = true
is_int null = false
is_int (ini r) = false
is_int (uninit k) = false

abbrev pub is_null : Ty → Bool
is_null top = false
is_null int = false
is_null null = true
is_null (ini r) = false
is_null (uninit k) = false

abbrev pub is_top : Ty → Bool
is_top top = true
is_top int = false
is_top null = false
is_top (ini r) = false
is_top (uninit k) = false

-- a reference, initialised or not
abbrev pub is_reference : Ty → Bool
is_reference top = false
is_reference int = false
is_reference null = true
is_reference (ini r) = true
is_reference (uninit k) = true

abbrev pub is_array : Ty → Bool
is_array top = false
is_array int = false
is_array null = true
is_array (ini (cls c)) = false
is_array (ini (arr d)) = true
is_array (uninit k) = false

abbrev pub is_uninit : Key → Ty → Bool
is_uninit k top = false
is_uninit k int = false
is_uninit k null = false
is_uninit k (ini r) = false
is_uninit k (uninit j) = same_key k j

-- what is loaded from an array; null gives null
abbrev pub element_ty : Ty → Ty
element_ty top = top
element_ty int = top
element_ty null = null
element_ty (ini (cls c)) = top
element_ty (ini (arr d)) = ty_of d
element_ty (uninit k) = top

-- ---- fits, for initialised objects: a class its ancestors; an array Object, and arrays whose element its element fits
abbrev pub is_dint : Desc → Bool
is_dint dint = true
is_dint (dref r) = false

abbrev pub class_into : Program → ℕ → Ref → Bool
class_into P c (cls d) = below P c d
class_into P c (arr e) = false

abbrev pub array_into : Ref → (Desc → Bool) → Bool
array_into (cls d) k = eqb d object
array_into (arr e) k = k e

abbrev pub reference_into : Desc → (Ref → Bool) → Bool
reference_into dint k = false
reference_into (dref u) k = k u

unfoldable mutual
  pub ref_fits : Program → Ref → Ref → Bool
  ref_fits P (cls c) u = class_into P c u
  ref_fits P (arr d) u = array_into u (λ e. desc_fits P d e)

  pub desc_fits : Program → Desc → Desc → Bool
  desc_fits P dint e = is_dint e
  desc_fits P (dref r) e = reference_into e (λ u. ref_fits P r u)

abbrev pub fits_ref : Program → Ref → Ty → Bool
fits_ref P u top = false
fits_ref P u int = false
fits_ref P u null = true
fits_ref P u (ini r) = ref_fits P r u
fits_ref P u (uninit k) = false

unfoldable pub fits : Program → Ty → Ty → Bool
fits P t top = true
fits P t int = is_int t
fits P t null = is_null t
fits P t (ini u) = fits_ref P u t
fits P t (uninit k) = is_uninit k t
