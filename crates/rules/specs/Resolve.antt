-- What code names: numbers, types, fields and methods, found once from a class's pool.
use Rattle.std.specs.Prelude.{ℕ, ◌+◌, Bool, false, cond, not, List, map, length, get_or, ltb}
use Rattle.classfiles.specs.Limits.{max_dimensions}
use Rattle.texts.specs.Reading.{Res, ok, bad}
use Rattle.texts.specs.Names.{Text, is_init}
use Rattle.classfiles.specs.Descriptors.{Ref, cls, arr, dref, class_type_at, known_ref, dimensions}
use Rattle.classfiles.specs.Pool.{Constant, absent, utf8, integer, class_at, fieldref, methodref, name_and_type, entry, text}
use Rattle.reader.specs.Program.{Program, Class, Method, no_field, Signature, signature, class, method, class_count, number_in, field_sigs, method_sigs, index_of, Spot, nowhere, spot, lookup, layout, is_constructor}
use Rattle.rules.specs.Instruction.{Instr, FieldRef, MethodRef, new, newarray, unresolved}

pub data Resolved : Type 0 where
  nothing : Resolved
  number : ℕ → Resolved
  type : Ref → Resolved
  field : FieldRef → Resolved
  method_of : MethodRef → Resolved

-- what is done with each kind
abbrev pub by : {A : Type 0} → A → (ℕ → A) → (Ref → A) → (FieldRef → A) → (MethodRef → A) → Resolved → A
by n kv kr kf km nothing = n
by n kv kr kf km (number v) = kv v
by n kv kr kf km (type r) = kr r
by n kv kr kf km (field f) = kf f
by n kv kr kf km (method_of m) = km m

abbrev pub class_or : {A : Type 0} → A → (ℕ → A) → Ref → A
class_or n k (cls c) = k c
class_or n k (arr d) = n

-- a class and no array
abbrev pub on_class : {A : Type 0} → A → (ℕ → A) → Resolved → A
on_class n k q = by n (λ v. n) (class_or n k) (λ f. n) (λ m. n) q

abbrev pub number_of : Program → Text → ℕ
number_of P t = number_in (map (λ (C : Class). C.name) P.classes) t

-- a type whose classes are known
abbrev pub known_type : Program → Res Ref → Resolved
known_type P (ok r e) = cond (known_ref (class_count P) r) (type r) nothing
known_type P (bad n p) = nothing

abbrev pub class_entry : Program → List Constant → Constant → Resolved
class_entry P pool absent = nothing
class_entry P pool (utf8 t) = nothing
class_entry P pool (integer v) = nothing
class_entry P pool (class_at i) = known_type P (class_type_at (number_of P) (text pool i) 0)
class_entry P pool (fieldref i j) = nothing
class_entry P pool (methodref i j) = nothing
class_entry P pool (name_and_type i j) = nothing

-- with the class that it names, which is no array
abbrev pub with_class : Resolved → (ℕ → Resolved) → Resolved
with_class q k = on_class nothing k q

abbrev pub with_signature : List Constant → Constant → (Signature → Resolved) → Resolved
with_signature pool absent k = nothing
with_signature pool (utf8 t) k = nothing
with_signature pool (integer v) k = nothing
with_signature pool (class_at i) k = nothing
with_signature pool (fieldref i j) k = nothing
with_signature pool (methodref i j) k = nothing
with_signature pool (name_and_type i j) k = k (signature (text pool i) (text pool j))

-- fields stand super's first
abbrev pub field_found : Program → ℕ → Spot → Resolved
field_found P c nowhere = nothing
field_found P c (spot d j) =
    field (record { named = c; owner = d; slot = length (layout P (class P d).parent) + j; type = (get_or (class P d).fields j no_field).type })

abbrev pub method_found : ℕ → Spot → Resolved
method_found c nowhere = nothing
method_found c (spot d j) = method_of (record { named = c; owner = d; index = j })

-- in the class itself
unfoldable pub own_method : Program → ℕ → Signature → Spot
own_method P c g =
    cond (ltb (index_of g (method_sigs (class P c))) (length (method_sigs (class P c)))) (spot c (index_of g (method_sigs (class P c)))) nowhere

-- the first of that name and descriptor from the class upward; `<init>` in the class itself
unfoldable pub field_in : Program → Signature → ℕ → Resolved
field_in P g c = field_found P c (lookup P field_sigs g c)

unfoldable pub method_in : Program → Signature → ℕ → Resolved
method_in P g c = method_found c (cond (is_init g.name) (own_method P c g) (lookup P method_sigs g c))

abbrev pub resolve_entry : Program → List Constant → Constant → Resolved
resolve_entry P pool absent = nothing
resolve_entry P pool (utf8 t) = nothing
resolve_entry P pool (integer v) = number v
resolve_entry P pool (class_at i) = class_entry P pool (class_at i)
resolve_entry P pool (fieldref i j) = with_class (class_entry P pool (entry pool i)) λ c. with_signature pool (entry pool j) λ g. field_in P g c
resolve_entry P pool (methodref i j) = with_class (class_entry P pool (entry pool i)) λ c. with_signature pool (entry pool j) λ g. method_in P g c
resolve_entry P pool (name_and_type i j) = nothing

unfoldable pub resolve : Program → List Constant → ℕ → Resolved
resolve P pool i = resolve_entry P pool (entry pool i)

-- ---- what each instruction needs
abbrev pub as_number : (ℕ → Instr) → Resolved → Instr
as_number k q = by unresolved k (λ r. unresolved) (λ f. unresolved) (λ m. unresolved) q

abbrev pub as_type : (Ref → Instr) → Resolved → Instr
as_type k q = by unresolved (λ v. unresolved) k (λ f. unresolved) (λ m. unresolved) q

abbrev pub as_field : (FieldRef → Instr) → Resolved → Instr
as_field k q = by unresolved (λ v. unresolved) (λ r. unresolved) k (λ m. unresolved) q

-- with a test of the method that was found
abbrev pub as_method : (MethodRef → Bool) → (MethodRef → Instr) → Resolved → Instr
as_method fit k q = by unresolved (λ v. unresolved) (λ r. unresolved) (λ f. unresolved) (λ m. cond (fit m) (k m) unresolved) q

abbrev pub new_of : Ref → Instr
new_of (cls c) = new c
new_of (arr d) = unresolved

abbrev pub array_of : Ref → Instr
array_of r = cond (ltb (dimensions r) max_dimensions) (newarray (dref r)) unresolved

abbrev pub found : Program → MethodRef → Method
found P m = method P m.owner m.index

abbrev pub is_static_call : Program → MethodRef → Bool
is_static_call P m = cond (is_constructor (found P m)) false (found P m).static

abbrev pub is_virtual_call : Program → MethodRef → Bool
is_virtual_call P m = cond (is_constructor (found P m)) false (not (found P m).static)

abbrev pub is_init_call : Program → MethodRef → Bool
is_init_call P m = is_constructor (found P m)

-- the class that a table entry names; n where it names none
abbrev pub caught_class : Resolved → ℕ → ℕ
caught_class q n = on_class n (λ c. c) q
