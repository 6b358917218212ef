-- A program: classes by number (the built-in ones, then the bundle's), with members' types over those numbers.
use Rattle.std.specs.Prelude.{ℕ, zero, suc, List, [], ◌∷◌, ◌++◌, map, Bool, true, false, cond, length, get_or, ltb, eqb}
use Rattle.kit.specs.Lists.{eq_list}
use Rattle.texts.specs.Reading.{Res, ok, bad}
use Rattle.texts.specs.Names.{Text, init, is_init}
use Rattle.classfiles.specs.Descriptors.{Desc, dint, MethodType, method_type, field_type_at, method_type_at}
use Rattle.classfiles.specs.Pool.{Constant}
use Rattle.classfiles.specs.Members.{Found, none, Body, Member}
use Rattle.classfiles.specs.Bundle.{ClassFile, Super, zero', named}
use Rattle.reader.specs.BuiltIns.{BuiltIn, built_ins, first_class}

-- what a member is found by
pub record Signature : Type 0 where
  pub name : Text
  pub descriptor : Text

abbrev pub signature : Text → Text → Signature
signature n d = record { name = n; descriptor = d }

pub record Field : Type 0 where
  pub sig : Signature
  pub type : Desc

pub record Method : Type 0 where
  pub owner : ℕ
  pub sig : Signature
  pub static : Bool
  pub params : List Desc
  pub results : List Desc
  pub body : Found Body

pub record Class : Type 0 where
  pub name : Text
  pub parent : ℕ
  pub fields : List Field
  pub methods : List Method
  pub pool : List Constant

pub record Program : Type 0 where
  pub classes : List Class

-- the number of the class with that name: the first, or as many as there are where there is none
unfoldable pub number_in : List Text → Text → ℕ
number_in [] t = 0
number_in (n ∷ ns) t = cond (eq_list n t) 0 (suc (number_in ns t))

unfoldable pub class_names : List ClassFile → List Text
class_names fs = map (λ (b : BuiltIn). b.name) built_ins ++ map (λ (f : ClassFile). f.name) fs

-- phase A has judged descriptors: what is malformed does not come here
abbrev pub desc_or : Res Desc → Desc
desc_or (ok d e) = d
desc_or (bad n p) = dint

abbrev pub method_type_or : Res MethodType → MethodType
method_type_or (ok m e) = m
method_type_or (bad n p) = method_type [] []

module _ (number : Text → ℕ) where
  unfoldable pub field_of : Member → Field
  field_of m = record { sig = signature m.name m.descriptor; type = desc_or (field_type_at number m.descriptor 0) }

  abbrev pub typed : ℕ → Member → MethodType → Method
  typed c m t =
      record { owner = c; sig = signature m.name m.descriptor; static = eqb m.access 9; params = t.params; results = t.results; body = m.body }

  unfoldable pub method_of : ℕ → Member → Method
  method_of c m = typed c m (method_type_or (method_type_at number m.descriptor 0))

  abbrev pub parent_number : Super → ℕ
  parent_number zero' = 0
  parent_number (named t) = number t

  unfoldable pub class_of : ℕ → ClassFile → Class
  class_of c f =
      record { name = f.name; parent = parent_number f.super; fields = map field_of f.fields; methods = map (method_of c) f.methods; pool = f.pool }

  -- the classes from number c on
  unfoldable pub classes_from : ℕ → List ClassFile → List Class
  classes_from c [] = []
  classes_from c (f ∷ fs) = class_of c f ∷ classes_from (suc c) fs

-- `<init>()V`, which has no code
abbrev pub built_in_method : ℕ → Method
built_in_method c = record { owner = c; sig = signature init (40 ∷ 41 ∷ 86 ∷ []); static = false; params = []; results = []; body = none }

unfoldable pub built_ins_from : ℕ → List BuiltIn → List Class
built_ins_from c [] = []
built_ins_from c (b ∷ bs) =
    record { name = b.name; parent = b.parent; fields = []; methods = built_in_method c ∷ []; pool = [] } ∷ built_ins_from (suc c) bs

unfoldable pub program_of : List ClassFile → Program
program_of fs = record { classes = built_ins_from 0 built_ins ++ classes_from (number_in (class_names fs)) first_class fs }

-- ---- what a program has
abbrev pub no_class : Class
no_class = record { name = []; parent = 0; fields = []; methods = []; pool = [] }

abbrev pub no_method : Method
no_method = record { owner = 0; sig = signature [] []; static = false; params = []; results = []; body = none }

abbrev pub no_field : Field
no_field = record { sig = signature [] []; type = dint }

abbrev pub class : Program → ℕ → Class
class P c = get_or P.classes c no_class

abbrev pub method : Program → ℕ → ℕ → Method
method P c m = get_or (class P c).methods m no_method

abbrev pub class_count : Program → ℕ
class_count P = length P.classes

abbrev pub is_constructor : Method → Bool
is_constructor M = is_init M.sig.name

-- c is d, or d is reached from c by at most n parents
unfoldable pub up_to : Program → ℕ → ℕ → ℕ → Bool
up_to P zero c d = eqb c d
up_to P (suc n) c d = cond (eqb c d) true (up_to P n (class P c).parent d)

unfoldable pub below : Program → ℕ → ℕ → Bool
below P c d = up_to P (class_count P) c d

-- ---- members from a class upward
unfoldable pub same_signature : Signature → Signature → Bool
same_signature g h = cond (eq_list g.name h.name) (eq_list g.descriptor h.descriptor) false

unfoldable pub index_of : Signature → List Signature → ℕ
index_of g [] = 0
index_of g (h ∷ hs) = cond (same_signature h g) 0 (suc (index_of g hs))

abbrev pub field_sigs : Class → List Signature
field_sigs C = map (λ (f : Field). f.sig) C.fields

abbrev pub method_sigs : Class → List Signature
method_sigs C = map (λ (m : Method). m.sig) C.methods

-- the class that has it, and its number there
pub data Spot : Type 0 where
  nowhere : Spot
  spot : ℕ → ℕ → Spot

module _ (P : Program) (sigs : Class → List Signature) (g : Signature) where
  -- the first of that name and descriptor from c upward
  unfoldable pub seek : ℕ → ℕ → Spot
  seek zero c = nowhere
  seek (suc n) c =
      cond (ltb (index_of g (sigs (class P c))) (length (sigs (class P c)))) (spot c (index_of g (sigs (class P c))))
      (cond (eqb c 0) nowhere (seek n (class P c).parent))

  unfoldable pub lookup : ℕ → Spot
  lookup c = seek (class_count P) c

-- ---- an object's fields, super's first
abbrev pub own_types : Class → List Desc
own_types C = map (λ (f : Field). f.type) C.fields

unfoldable pub layout_to : Program → ℕ → ℕ → List Desc
layout_to P zero c = []
layout_to P (suc n) c = cond (eqb c 0) [] (layout_to P n (class P c).parent ++ own_types (class P c))

unfoldable pub layout : Program → ℕ → List Desc
layout P c = layout_to P (class_count P) c
