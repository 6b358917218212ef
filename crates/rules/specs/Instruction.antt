-- Instructions by their forms: operands in, names resolved to numbers, targets as offsets.
use Rattle.std.specs.Prelude.{ℕ, Bool, true, false, cond, List, [], ◌∷◌, get_or, ltb}
use Rattle.classfiles.specs.Descriptors.{Ref, Desc}

-- a field found from the class that the reference names: its place among an object's fields, and its type
pub record FieldRef : Type 0 where
  pub named : ℕ
  pub owner : ℕ
  pub slot : ℕ
  pub type : Desc

-- a method found from the class that the reference names
pub record MethodRef : Type 0 where
  pub named : ℕ
  pub owner : ℕ
  pub index : ℕ

pub data Op : Type 0 where
  add sub mul shl shr ushr and or xor : Op

pub data Division : Type 0 where
  quotient remainder : Division

pub data Test : Type 0 where
  eq ne lt ge gt le : Test

pub data Instr : Type 0 where
  nop aconstnull pop dup dupx1 swap ineg arraylength iaload aaload iastore aastore athrow ireturn areturn return : Instr
  iconst iload aload istore astore goto new : ℕ → Instr
  iinc : ℕ → ℕ → Instr
  ibin : Op → Instr
  idiv : Division → Instr
  ifint ificmp : Test → ℕ → Instr
  -- the branch is taken where they are equal, or where they are not
  ifacmp ifnull : Bool → ℕ → Instr
  getfield putfield : FieldRef → Instr
  invokevirtual invokespecial invokestatic : MethodRef → Instr
  newarray : Desc → Instr
  checkcast instanceof : Ref → Instr
  -- an opcode that is not listed or a bad array code (11); a reference that names nothing fit (13)
  illegal unresolved : Instr

-- what is asked of an instruction's form alone: whether control may fall to the next one, where else it may go, the local
-- and the new's class that it names (none or one), whether it is listed and well formed, whether what it names was found
pub record Traits : Type 0 where
  pub falls : Bool
  pub targets : List ℕ
  pub locals : List ℕ
  pub makes : List ℕ
  pub legal : Bool
  pub resolved : Bool

abbrev pub going : Bool → List ℕ → Traits
going f ts = record { falls = f; targets = ts; locals = []; makes = []; legal = true; resolved = true }

abbrev pub ordinary : Traits
ordinary = going true []

abbrev pub on_local : ℕ → Traits
on_local j = record { falls = true; targets = []; locals = j ∷ []; makes = []; legal = true; resolved = true }

abbrev pub making : ℕ → Traits
making c = record { falls = true; targets = []; locals = []; makes = c ∷ []; legal = true; resolved = true }

abbrev pub broken : Bool → Bool → Traits
broken a b = record { falls = true; targets = []; locals = []; makes = []; legal = a; resolved = b }

abbrev pub traits : Instr → Traits
traits nop = ordinary
traits aconstnull = ordinary
traits pop = ordinary
traits dup = ordinary
traits dupx1 = ordinary
traits swap = ordinary
traits ineg = ordinary
traits arraylength = ordinary
traits iaload = ordinary
traits aaload = ordinary
traits iastore = ordinary
traits aastore = ordinary
traits athrow = going false []
traits ireturn = going false []
traits areturn = going false []
traits return = going false []
traits (iconst v) = ordinary
traits (iload j) = on_local j
traits (aload j) = on_local j
traits (istore j) = on_local j
traits (astore j) = on_local j
traits (goto t) = going false (t ∷ [])
traits (new c) = making c
traits (iinc j k) = on_local j
traits (ibin f) = ordinary
traits (idiv f) = ordinary
traits (ifint f t) = going true (t ∷ [])
traits (ificmp f t) = going true (t ∷ [])
traits (ifacmp b t) = going true (t ∷ [])
traits (ifnull b t) = going true (t ∷ [])
traits (getfield f) = ordinary
traits (putfield f) = ordinary
traits (invokevirtual m) = ordinary
traits (invokespecial m) = ordinary
traits (invokestatic m) = ordinary
traits (newarray d) = ordinary
traits (checkcast r) = ordinary
traits (instanceof r) = ordinary
traits illegal = broken false true
traits unresolved = broken true false

abbrev pub falls : Instr → Bool
falls i = (traits i).falls

abbrev pub targets : Instr → List ℕ
targets i = (traits i).targets

abbrev pub resolved : Instr → Bool
resolved i = (traits i).resolved

abbrev pub all_below : ℕ → List ℕ → Bool
all_below n [] = true
all_below n (j ∷ js) = cond (ltb j n) (all_below n js) false

-- well formed, and its local below max_locals
abbrev pub form_ok : ℕ → Instr → Bool
form_ok n i = cond (traits i).legal (all_below n (traits i).locals) false

abbrev pub is_some : List ℕ → Bool
is_some [] = false
is_some (c ∷ cs) = true

abbrev pub is_new : Instr → Bool
is_new i = is_some (traits i).makes

-- the class that a new names, 0 for any other
abbrev pub new_class : Instr → ℕ
new_class i = get_or (traits i).makes 0 0
