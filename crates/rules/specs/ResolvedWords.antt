-- What a word of the resolved table stands for: its kind is w % 8, 1 a number, 2 a type, 3 a field, 4 a method; any other is nothing.
use Rattle.std.specs.Prelude.{ℕ, ◌+◌, ◌*◌, ◌/◌, ◌%◌, ◌≡◌, List, Bool, cond, eqb, ltb}
use Rattle.kit.specs.Words.{word}
use Rattle.texts.specs.Reading.{u4_at}
use Rattle.reader.specs.Program.{Program, is_constructor}
use Rattle.reader.specs.TypeCodes.{desc_of as code_desc}
use Rattle.rules.specs.Instruction.{FieldRef, MethodRef}
use Rattle.rules.specs.TypeCodes.{code_ref}
use Rattle.rules.specs.Resolve.{Resolved, nothing, number, type, field, method_of, found}

-- a field's: type code (256), named (32), owner (32), slot (1024)
abbrev pub field_in : ℕ → FieldRef
field_in w = record { named = w / 2048 % 32; owner = w / 65536 % 32; slot = w / 2097152 % 1024; type = code_desc (w / 8 % 256) }

-- a method's: named (32), owner (32), index (64), then 1 for static, 1 for a constructor
abbrev pub method_in : ℕ → MethodRef
method_in w = record { named = w / 8 % 32; owner = w / 256 % 32; index = w / 8192 % 64 }

abbrev pub static_bit : ℕ → Bool
static_bit w = eqb (w / 524288 % 2) 1

abbrev pub init_bit : ℕ → Bool
init_bit w = eqb (w / 1048576 % 2) 1

-- v is the number that it stands for if it is one
unfoldable pub resolved_as : ℕ → ℕ → Resolved
resolved_as v w =
    cond (eqb (w % 8) 1) (number v)
    (cond (eqb (w % 8) 2) (type (code_ref (w / 8 % 256)))
    (cond (eqb (w % 8) 3) (field (field_in w)) (cond (eqb (w % 8) 4) (method_of (method_in w)) nothing)))

-- a number is kept as where its tag stands
abbrev pub resolved_of : List ℕ → ℕ → Resolved
resolved_of s w = resolved_as (u4_at s (w / 8 + 1)) w

-- ---- the table: 1024 words for each of the bundle's 16 classes
abbrev pub resolved_word : ℕ → ℕ → ℕ
resolved_word c i = 25760 + 1024 * c + i

unfoldable pub word_of : List ℕ → ℕ → ℕ → ℕ
word_of t c i = cond (ltb c 16) (cond (ltb i 1024) (word t (resolved_word c i)) 0) 0

-- what pool entry i of bundle class c names
abbrev pub resolved_in : List ℕ → List ℕ → ℕ → ℕ → Resolved
resolved_in s t c i = resolved_of s (word_of t c i)

-- a method's flags are those of the method that it names
pub record Flagged (P : Program) (w : ℕ) : Type 0 where
  pub init : w % 8 ≡ 4 → is_constructor (found P (method_in w)) ≡ init_bit w
  pub static : w % 8 ≡ 4 → (found P (method_in w)).static ≡ static_bit w
