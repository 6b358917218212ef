-- Types as codes of one byte, by the verifier's bases; 248 is int's code, and that of no class.
use Rattle.std.specs.Prelude.{ℕ, ◌-◌, ◌/◌, ◌%◌, cond, eqb}
use Rattle.classfiles.specs.Descriptors.{Ref, cls, arr}
use Rattle.rules.specs.TypeWords.{int_base, nest}

abbrev pub code_base : ℕ → ℕ
code_base b = cond (eqb b 31) int_base b

-- the code of a class or an array
unfoldable pub code_ref : ℕ → Ref
code_ref k = cond (eqb (k % 8) 0) (cls (k / 8)) (arr (nest (code_base (k / 8)) (k % 8 - 1)))
