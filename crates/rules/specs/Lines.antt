-- A method's instructions in order.
use Rattle.std.specs.Prelude.{ℕ, zero, suc, ◌+◌, Bool, true, false, cond, List, [], ◌∷◌, length, ltb, eqb}
use Rattle.reader.specs.Program.{Program, Method}
use Rattle.rules.specs.Instruction.{Instr, new_class, is_new}
use Rattle.rules.specs.Opcodes.{code_of, instruction, size_at}

-- where it stands, what it is, where the next one would stand
pub data Line : Type 0 where
  line : ℕ → Instr → ℕ → Line

-- a line whose length is 0 ends the scan: its opcode is not listed
unfoldable pub lines_from : Program → Method → ℕ → ℕ → List Line
lines_from P M zero o = []
lines_from P M (suc n) o =
    cond (ltb o (length (code_of M)))
    (line o (instruction P M o) (o + size_at (code_of M) o) ∷ cond (eqb (size_at (code_of M) o) 0) [] (lines_from P M n (o + size_at (code_of M) o))) []

unfoldable pub lines : Program → Method → List Line
lines P M = lines_from P M (length (code_of M)) 0

unfoldable pub is_start : List Line → ℕ → Bool
is_start [] t = false
is_start (line o i n ∷ ls) t = cond (eqb o t) true (is_start ls t)

-- a new stands at L
unfoldable pub is_new_at : List Line → ℕ → Bool
is_new_at [] L = false
is_new_at (line o i n ∷ ls) L = cond (eqb o L) (is_new i) (is_new_at ls L)

-- the class that the new at L names
unfoldable pub new_class_at : Program → Method → ℕ → ℕ
new_class_at P M L = new_class (instruction P M L)
