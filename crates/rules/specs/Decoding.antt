-- Instructions by their bytes: what a decoder answers for an opcode, its two operand bytes and its offset.
use Rattle.std.specs.Prelude.{ℕ, ◌+◌, ◌-◌, ◌≡◌, Bool, List, get_or}
use Rattle.reader.specs.Program.{Program}
use Rattle.rules.specs.Instruction.{Instr, MethodRef}
use Rattle.rules.specs.Resolve.{Resolved, as_method}
use Rattle.rules.specs.Opcodes.{Row, row, row_of}
use Rattle.rules.specs.InstructionWords.{instr_of}
use Rattle.rules.specs.ResolvedWords.{resolved_as, resolved_in, word_of, Flagged}
use Rattle.rules.specs.declared.instruction.Instr as code
use Rattle.rules.specs.declared.decode.Bytes.{Bytes}

-- what a row makes of an opcode, its operand bytes and its offset
abbrev pub made_by : Program → (ℕ → Resolved) → ℕ → ℕ → ℕ → ℕ → Row → Instr
made_by P pool op a b o (row f t n k l make) =
    make (record { program = P; pool = pool; nth = op - f; first = a; second = b; offset = o })

unfoldable pub made : Program → (ℕ → Resolved) → ℕ → ℕ → ℕ → ℕ → Instr
made P pool op a b o = made_by P pool op a b o (row_of op)

abbrev pub made_of : Program → (ℕ → Resolved) → Bytes → Instr
made_of P pool x = made P pool x.op x.first x.second x.at

-- it is made of what a resolved word is; a call is, by a test of the method
pub record Refers (make : Resolved → Instr) (w : ℕ) (r : code.Instr) : Type 0 where
  pub is : (v : ℕ) → instr_of r ≡ make (resolved_as v w)

pub record CallsBy (fit : Program → MethodRef → Bool) (make : MethodRef → Instr) (w : ℕ) (r : code.Instr) : Type 0 where
  pub is : (P : Program) (v : ℕ) → Flagged P w → instr_of r ≡ as_method (fit P) make (resolved_as v w)

-- it names nothing of the pool
pub record Made (x : Bytes) (r : code.Instr) : Type 0 where
  pub is : (P : Program) (pool : ℕ → Resolved) → instr_of r ≡ made_of P pool x

-- it names what entry i is, of which w is the word
pub record Named (x : Bytes) (i w : ℕ) (r : code.Instr) : Type 0 where
  pub is : (P : Program) (pool : ℕ → Resolved) (v : ℕ) → pool i ≡ resolved_as v w → Flagged P w → instr_of r ≡ made_of P pool x

-- it is bundle class c's
pub record Decoded (s t : List ℕ) (c : ℕ) (x : Bytes) (r : code.Instr) : Type 0 where
  pub is : (P : Program) → ((i : ℕ) → Flagged P (word_of t c i)) → instr_of r ≡ made_of P (resolved_in s t c) x

-- it is that at o of the code
pub record DecodedAt (s t : List ℕ) (c : ℕ) (bytes : List ℕ) (o : ℕ) (r : code.Instr) : Type 0 where
  pub is : (P : Program) → ((i : ℕ) → Flagged P (word_of t c i)) → instr_of r ≡ made P (resolved_in s t c) (get_or bytes o 0) (get_or bytes (o + 1) 0) (get_or bytes (o + 2) 0) o
