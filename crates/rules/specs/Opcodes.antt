-- The opcode table: for each range of bytes the length, the fixed operands taken and left, and the instruction.
use Rattle.std.specs.Prelude.{ℕ, ◌+◌, ◌-◌, ◌*◌, ◌%◌, ◌^◌, Bool, false, cond, List, [], ◌∷◌, get_or, ltb, leb, eqb}
use Rattle.classfiles.specs.Descriptors.{dint}
use Rattle.reader.specs.Program.{Program, Method, class}
use Rattle.classfiles.specs.Members.{Found, none, once, twice, Body}
use Rattle.rules.specs.Instruction.{Instr, add, sub, mul, shl, shr, ushr, and, or, xor, quotient, remainder, Test, eq, ne, lt, ge, gt, le, nop, aconstnull, pop, dup, dupx1, swap, ineg, arraylength, iaload, aaload, iastore, aastore, athrow, ireturn, areturn, return, iconst, iload, aload, istore, astore, goto, iinc, ibin, idiv, ifint, ificmp, ifacmp, ifnull, getfield, putfield, invokevirtual, invokespecial, invokestatic, newarray, checkcast, instanceof, illegal}
use Rattle.rules.specs.Resolve.{Resolved, resolve, as_number, as_type, as_field, as_method, new_of, array_of, is_static_call, is_virtual_call, is_init_call}

-- what an instruction is made from: its place in the range, its two operand bytes, its offset, and what the pool resolves to
pub record Operands : Type 0 where
  pub program : Program
  pub pool : ℕ → Resolved
  pub nth : ℕ
  pub first : ℕ
  pub second : ℕ
  pub offset : ℕ

-- from, to, length, taken, left
pub data Row : Type 0 where
  row : ℕ → ℕ → ℕ → ℕ → ℕ → (Operands → Instr) → Row

abbrev pub both : Operands → ℕ
both x = x.first * 256 + x.second

-- offsets are signed: one before the code's start becomes one far past its end
abbrev pub target : Operands → ℕ
target x = (x.offset + both x) % 2 ^ 16

-- a number of w bits with its sign, as 32 bits
abbrev pub extend : ℕ → ℕ → ℕ
extend w v = cond (ltb v (2 ^ (w - 1))) v (v + (2 ^ 32 - 2 ^ w))

abbrev pub named : Operands → Resolved
named x = x.pool (both x)

abbrev pub test_of : ℕ → Test
test_of k = get_or (eq ∷ ne ∷ lt ∷ ge ∷ gt ∷ le ∷ []) k eq

abbrev pub minus_one : ℕ
minus_one = 2 ^ 32 - 1

unfoldable pub rows : List Row
rows =
    row 0x00 0x00 1 0 0 (λ x. nop)
    ∷ row 0x01 0x01 1 0 1 (λ x. aconstnull)
    ∷ row 0x02 0x08 1 0 1 (λ x. iconst ((x.nth + minus_one) % 2 ^ 32))
    ∷ row 0x10 0x10 2 0 1 (λ x. iconst (extend 8 x.first))
    ∷ row 0x11 0x11 3 0 1 (λ x. iconst (extend 16 (both x)))
    ∷ row 0x12 0x12 2 0 1 (λ x. as_number iconst (x.pool x.first))
    ∷ row 0x15 0x15 2 0 1 (λ x. iload x.first)
    ∷ row 0x19 0x19 2 0 1 (λ x. aload x.first)
    ∷ row 0x1a 0x1d 1 0 1 (λ x. iload x.nth)
    ∷ row 0x2a 0x2d 1 0 1 (λ x. aload x.nth)
    ∷ row 0x2e 0x2e 1 2 1 (λ x. iaload)
    ∷ row 0x32 0x32 1 2 1 (λ x. aaload)
    ∷ row 0x36 0x36 2 1 0 (λ x. istore x.first)
    ∷ row 0x3a 0x3a 2 1 0 (λ x. astore x.first)
    ∷ row 0x3b 0x3e 1 1 0 (λ x. istore x.nth)
    ∷ row 0x4b 0x4e 1 1 0 (λ x. astore x.nth)
    ∷ row 0x4f 0x4f 1 3 0 (λ x. iastore)
    ∷ row 0x53 0x53 1 3 0 (λ x. aastore)
    ∷ row 0x57 0x57 1 1 0 (λ x. pop)
    ∷ row 0x59 0x59 1 1 2 (λ x. dup)
    ∷ row 0x5a 0x5a 1 2 3 (λ x. dupx1)
    ∷ row 0x5f 0x5f 1 2 2 (λ x. swap)
    ∷ row 0x60 0x60 1 2 1 (λ x. ibin add)
    ∷ row 0x64 0x64 1 2 1 (λ x. ibin sub)
    ∷ row 0x68 0x68 1 2 1 (λ x. ibin mul)
    ∷ row 0x6c 0x6c 1 2 1 (λ x. idiv quotient)
    ∷ row 0x70 0x70 1 2 1 (λ x. idiv remainder)
    ∷ row 0x74 0x74 1 1 1 (λ x. ineg)
    ∷ row 0x78 0x78 1 2 1 (λ x. ibin shl)
    ∷ row 0x7a 0x7a 1 2 1 (λ x. ibin shr)
    ∷ row 0x7c 0x7c 1 2 1 (λ x. ibin ushr)
    ∷ row 0x7e 0x7e 1 2 1 (λ x. ibin and)
    ∷ row 0x80 0x80 1 2 1 (λ x. ibin or)
    ∷ row 0x82 0x82 1 2 1 (λ x. ibin xor)
    ∷ row 0x84 0x84 3 0 0 (λ x. iinc x.first (extend 8 x.second))
    ∷ row 0x99 0x9e 3 1 0 (λ x. ifint (test_of x.nth) (target x))
    ∷ row 0x9f 0xa4 3 2 0 (λ x. ificmp (test_of x.nth) (target x))
    ∷ row 0xa5 0xa6 3 2 0 (λ x. ifacmp (eqb x.nth 0) (target x))
    ∷ row 0xa7 0xa7 3 0 0 (λ x. goto (target x))
    ∷ row 0xac 0xac 1 1 0 (λ x. ireturn)
    ∷ row 0xb0 0xb0 1 1 0 (λ x. areturn)
    ∷ row 0xb1 0xb1 1 0 0 (λ x. return)
    ∷ row 0xb4 0xb4 3 1 1 (λ x. as_field getfield (named x))
    ∷ row 0xb5 0xb5 3 2 0 (λ x. as_field putfield (named x))
    ∷ row 0xb6 0xb6 3 1 0 (λ x. as_method (is_virtual_call x.program) invokevirtual (named x))
    ∷ row 0xb7 0xb7 3 1 0 (λ x. as_method (is_init_call x.program) invokespecial (named x))
    ∷ row 0xb8 0xb8 3 0 0 (λ x. as_method (is_static_call x.program) invokestatic (named x))
    ∷ row 0xbb 0xbb 3 0 1 (λ x. as_type new_of (named x))
    ∷ row 0xbc 0xbc 2 1 1 (λ x. cond (eqb x.first 10) (newarray dint) illegal)
    ∷ row 0xbd 0xbd 3 1 1 (λ x. as_type array_of (named x))
    ∷ row 0xbe 0xbe 1 1 1 (λ x. arraylength)
    ∷ row 0xbf 0xbf 1 1 0 (λ x. athrow)
    ∷ row 0xc0 0xc0 3 1 1 (λ x. as_type checkcast (named x))
    ∷ row 0xc1 0xc1 3 1 1 (λ x. as_type instanceof (named x))
    ∷ row 0xc6 0xc7 3 1 0 (λ x. ifnull (eqb x.nth 0) (target x))
    ∷ []

abbrev pub within : ℕ → ℕ → ℕ → Bool
within a b op = cond (leb a op) (leb op b) false

-- the row of an opcode; one that is not listed has length 0
unfoldable pub row_in : List Row → ℕ → Row
row_in [] op = row op op 0 0 0 (λ x. illegal)
row_in (row a b n t l f ∷ rs) op = cond (within a b op) (row a b n t l f) (row_in rs op)

unfoldable pub row_of : ℕ → Row
row_of op = row_in rows op

abbrev pub length_of : Row → ℕ
length_of (row a b n t l f) = n

abbrev pub taken_of : Row → ℕ
taken_of (row a b n t l f) = t

abbrev pub left_of : Row → ℕ
left_of (row a b n t l f) = l

-- ---- a method's code
abbrev pub no_body : Body
no_body = record { max_stack = 0; max_locals = 0; code = []; table = []; frames = none }

abbrev pub only_body : Found Body → Body
only_body none = no_body
only_body (once b) = b
only_body twice = no_body

abbrev pub body : Method → Body
body M = only_body M.body

abbrev pub code_of : Method → List ℕ
code_of M = (body M).code

abbrev pub make : Program → Method → ℕ → ℕ → Row → Instr
make P M o op (row a b n t l f) =
    f (record { program = P; pool = resolve P (class P M.owner).pool; nth = op - a; first = get_or (code_of M) (o + 1) 0; second = get_or (code_of M) (o + 2) 0; offset = o })

-- the instruction at an offset, and its length
unfoldable pub instruction : Program → Method → ℕ → Instr
instruction P M o = make P M o (get_or (code_of M) o 0) (row_of (get_or (code_of M) o 0))

unfoldable pub size_at : List ℕ → ℕ → ℕ
size_at code o = length_of (row_of (get_or code o 0))
