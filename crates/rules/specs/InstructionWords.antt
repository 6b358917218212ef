-- What the code's instructions stand for.
use Rattle.std.specs.Prelude.{ℕ, ◌/◌, ◌%◌, cond, [], ◌∷◌, get_or, eqb}
use Rattle.classfiles.specs.Descriptors.{Ref, cls, arr, Desc, dint, dref}
use Rattle.rules.specs.Instruction.{Instr, FieldRef, MethodRef, Op, add, sub, mul, shl, shr, ushr, and, or, xor, Division, quotient, remainder, Test, eq, ne, lt, ge, gt, le, nop, aconstnull, pop, dup, dupx1, swap, ineg, arraylength, iaload, aaload, iastore, aastore, athrow, ireturn, areturn, return, iconst, iload, aload, istore, astore, goto, new, iinc, ibin, idiv, ifint, ificmp, ifacmp, ifnull, getfield, putfield, invokevirtual, invokespecial, invokestatic, newarray, checkcast, instanceof, illegal, unresolved}
use Rattle.rules.specs.TypeWords.{nest}
use Rattle.rules.specs.declared.instruction.Field.{Field}
use Rattle.rules.specs.declared.instruction.Callee.{Callee}
use Rattle.rules.specs.declared.instruction.Op as operation
use Rattle.rules.specs.declared.instruction.Op.TheVariants.{Add, Sub, Mul, Shl, Shr, Ushr, And, Or, Xor}
use Rattle.rules.specs.declared.instruction.Division as parts
use Rattle.rules.specs.declared.instruction.Division.TheVariants.{Quotient, Remainder}
use Rattle.rules.specs.declared.instruction.Test as comparison
use Rattle.rules.specs.declared.instruction.Test.TheVariants.{Eq, Ne, Lt, Ge, Gt, Le}
use Rattle.rules.specs.declared.instruction.Plain.{Plain}
use Rattle.rules.specs.declared.instruction.Plain.TheVariants.{Nop, Aconstnull, Pop, Ineg, Iaload, Iastore, Aastore, Iconst, Ibin, Idiv, Newarray, Checkcast, Instanceof, Getfield, Putfield}
use Rattle.rules.specs.declared.instruction.Branch.{Branch}
use Rattle.rules.specs.declared.instruction.Branch.TheVariants.{Goto, Ifint, Ificmp, Ifacmp, Ifnull}
use Rattle.rules.specs.declared.instruction.Local.{Local}
use Rattle.rules.specs.declared.instruction.Local.TheVariants.{Iload, Aload, Istore, Astore, Iinc}
use Rattle.rules.specs.declared.instruction.Stack.{Stack}
use Rattle.rules.specs.declared.instruction.Stack.TheVariants.{Dup, Dupx1, Swap, Arraylength, Aaload}
use Rattle.rules.specs.declared.instruction.Leave.{Leave}
use Rattle.rules.specs.declared.instruction.Leave.TheVariants.{Athrow, Ireturn, Areturn, Return}
use Rattle.rules.specs.declared.instruction.Call.{Call}
use Rattle.rules.specs.declared.instruction.Call.TheVariants.{Virtual, Special, Static}
use Rattle.rules.specs.declared.instruction.Instr as code
use Rattle.rules.specs.declared.instruction.Instr.TheVariants.{Simple, Jump, OnLocal, OnStack, Leaving, New, Calling, Illegal, Unresolved}

-- a word as a type that is written down: an array, or a class; or int
abbrev pub ref_of : ℕ → Ref
ref_of w = cond (eqb (w % 8) 4) (arr (nest (w / 64) (w / 8 % 8))) (cls (w / 64))

abbrev pub desc_of : ℕ → Desc
desc_of w = cond (eqb (w % 8) 1) dint (dref (ref_of w))

abbrev pub element_of : ℕ → Desc
element_of w = nest (w / 64) (w / 8 % 8)

abbrev pub field_of : Field → FieldRef
field_of f = record { named = f.named; owner = f.owner; slot = f.slot; type = desc_of f.of.word }

abbrev pub callee_of : Callee → MethodRef
callee_of m = record { named = m.named; owner = m.owner; index = m.index }

-- an operation or a division by its number
abbrev pub op_by : ℕ → Op
op_by k = get_or (add ∷ sub ∷ mul ∷ shl ∷ shr ∷ ushr ∷ and ∷ or ∷ xor ∷ []) k add

abbrev pub division_by : ℕ → Division
division_by k = cond (eqb k 0) quotient remainder

abbrev pub op_of : operation.Op → Op
op_of Add = add
op_of Sub = sub
op_of Mul = mul
op_of Shl = shl
op_of Shr = shr
op_of Ushr = ushr
op_of And = and
op_of Or = or
op_of Xor = xor

abbrev pub division_of : parts.Division → Division
division_of Quotient = quotient
division_of Remainder = remainder

abbrev pub asked_of : comparison.Test → Test
asked_of Eq = eq
asked_of Ne = ne
asked_of Lt = lt
asked_of Ge = ge
asked_of Gt = gt
asked_of Le = le

abbrev pub plain_of : Plain → Instr
plain_of Nop = nop
plain_of Aconstnull = aconstnull
plain_of Pop = pop
plain_of Ineg = ineg
plain_of Iaload = iaload
plain_of Iastore = iastore
plain_of Aastore = aastore
plain_of (Iconst v) = iconst v
plain_of (Ibin f) = ibin (op_of f)
plain_of (Idiv f) = idiv (division_of f)
plain_of (Newarray t) = newarray (element_of t.word)
plain_of (Checkcast t) = checkcast (ref_of t.word)
plain_of (Instanceof t) = instanceof (ref_of t.word)
plain_of (Getfield f) = getfield (field_of f)
plain_of (Putfield f) = putfield (field_of f)

abbrev pub branch_of : Branch → Instr
branch_of (Goto t) = goto t
branch_of (Ifint f t) = ifint (asked_of f) t
branch_of (Ificmp f t) = ificmp (asked_of f) t
branch_of (Ifacmp b t) = ifacmp b t
branch_of (Ifnull b t) = ifnull b t

abbrev pub local_of : Local → Instr
local_of (Iload j) = iload j
local_of (Aload j) = aload j
local_of (Istore j) = istore j
local_of (Astore j) = astore j
local_of (Iinc j k) = iinc j k

abbrev pub stack_of : Stack → Instr
stack_of Dup = dup
stack_of Dupx1 = dupx1
stack_of Swap = swap
stack_of Arraylength = arraylength
stack_of Aaload = aaload

abbrev pub leave_of : Leave → Instr
leave_of Athrow = athrow
leave_of Ireturn = ireturn
leave_of Areturn = areturn
leave_of Return = return

abbrev pub call_of : Call → Instr
call_of (Virtual m) = invokevirtual (callee_of m)
call_of (Special m) = invokespecial (callee_of m)
call_of (Static m) = invokestatic (callee_of m)

abbrev pub instr_of : code.Instr → Instr
instr_of (Simple i) = plain_of i
instr_of (Jump i) = branch_of i
instr_of (OnLocal i) = local_of i
instr_of (OnStack i) = stack_of i
instr_of (Leaving i) = leave_of i
instr_of (New c) = new c
instr_of (Calling i) = call_of i
instr_of Illegal = illegal
instr_of Unresolved = unresolved
