-- A branch leads to an offset of two bytes. Assumes nothing.
use Rattle.std.specs.Prelude.{ℕ, ◌+◌, ◌-◌, ◌*◌, ◌%◌, ◌^◌, ◌<◌, ◌≡◌, refl, Bool, cond, List, [], ◌∷◌, get_or, eqb, ltb}
use Rattle.std.proofs.Common.{arith, true, false}
use Rattle.classfiles.specs.Limits.{max_dimensions}
use Rattle.classfiles.specs.Descriptors.{Ref, cls, arr, dint, dref, dimensions}
use Rattle.reader.specs.Program.{Program, Method, class}
use Rattle.rules.specs.Instruction.{Instr, FieldRef, MethodRef, nop, aconstnull, pop, dup, dupx1, swap, ineg, arraylength, iaload, aaload, iastore, aastore, athrow, ireturn, areturn, return, iconst, iload, aload, istore, astore, goto, new, iinc, ibin, idiv, ifint, ificmp, ifacmp, ifnull, getfield, putfield, invokevirtual, invokespecial, invokestatic, newarray, checkcast, instanceof, illegal, unresolved}
use Rattle.rules.specs.Resolve.{Resolved, nothing, number, type, field, method_of, resolve, as_number, as_type, as_field, as_method, new_of, array_of, is_static_call, is_virtual_call, is_init_call}
use Rattle.rules.specs.Opcodes.{Operands, Row, row, rows, within, row_in, row_of, length_of, code_of, make, instruction, size_at}

-- an instruction, if it branches
abbrev pub LowOf : Program → ℕ → Instr → Type 0
LowOf P n nop = Unit {0}
LowOf P n aconstnull = Unit {0}
LowOf P n pop = Unit {0}
LowOf P n dup = Unit {0}
LowOf P n dupx1 = Unit {0}
LowOf P n swap = Unit {0}
LowOf P n ineg = Unit {0}
LowOf P n arraylength = Unit {0}
LowOf P n iaload = Unit {0}
LowOf P n aaload = Unit {0}
LowOf P n iastore = Unit {0}
LowOf P n aastore = Unit {0}
LowOf P n athrow = Unit {0}
LowOf P n ireturn = Unit {0}
LowOf P n areturn = Unit {0}
LowOf P n return = Unit {0}
LowOf P n (iconst v) = Unit {0}
LowOf P n (iload j) = Unit {0}
LowOf P n (aload j) = Unit {0}
LowOf P n (istore j) = Unit {0}
LowOf P n (astore j) = Unit {0}
LowOf P n (goto t) = t < 65536
LowOf P n (new c) = Unit {0}
LowOf P n (iinc j k) = Unit {0}
LowOf P n (ibin f) = Unit {0}
LowOf P n (idiv f) = Unit {0}
LowOf P n (ifint f t) = t < 65536
LowOf P n (ificmp f t) = t < 65536
LowOf P n (ifacmp b t) = t < 65536
LowOf P n (ifnull b t) = t < 65536
LowOf P n (getfield f) = Unit {0}
LowOf P n (putfield f) = Unit {0}
LowOf P n (invokevirtual m) = Unit {0}
LowOf P n (invokespecial m) = Unit {0}
LowOf P n (invokestatic m) = Unit {0}
LowOf P n (newarray d) = Unit {0}
LowOf P n (checkcast r) = Unit {0}
LowOf P n (instanceof r) = Unit {0}
LowOf P n illegal = Unit {0}
LowOf P n unresolved = Unit {0}

module _ (P : Program) (n : ℕ) where
  number-then : (q : Resolved) → LowOf P n (as_number iconst q)
  number-then nothing = tt
  number-then (number v) = tt
  number-then (type r) = tt
  number-then (field f) = tt
  number-then (method_of m) = tt

  type-then : (k : Ref → Instr) → ((r : Ref) → LowOf P n (k r)) → (q : Resolved) → LowOf P n (as_type k q)
  type-then k h nothing = tt
  type-then k h (number v) = tt
  type-then k h (type r) = h r
  type-then k h (field f) = tt
  type-then k h (method_of m) = tt

  field-then : (k : FieldRef → Instr) → ((f : FieldRef) → LowOf P n (k f)) → (q : Resolved) → LowOf P n (as_field k q)
  field-then k h nothing = tt
  field-then k h (number v) = tt
  field-then k h (type r) = tt
  field-then k h (field f) = h f
  field-then k h (method_of m) = tt

  method-then : (fit : MethodRef → Bool) (k : MethodRef → Instr) → ((m : MethodRef) → fit m ≡ true → LowOf P n (k m)) → (q : Resolved) → LowOf P n (as_method fit k q)
  method-then fit k h nothing = tt
  method-then fit k h (number v) = tt
  method-then fit k h (type r) = tt
  method-then fit k h (field f) = tt
  method-then fit k h (method_of m) = go (fit m) refl
    where
      go : (b : Bool) → fit m ≡ b → LowOf P n (cond b (k m) unresolved)
      go true e = h m e
      go false e = tt

  new_then : (r : Ref) → LowOf P n (new_of r)
  new_then (cls c) = tt
  new_then (arr d) = tt

  array_then : (r : Ref) → LowOf P n (array_of r)
  array_then r = go (ltb (dimensions r) max_dimensions)
    where
      go : (b : Bool) → LowOf P n (cond b (newarray (dref r)) unresolved)
      go true = tt
      go false = tt

  ints_then : (b : Bool) → LowOf P n (cond b (newarray dint) illegal)
  ints_then true = tt
  ints_then false = tt

module _ (P : Program) where
  -- each row of the table
  data RowsOk : List Row → Type 0 where
    rnil : RowsOk []
    rcons : {a b n t l : ℕ} {f : Operands → Instr} {rs : List Row}
        → ((pool : ℕ → Resolved) (i a b o : ℕ) → LowOf P n (f (record { program = P; pool = pool; nth = i; first = a; second = b; offset = o })))
        → RowsOk rs → RowsOk (row a b n t l f ∷ rs)

  row_ok : {rs : List Row} → RowsOk rs → (M : Method) (o op : ℕ) → LowOf P (length_of (row_in rs op)) (make P M o op (row_in rs op))
  unfolding row_in
  row_ok rnil M o op = tt
  row_ok (rcons {a} {b} {n} {t} {l} {f} {rs} x xs) M o op = go (row_ok xs M o op) (within a b op)
    where
      go : LowOf P (length_of (row_in rs op)) (make P M o op (row_in rs op)) → (c : Bool) → LowOf P (length_of (cond c (row a b n t l f) (row_in rs op))) (make P M o op (cond c (row a b n t l f) (row_in rs op)))
      go ih true = x (resolve P (class P M.owner).pool) (op - a) (get_or (code_of M) (o + 1) 0) (get_or (code_of M) (o + 2) 0) o
      go ih false = ih

  plain : (pool : ℕ → Resolved) (i a b o : ℕ) → Unit {0}
  plain pool i a b o = tt

  named : {Q : Resolved → Type 0} → ((q : Resolved) → Q q) → (pool : ℕ → Resolved) (i a b o : ℕ) → Q (pool (a * 256 + b))
  named k pool i a b o = k (pool (a * 256 + b))

  leads : (pool : ℕ → Resolved) (i a b o : ℕ) → (o + (a * 256 + b)) % 2 ^ 16 < 65536
  leads pool i a b o = omega arith

  -- in the table's order
  rows_ok : RowsOk rows
  unfolding rows
  rows_ok = (rcons plain (rcons plain (rcons plain (rcons plain (rcons plain (rcons (λ pool i a b o. number-then P 2 (pool a)) (rcons plain (rcons plain (rcons plain (rcons plain (rcons plain (rcons plain (rcons plain (rcons plain (rcons plain (rcons plain (rcons plain (rcons plain (rcons plain (rcons plain (rcons plain (rcons plain (rcons plain (rcons plain (rcons plain (rcons plain (rcons plain (rcons plain (rcons plain (rcons plain (rcons plain (rcons plain (rcons plain (rcons plain (rcons plain (rcons leads (rcons leads (rcons leads (rcons leads (rcons plain (rcons plain (rcons plain (rcons (named (field-then P 3 getfield (λ f. tt))) (rcons (named (field-then P 3 putfield (λ f. tt))) (rcons (named (method-then P 3 (is_virtual_call P) invokevirtual (λ m t. tt))) (rcons (named (method-then P 3 (is_init_call P) invokespecial (λ m t. tt))) (rcons (named (method-then P 3 (is_static_call P) invokestatic (λ m t. tt))) (rcons (named (type-then P 3 new_of (new_then P 3))) (rcons (λ pool i a b o. ints_then P 2 (eqb a 10)) (rcons (named (type-then P 3 array_of (array_then P 3))) (rcons plain (rcons plain (rcons (named (type-then P 3 checkcast (λ r. tt))) (rcons (named (type-then P 3 instanceof (λ r. tt))) (rcons leads rnil)))))))))))))))))))))))))))))))))))))))))))))))))))))))

  pub low_at : (M : Method) (o : ℕ) → LowOf P (size_at (code_of M) o) (instruction P M o)
  unfolding instruction size_at row_of
  low_at M o = row_ok rows_ok M o (get_or (code_of M) o 0)
