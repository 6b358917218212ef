-- The opcode table's counts are the rules': shown once over all rows.
use Rattle.std.specs.Prelude.{ℕ, ◌+◌, ◌%◌, ◌^◌, ◌≤◌, ◌≡◌, refl, Bool, true, false, cond, List, [], ◌∷◌, length, drop, ltb, eqb}
use Rattle.std.proofs.Common.{arith, length-drop}
use Rattle.kit.specs.Bools.{not_so}
use Rattle.classfiles.specs.Limits.{max_dimensions}
use Rattle.classfiles.specs.Descriptors.{Ref, cls, arr, dint, dref, dimensions}
use Rattle.reader.specs.Program.{Program, Method}
use Rattle.rules.specs.Instruction.{Instr, MethodRef, falls, add, sub, mul, shl, shr, ushr, and, or, xor, quotient, remainder, nop, aconstnull, pop, dup, dupx1, swap, ineg, arraylength, iaload, aaload, iastore, aastore, athrow, ireturn, areturn, return, iload, aload, istore, astore, goto, iinc, ibin, idiv, ifint, ificmp, ifacmp, ifnull, iconst, getfield, putfield, new, newarray, checkcast, instanceof, invokevirtual, invokespecial, invokestatic, illegal, unresolved}
use Rattle.rules.specs.Resolve.{Resolved, nothing, number, type, field, method_of, as_number, as_type, as_field, as_method, new_of, array_of, is_virtual_call, is_init_call, is_static_call}
use Rattle.rules.specs.Opcodes.{Operands, Row, row, rows, named, both, target, extend, test_of, minus_one}
use Rattle.rules.specs.Types.{Ty}
use Rattle.rules.specs.States.{state, stack}
use Rattle.rules.specs.Rule.{rule}

-- a form takes t operands in every state, and where control goes on it has left l in their place
abbrev Moves : ℕ → ℕ → Instr → Type 0
Moves t l i =
    (P : Program) (M : Method) (o : ℕ) (g : Bool) (ls s : List Ty)
    → (length (rule P M o i (state g ls s)).takes ≡ t)
    × (t ≤ length s → falls i ≡ true → length (stack (rule P M o i (state g ls s)).after) + t ≡ length s + l)

-- calls count by the descriptor; what is no instruction, 11 or 13, counts nothing
pub data Counted (t l : ℕ) : Instr → Type 0 where
  moves : (i : Instr) → Moves t l i → Counted t l i
  virtual : {m : MethodRef} → Counted t l (invokevirtual m)
  special : {m : MethodRef} → Counted t l (invokespecial m)
  static : {m : MethodRef} → Counted t l (invokestatic m)
  not_listed : Counted t l illegal
  not_found : Counted t l unresolved

abbrev pub RowCounts : Row → Type 0
RowCounts (row a b n t l f) = (x : Operands) → Counted t l (f x)

abbrev pub AllCount : List Row → Type 0
AllCount [] = Unit {0}
AllCount (r ∷ rs) = RowCounts r × AllCount rs

dropped : (k : ℕ) (s : List Ty) → k ≤ length s → length (drop k s) + k ≡ length s
dropped k s h = omega (arith, length-drop k s)

-- ---- forms that name something
constant : (q : Resolved) → Counted 0 1 (as_number iconst q)
unfolding rule
constant nothing = not_found
constant (number v) = moves (iconst v) (λ P M o g ls s. (refl, λ h e. omega arith))
constant (type r) = not_found
constant (field f) = not_found
constant (method_of m) = not_found

made : (q : Resolved) → Counted 0 1 (as_type new_of q)
unfolding rule
made nothing = not_found
made (number v) = not_found
made (type (cls c)) = moves (new c) (λ P M o g ls s. (refl, λ h e. omega arith))
made (type (arr d)) = not_found
made (field f) = not_found
made (method_of m) = not_found

array : (b : Bool) (r : Ref) → Counted 1 1 (cond b (newarray (dref r)) unresolved)
unfolding rule
array true r = moves (newarray (dref r)) (λ P M o g ls s. (refl, λ h e. omega (arith, dropped 1 s h)))
array false r = not_found

arrays : (q : Resolved) → Counted 1 1 (as_type array_of q)
arrays nothing = not_found
arrays (number v) = not_found
arrays (type r) = array (ltb (dimensions r) max_dimensions) r
arrays (field f) = not_found
arrays (method_of m) = not_found

ints : (b : Bool) → Counted 1 1 (cond b (newarray dint) illegal)
unfolding rule
ints true = moves (newarray dint) (λ P M o g ls s. (refl, λ h e. omega (arith, dropped 1 s h)))
ints false = not_listed

cast : (q : Resolved) → Counted 1 1 (as_type checkcast q)
unfolding rule
cast nothing = not_found
cast (number v) = not_found
cast (type r) = moves (checkcast r) (λ P M o g ls s. (refl, λ h e. omega (arith, dropped 1 s h)))
cast (field f) = not_found
cast (method_of m) = not_found

tested : (q : Resolved) → Counted 1 1 (as_type instanceof q)
unfolding rule
tested nothing = not_found
tested (number v) = not_found
tested (type r) = moves (instanceof r) (λ P M o g ls s. (refl, λ h e. omega (arith, dropped 1 s h)))
tested (field f) = not_found
tested (method_of m) = not_found

got : (q : Resolved) → Counted 1 1 (as_field getfield q)
unfolding rule
got nothing = not_found
got (number v) = not_found
got (type r) = not_found
got (field f) = moves (getfield f) (λ P M o g ls s. (refl, λ h e. omega (arith, dropped 1 s h)))
got (method_of m) = not_found

stored : (q : Resolved) → Counted 2 0 (as_field putfield q)
unfolding rule
stored nothing = not_found
stored (number v) = not_found
stored (type r) = not_found
stored (field f) = moves (putfield f) (λ P M o g ls s. (refl, λ h e. omega (arith, dropped 2 s h)))
stored (method_of m) = not_found

module _ (t l : ℕ) (k : MethodRef → Instr) (call : (m : MethodRef) → Counted t l (k m)) (fit : MethodRef → Bool) where
  fitting : (b : Bool) (m : MethodRef) → Counted t l (cond b (k m) unresolved)
  fitting true m = call m
  fitting false m = not_found

  called : (q : Resolved) → Counted t l (as_method fit k q)
  called nothing = not_found
  called (number v) = not_found
  called (type r) = not_found
  called (field f) = not_found
  called (method_of m) = fitting (fit m) m

stops : {A : Type 0} → false ≡ true → A
stops e = absurd (not_so e)

-- one component a row, in the table's order
pub rows-count : AllCount rows
unfolding rows rule
rows-count = (
  λ x. moves nop (λ P M o g ls s. (refl, λ h e. omega (arith))),
  (
    λ x. moves aconstnull (λ P M o g ls s. (refl, λ h e. omega (arith))),
    (
      λ x. moves (iconst ((x.nth + minus_one) % 2 ^ 32)) (λ P M o g ls s. (refl, λ h e. omega (arith))),
      (
        λ x. moves (iconst (extend 8 x.first)) (λ P M o g ls s. (refl, λ h e. omega (arith))),
        (
          λ x. moves (iconst (extend 16 (both x))) (λ P M o g ls s. (refl, λ h e. omega (arith))),
          (
            λ x. constant (x.pool x.first),
            (
              λ x. moves (iload x.first) (λ P M o g ls s. (refl, λ h e. omega (arith))),
              (
                λ x. moves (aload x.first) (λ P M o g ls s. (refl, λ h e. omega (arith))),
                (
                  λ x. moves (iload x.nth) (λ P M o g ls s. (refl, λ h e. omega (arith))),
                  (
                    λ x. moves (aload x.nth) (λ P M o g ls s. (refl, λ h e. omega (arith))),
                    (
                      λ x. moves iaload (λ P M o g ls s. (refl, λ h e. omega (arith, dropped 2 s h))),
                      (
                        λ x. moves aaload (λ P M o g ls s. (refl, λ h e. omega (arith, dropped 2 s h))),
                        (
                          λ x. moves (istore x.first) (λ P M o g ls s. (refl, λ h e. omega (arith, dropped 1 s h))),
                          (
                            λ x. moves (astore x.first) (λ P M o g ls s. (refl, λ h e. omega (arith, dropped 1 s h))),
                            (
                              λ x. moves (istore x.nth) (λ P M o g ls s. (refl, λ h e. omega (arith, dropped 1 s h))),
                              (
                                λ x. moves (astore x.nth) (λ P M o g ls s. (refl, λ h e. omega (arith, dropped 1 s h))),
                                (
                                  λ x. moves iastore (λ P M o g ls s. (refl, λ h e. omega (arith, dropped 3 s h))),
                                  (
                                    λ x. moves aastore (λ P M o g ls s. (refl, λ h e. omega (arith, dropped 3 s h))),
                                    (
                                      λ x. moves pop (λ P M o g ls s. (refl, λ h e. omega (arith, dropped 1 s h))),
                                      (
                                        λ x. moves dup (λ P M o g ls s. (refl, λ h e. omega (arith, dropped 1 s h))),
                                        (
                                          λ x. moves dupx1 (λ P M o g ls s. (refl, λ h e. omega (arith, dropped 2 s h))),
                                          (
                                            λ x. moves swap (λ P M o g ls s. (refl, λ h e. omega (arith, dropped 2 s h))),
                                            (
                                              λ x. moves (ibin add) (λ P M o g ls s. (refl, λ h e. omega (arith, dropped 2 s h))),
                                              (
                                                λ x. moves (ibin sub) (λ P M o g ls s. (refl, λ h e. omega (arith, dropped 2 s h))),
                                                (
                                                  λ x. moves (ibin mul) (λ P M o g ls s. (refl, λ h e. omega (arith, dropped 2 s h))),
                                                  (
                                                    λ x. moves (idiv quotient) (λ P M o g ls s. (refl, λ h e. omega (arith, dropped 2 s h))),
                                                    (
                                                      λ x. moves (idiv remainder) (λ P M o g ls s. (refl, λ h e. omega (arith, dropped 2 s h))),
                                                      (
                                                        λ x. moves ineg (λ P M o g ls s. (refl, λ h e. omega (arith, dropped 1 s h))),
                                                        (
                                                          λ x. moves (ibin shl) (λ P M o g ls s. (refl, λ h e. omega (arith, dropped 2 s h))),
                                                          (
                                                            λ x. moves (ibin shr) (λ P M o g ls s. (refl, λ h e. omega (arith, dropped 2 s h))),
                                                            (
                                                              λ x. moves (ibin ushr) (λ P M o g ls s. (refl, λ h e. omega (arith, dropped 2 s h))),
                                                              (
                                                                λ x. moves (ibin and) (λ P M o g ls s. (refl, λ h e. omega (arith, dropped 2 s h))),
                                                                (
                                                                  λ x. moves (ibin or) (λ P M o g ls s. (refl, λ h e. omega (arith, dropped 2 s h))),
                                                                  (
                                                                    λ x. moves (ibin xor) (λ P M o g ls s. (refl, λ h e. omega (arith, dropped 2 s h))),
                                                                    (
                                                                      λ x. moves (iinc x.first (extend 8 x.second)) (λ P M o g ls s. (refl, λ h e. omega (arith))),
                                                                      (
                                                                        λ x. moves (ifint (test_of x.nth) (target x)) (λ P M o g ls s. (refl, λ h e. omega (arith, dropped 1 s h))),
                                                                        (
                                                                          λ x. moves (ificmp (test_of x.nth) (target x)) (λ P M o g ls s. (refl, λ h e. omega (arith, dropped 2 s h))),
                                                                          (
                                                                            λ x. moves (ifacmp (eqb x.nth 0) (target x)) (λ P M o g ls s. (refl, λ h e. omega (arith, dropped 2 s h))),
                                                                            (
                                                                              λ x. moves (goto (target x)) (λ P M o g ls s. (refl, λ h e. stops e)),
                                                                              (
                                                                                λ x. moves ireturn (λ P M o g ls s. (refl, λ h e. stops e)),
                                                                                (
                                                                                  λ x. moves areturn (λ P M o g ls s. (refl, λ h e. stops e)),
                                                                                  (
                                                                                    λ x. moves return (λ P M o g ls s. (refl, λ h e. stops e)),
                                                                                    (
                                                                                      λ x. got (named x),
                                                                                      (
                                                                                        λ x. stored (named x),
                                                                                        (
                                                                                          λ x. called 1 0 invokevirtual (λ m. virtual) (is_virtual_call x.program) (named x),
                                                                                          (
                                                                                            λ x. called 1 0 invokespecial (λ m. special) (is_init_call x.program) (named x),
                                                                                            (
                                                                                              λ x. called 0 0 invokestatic (λ m. static) (is_static_call x.program) (named x),
                                                                                              (
                                                                                                λ x. made (named x),
                                                                                                (
                                                                                                  λ x. ints (eqb x.first 10),
                                                                                                  (
                                                                                                    λ x. arrays (named x),
                                                                                                    (
                                                                                                      λ x. moves arraylength (λ P M o g ls s. (refl, λ h e. omega (arith, dropped 1 s h))),
                                                                                                      (
                                                                                                        λ x. moves athrow (λ P M o g ls s. (refl, λ h e. stops e)),
                                                                                                        (
                                                                                                          λ x. cast (named x),
                                                                                                          (
                                                                                                            λ x. tested (named x),
                                                                                                            (
                                                                                                              λ x. moves (ifnull (eqb x.nth 0) (target x)) (λ P M o g ls s. (refl, λ h e. omega (arith, dropped 1 s h))),
                                                                                                              tt,
                                                                                                            ),
                                                                                                          ),
                                                                                                        ),
                                                                                                      ),
                                                                                                    ),
                                                                                                  ),
                                                                                                ),
                                                                                              ),
                                                                                            ),
                                                                                          ),
                                                                                        ),
                                                                                      ),
                                                                                    ),
                                                                                  ),
                                                                                ),
                                                                              ),
                                                                            ),
                                                                          ),
                                                                        ),
                                                                      ),
                                                                    ),
                                                                  ),
                                                                ),
                                                              ),
                                                            ),
                                                          ),
                                                        ),
                                                      ),
                                                    ),
                                                  ),
                                                ),
                                              ),
                                            ),
                                          ),
                                        ),
                                      ),
                                    ),
                                  ),
                                ),
                              ),
                            ),
                          ),
                        ),
                      ),
                    ),
                  ),
                ),
              ),
            ),
          ),
        ),
      ),
    ),
  ),
)
