-- The rules of the groups whose forms look at the state, as the code follows them; and that they are the meaning's.
use Rattle.std.specs.Prelude.{ℕ, ◌≡◌, Option, Some, None, List, [], ◌∷◌, get_or, drop, set}
use Rattle.std.proofs.Common.{refl}
use Rattle.kit.specs.Claims.{Claim, claim}
use Rattle.classfiles.specs.Descriptors.{Desc}
use Rattle.reader.specs.Program.{Program, Method}
use Rattle.rules.specs.Instruction.{new}
use Rattle.rules.specs.Types.{top, int, is_int, is_reference, is_array, element_ty, object_array, at, uninit, throwable_ty}
use Rattle.rules.specs.States.{State, state, stack, operand, no_copy, replace_all}
use Rattle.rules.specs.Rule.{Rule, rule', rule, leaving, returns_int, returns_ref, returns_void, returned}
use Rattle.rules.specs.Walk.{operand_claims}
use Rattle.rules.specs.InstructionWords.{desc_of, local_of, stack_of, leave_of}
use Rattle.rules.specs.declared.instruction.Local.{Local}
use Rattle.rules.specs.declared.instruction.Local.TheVariants.{Iload, Aload, Istore, Astore, Iinc}
use Rattle.rules.specs.declared.instruction.Stack.{Stack}
use Rattle.rules.specs.declared.instruction.Stack.TheVariants.{Dup, Dupx1, Swap, Arraylength, Aaload}
use Rattle.rules.specs.declared.instruction.Leave.{Leave}
use Rattle.rules.specs.declared.instruction.Leave.TheVariants.{Athrow, Ireturn, Areturn, Return}
use Rattle.rules.specs.declared.types.Ty as code

abbrev pub local_rule : Local → State → Rule
local_rule (Iload j) (state g l s) = rule' [] (claim 16 (is_int (get_or l j top)) ∷ []) (state g l (int ∷ s)) l
local_rule (Aload j) (state g l s) = rule' [] (claim 16 (is_reference (get_or l j top)) ∷ []) (state g l (get_or l j top ∷ s)) l
local_rule (Istore j) (state g l s) = rule' (int ∷ []) [] (state g (set l j int) (drop 1 s)) l
local_rule (Astore j) (state g l s) =
    rule' (top ∷ []) (claim 16 (is_reference (operand 0 s)) ∷ []) (state g (set l j (operand 0 s)) (drop 1 s)) l
local_rule (Iinc j k) (state g l s) = rule' [] (claim 16 (is_int (get_or l j top)) ∷ []) (state g l s) l

abbrev pub stack_rule : Stack → State → Rule
stack_rule Dup (state g l s) = rule' (top ∷ []) [] (state g l (operand 0 s ∷ s)) l
stack_rule Dupx1 (state g l s) = rule' (top ∷ top ∷ []) [] (state g l (operand 0 s ∷ operand 1 s ∷ operand 0 s ∷ drop 2 s)) l
stack_rule Swap (state g l s) = rule' (top ∷ top ∷ []) [] (state g l (operand 1 s ∷ operand 0 s ∷ drop 2 s)) l
stack_rule Arraylength (state g l s) = rule' (top ∷ []) (claim 16 (is_array (operand 0 s)) ∷ []) (state g l (int ∷ drop 1 s)) l
stack_rule Aaload (state g l s) = rule' (int ∷ object_array ∷ []) [] (state g l (element_ty (operand 1 s) ∷ drop 2 s)) l

-- what a method's descriptor returns
abbrev pub results_of : Option code.Ty → List Desc
results_of None = []
results_of (Some w) = desc_of w.word ∷ []

abbrev pub leave_rule : List Desc → Leave → State → Rule
leave_rule ds Athrow (state g l s) = rule' (throwable_ty ∷ []) [] (state g l []) l
leave_rule ds Ireturn S = leaving (int ∷ []) (returns_int ds) S
leave_rule ds Areturn S = leaving (returned ds ∷ []) (returns_ref ds) S
leave_rule ds Return S = leaving [] (returns_void ds) S

abbrev pub new_rule : ℕ → State → Rule
new_rule o (state g l s) =
    rule' [] (claim 18 (no_copy (at o) s) ∷ []) (state g (replace_all (at o) top l) (uninit (at o) ∷ s)) l

module _ (P : Program) (M : Method) (o : ℕ) where
  pub leave-rule : (i : Leave) (S : State) → rule P M o (leave_of i) S ≡ leave_rule M.results i S
  unfolding rule
  leave-rule Athrow (state g l s) = refl
  leave-rule Ireturn (state g l s) = refl
  leave-rule Areturn (state g l s) = refl
  leave-rule Return (state g l s) = refl

  pub new-rule : (c : ℕ) (S : State) → rule P M o (new c) S ≡ new_rule o S
  unfolding rule
  new-rule c (state g l s) = refl

  pub local-rule : (i : Local) (S : State) → rule P M o (local_of i) S ≡ local_rule i S
  unfolding rule
  local-rule (Iload j) (state g l s) = refl
  local-rule (Aload j) (state g l s) = refl
  local-rule (Istore j) (state g l s) = refl
  local-rule (Astore j) (state g l s) = refl
  local-rule (Iinc j k) (state g l s) = refl

  pub stack-rule : (i : Stack) (S : State) → rule P M o (stack_of i) S ≡ stack_rule i S
  unfolding rule
  stack-rule Dup (state g l s) = refl
  stack-rule Dupx1 (state g l s) = refl
  stack-rule Swap (state g l s) = refl
  stack-rule Arraylength (state g l s) = refl
  stack-rule Aaload (state g l s) = refl

-- ---- kept shut, for proofs that know the form
unfoldable pub local_claims : Program → ℕ → Local → State → List (Claim ℕ)
local_claims P most i S = operand_claims P most (stack S) (local_rule i S)

unfoldable pub local_after : Local → State → State
local_after i S = (local_rule i S).after

unfoldable pub stack_claims : Program → ℕ → Stack → State → List (Claim ℕ)
stack_claims P most i S = operand_claims P most (stack S) (stack_rule i S)

unfoldable pub stack_after : Stack → State → State
stack_after i S = (stack_rule i S).after

unfoldable pub leave_claims : Program → ℕ → List Desc → Leave → State → List (Claim ℕ)
leave_claims P most ds i S = operand_claims P most (stack S) (leave_rule ds i S)

unfoldable pub new_claims : Program → ℕ → ℕ → State → List (Claim ℕ)
new_claims P most o S = operand_claims P most (stack S) (new_rule o S)

unfoldable pub new_after : ℕ → State → State
new_after o S = (new_rule o S).after
