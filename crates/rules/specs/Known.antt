-- What the rule of an instruction needs beside the state, as the code has it; each instruction's claims and state after by it, and that
-- they are the meaning's. Assumes nothing.
use Rattle.std.specs.Prelude.{ℕ, suc, Bool, true, false, cond, List, [], ◌∷◌, ◌++◌, eqb, length, drop}
use Rattle.kit.specs.Claims.{Claim, claim}
use Rattle.classfiles.specs.Descriptors.{cls, Desc}
use Rattle.reader.specs.Program.{Program, class}
use Rattle.rules.specs.Types.{Key, at, self, Ty, top, int, null, ini, uninit}
use Rattle.rules.specs.States.{State, state, stack, operand, replace_all}
use Rattle.rules.specs.Rule.{Rule, rule', key_of, flag_after}
use Rattle.rules.specs.Walk.{operand_claims}
use Rattle.rules.specs.Slots.{stack_at}
use Rattle.rules.specs.Forms.{gives_of, plain_takes, plain_gives, branch_takes, form_rule, form_claims, turned}
use Rattle.rules.specs.Groups.{local_rule, local_claims, local_after, stack_rule, stack_claims, stack_after, results_of, leave_rule, leave_claims, new_rule, new_claims, new_after}
use Rattle.rules.specs.declared.instruction.Callee.{Callee}
use Rattle.rules.specs.declared.instruction.Call.{Call}
use Rattle.rules.specs.declared.instruction.Call.TheVariants.{Virtual, Special, Static}
use Rattle.rules.specs.declared.instruction.Instr as code
use Rattle.rules.specs.declared.instruction.Instr.TheVariants.{Simple, Jump, OnLocal, OnStack, Leaving, New, Calling, Illegal, Unresolved}
use Rattle.rules.specs.declared.calls.Known.{Known}

-- what this method returns; of a call the parameters' types, the last first, and what comes back; the own class; the class of the new that
-- made a constructor's receiver
pub record Facts : Type 0 where
  pub results : List Desc
  pub params : List Ty
  pub gives : List Ty
  pub own : ℕ
  pub made : ℕ

abbrev pub facts_of : List ℕ → Known → Facts
facts_of t k =
    record { results = results_of k.back; params = stack_at t k.args.at k.args.count; gives = gives_of k.gives; own = k.own; made = k.made }

-- ---- a constructor's call
abbrev pub key_fits : Program → Facts → ℕ → Key → Bool
key_fits L F c (at x) = eqb F.made c
key_fits L F c self = cond (eqb F.own c) true (eqb (class L F.own).parent c)

abbrev pub init_fits : Program → Facts → ℕ → Ty → Bool
init_fits L F c top = false
init_fits L F c int = false
init_fits L F c null = false
init_fits L F c (ini r) = false
init_fits L F c (uninit k) = key_fits L F c k

abbrev pub made_class : Facts → Key → ℕ
made_class F (at x) = F.made
made_class F self = F.own

abbrev pub readied : Facts → Key → State → State
readied F k (state g l s) =
    state (flag_after k g) (replace_all k (ini (cls (made_class F k))) l) (replace_all k (ini (cls (made_class F k))) s)

abbrev pub special_next : Facts → State → State
special_next F (state g l s) = readied F (key_of (operand (length F.params) s)) (state g l (drop (suc (length F.params)) s))

abbrev pub special_rule : Program → Facts → ℕ → State → Rule
special_rule L F c (state g l s) =
    rule' (F.params ++ (top ∷ [])) (claim 18 (init_fits L F c (operand (length F.params) s)) ∷ []) (special_next F (state g l s))
    (replace_all (key_of (operand (length F.params) s)) top l)

unfoldable pub special_claims : Program → ℕ → Facts → ℕ → State → List (Claim ℕ)
special_claims L most F c S = operand_claims L most (stack S) (special_rule L F c S)

unfoldable pub special_after : Facts → State → State
special_after F S = special_next F S

-- ---- calls
abbrev pub callee_in : Call → Callee
callee_in (Virtual m) = m
callee_in (Special m) = m
callee_in (Static m) = m

abbrev pub virtual_takes : Facts → Callee → List Ty
virtual_takes F m = F.params ++ (ini (cls m.named) ∷ [])

abbrev pub call_rule : Program → Facts → Call → State → Rule
call_rule L F (Virtual m) S = form_rule (virtual_takes F m) F.gives S
call_rule L F (Special m) S = special_rule L F m.named S
call_rule L F (Static m) S = form_rule (F.params ++ []) F.gives S

abbrev pub call_claims' : Program → ℕ → Facts → Call → State → List (Claim ℕ)
call_claims' L most F (Virtual m) S = form_claims L most (virtual_takes F m) F.gives S
call_claims' L most F (Special m) S = special_claims L most F m.named S
call_claims' L most F (Static m) S = form_claims L most (F.params ++ []) F.gives S

abbrev pub call_after' : Facts → Call → State → State
call_after' F (Virtual m) S = turned (length (virtual_takes F m)) F.gives S
call_after' F (Special m) S = special_after F S
call_after' F (Static m) S = turned (length (F.params ++ [])) F.gives S

unfoldable pub call_claims : Program → ℕ → Facts → Call → State → List (Claim ℕ)
call_claims L most F c S = call_claims' L most F c S

unfoldable pub call_after : Facts → Call → State → State
call_after F c S = call_after' F c S

-- ---- instructions
abbrev pub emptied : State → State
emptied (state g l s) = state g l []

abbrev refusing : ℕ → State → Rule
refusing n (state g l s) = rule' [] (claim n false ∷ []) (state g l s) l

abbrev pub instr_rule : Program → Facts → ℕ → code.Instr → State → Rule
instr_rule L F o (Simple i) S = form_rule (plain_takes i) (plain_gives i) S
instr_rule L F o (Jump i) S = form_rule (branch_takes i) [] S
instr_rule L F o (OnLocal i) S = local_rule i S
instr_rule L F o (OnStack i) S = stack_rule i S
instr_rule L F o (Leaving i) S = leave_rule F.results i S
instr_rule L F o (New c) S = new_rule o S
instr_rule L F o (Calling c) S = call_rule L F c S
instr_rule L F o Illegal S = refusing 11 S
instr_rule L F o Unresolved S = refusing 13 S

abbrev pub instr_claims' : Program → ℕ → Facts → ℕ → code.Instr → State → List (Claim ℕ)
instr_claims' L most F o (Simple i) S = form_claims L most (plain_takes i) (plain_gives i) S
instr_claims' L most F o (Jump i) S = form_claims L most (branch_takes i) [] S
instr_claims' L most F o (OnLocal i) S = local_claims L most i S
instr_claims' L most F o (OnStack i) S = stack_claims L most i S
instr_claims' L most F o (Leaving i) S = leave_claims L most F.results i S
instr_claims' L most F o (New c) S = new_claims L most o S
instr_claims' L most F o (Calling c) S = call_claims L most F c S
instr_claims' L most F o Illegal S = claim 11 false ∷ []
instr_claims' L most F o Unresolved S = claim 13 false ∷ []

abbrev pub instr_after' : Facts → ℕ → code.Instr → State → State
instr_after' F o (Simple i) S = turned (length (plain_takes i)) (plain_gives i) S
instr_after' F o (Jump i) S = turned (length (branch_takes i)) [] S
instr_after' F o (OnLocal i) S = local_after i S
instr_after' F o (OnStack i) S = stack_after i S
instr_after' F o (Leaving i) S = emptied S
instr_after' F o (New c) S = new_after o S
instr_after' F o (Calling c) S = call_after F c S
instr_after' F o Illegal S = S
instr_after' F o Unresolved S = S

unfoldable pub instr_claims : Program → ℕ → Facts → ℕ → code.Instr → State → List (Claim ℕ)
instr_claims L most F o i S = instr_claims' L most F o i S

unfoldable pub instr_after : Facts → ℕ → code.Instr → State → State
instr_after F o i S = instr_after' F o i S

-- a constructor's call hides its receiver from handlers
abbrev pub call_hides : Call → Bool
call_hides (Virtual m) = false
call_hides (Special m) = true
call_hides (Static m) = false

abbrev pub hides' : code.Instr → Bool
hides' (Simple i) = false
hides' (Jump i) = false
hides' (OnLocal i) = false
hides' (OnStack i) = false
hides' (Leaving i) = false
hides' (New c) = false
hides' (Calling c) = call_hides c
hides' Illegal = false
hides' Unresolved = false

unfoldable pub hides : code.Instr → Bool
hides i = hides' i
