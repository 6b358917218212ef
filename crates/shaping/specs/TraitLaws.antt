-- Traits of the code's groups of instructions. Assumes nothing.
use Rattle.std.specs.Prelude.{ℕ, ◌≡◌, refl, Bool, true, false, cond, List, [], ◌∷◌}
use Rattle.std.proofs.Common.{sym, ap, ◌∙◌}
use Rattle.rules.specs.Instruction.{Traits, going, ordinary, traits, targets, resolved, form_ok, is_new}
use Rattle.rules.specs.Lines.{Line, is_start}
use Rattle.rules.specs.Shape.{all_starts}
use Rattle.rules.specs.InstructionWords.{plain_of, branch_of, local_of, stack_of, leave_of, call_of, instr_of}
use Rattle.rules.specs.declared.instruction.Instr as code
use Rattle.rules.specs.declared.instruction.Plain.{Plain}
use Rattle.rules.specs.declared.instruction.Plain.TheVariants.{Nop, Aconstnull, Pop, Ineg, Iaload, Iastore, Aastore, Iconst, Ibin, Idiv, Newarray, Checkcast, Instanceof, Getfield, Putfield}
use Rattle.rules.specs.declared.instruction.Branch.{Branch}
use Rattle.rules.specs.declared.instruction.Branch.TheVariants.{Goto, Ifint, Ificmp, Ifacmp, Ifnull}
use Rattle.rules.specs.declared.instruction.Local.{Local}
use Rattle.rules.specs.declared.instruction.Local.TheVariants.{Iload, Aload, Istore, Astore, Iinc}
use Rattle.rules.specs.declared.instruction.Stack.{Stack}
use Rattle.rules.specs.declared.instruction.Stack.TheVariants.{Dup, Dupx1, Swap, Arraylength, Aaload}
use Rattle.rules.specs.declared.instruction.Leave.{Leave}
use Rattle.rules.specs.declared.instruction.Leave.TheVariants.{Athrow, Ireturn, Areturn, Return}
use Rattle.rules.specs.declared.instruction.Call.{Call}
use Rattle.rules.specs.declared.instruction.Call.TheVariants.{Virtual, Special, Static}

pub plain-traits : (i : Plain) → traits (plain_of i) ≡ ordinary
plain-traits Nop = refl
plain-traits Aconstnull = refl
plain-traits Pop = refl
plain-traits Ineg = refl
plain-traits Iaload = refl
plain-traits Iastore = refl
plain-traits Aastore = refl
plain-traits (Iconst v) = refl
plain-traits (Ibin f) = refl
plain-traits (Idiv f) = refl
plain-traits (Newarray t) = refl
plain-traits (Checkcast t) = refl
plain-traits (Instanceof t) = refl
plain-traits (Getfield f) = refl
plain-traits (Putfield f) = refl

pub stack-traits : (i : Stack) → traits (stack_of i) ≡ ordinary
stack-traits Dup = refl
stack-traits Dupx1 = refl
stack-traits Swap = refl
stack-traits Arraylength = refl
stack-traits Aaload = refl

pub leave-traits : (i : Leave) → traits (leave_of i) ≡ going false []
leave-traits Athrow = refl
leave-traits Ireturn = refl
leave-traits Areturn = refl
leave-traits Return = refl

pub call-traits : (i : Call) → traits (call_of i) ≡ ordinary
call-traits (Virtual m) = refl
call-traits (Special m) = refl
call-traits (Static m) = refl

pub branch_form : (n : ℕ) (i : Branch) → form_ok n (branch_of i) ≡ true
branch_form n (Goto t) = refl
branch_form n (Ifint f t) = refl
branch_form n (Ificmp f t) = refl
branch_form n (Ifacmp b t) = refl
branch_form n (Ifnull b t) = refl

pub branch-new : (i : Branch) → is_new (branch_of i) ≡ false
branch-new (Goto t) = refl
branch-new (Ifint f t) = refl
branch-new (Ificmp f t) = refl
branch-new (Ifacmp b t) = refl
branch-new (Ifnull b t) = refl

pub branch-resolved : (i : Branch) → resolved (branch_of i) ≡ true
branch-resolved (Goto t) = refl
branch-resolved (Ifint f t) = refl
branch-resolved (Ificmp f t) = refl
branch-resolved (Ifacmp b t) = refl
branch-resolved (Ifnull b t) = refl

pub local_new : (i : Local) → is_new (local_of i) ≡ false
local_new (Iload j) = refl
local_new (Aload j) = refl
local_new (Istore j) = refl
local_new (Astore j) = refl
local_new (Iinc j k) = refl

pub local_resolved : (i : Local) → resolved (local_of i) ≡ true
local_resolved (Iload j) = refl
local_resolved (Aload j) = refl
local_resolved (Istore j) = refl
local_resolved (Astore j) = refl
local_resolved (Iinc j k) = refl

pub local_targets : (i : Local) → targets (local_of i) ≡ []
local_targets (Iload j) = refl
local_targets (Aload j) = refl
local_targets (Istore j) = refl
local_targets (Astore j) = refl
local_targets (Iinc j k) = refl

-- a test that is its own answer
pub itself : (b : Bool) → b ≡ cond b true false
itself true = refl
itself false = refl

-- one target
pub leads_one : (ls : List Line) (t : ℕ) (r : Bool) → r ≡ is_start ls t → r ≡ all_starts ls (t ∷ [])
unfolding all_starts
leads_one ls t r e = e ∙ itself (is_start ls t)

pub leads_none : (ls : List Line) → true ≡ all_starts ls []
unfolding all_starts
leads_none ls = refl

-- a function of the traits, or of the instruction, at what the code was told
pub by_traits : {A : Type 0} (g : Traits → A) (i j : code.Instr) (v : A) (T : Traits) → i ≡ j → traits (instr_of j) ≡ T → v ≡ g T → v ≡ g (traits (instr_of i))
by_traits g i j v T e q h = h ∙ ap g (sym (ap (λ (k : code.Instr). traits (instr_of k)) e ∙ q))

pub by_told : {A : Type 0} (h : code.Instr → A) (i j : code.Instr) (v : A) → i ≡ j → h j ≡ v → v ≡ h i
by_told h i j v e q = sym (ap h e ∙ q)
