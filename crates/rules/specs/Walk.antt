-- Phase D, the code walk: by offset, the claims of each instruction in document 01's order.
use Rattle.std.specs.Prelude.{ℕ, suc, Bool, false, cond, not, List, [], ◌∷◌, ◌++◌, length, ltb, leb, eqb}
use Rattle.std.proofs.Math.Option.{Option, none, some}
use Rattle.kit.specs.Claims.{Claim, claim, label}
use Rattle.reader.specs.Verdicts.{Fault, fault, fault_at}
use Rattle.classfiles.specs.Descriptors.{cls}
use Rattle.classfiles.specs.Members.{Handler}
use Rattle.reader.specs.Program.{Program, Method}
use Rattle.rules.specs.Instruction.{Instr, targets, falls}
use Rattle.rules.specs.Opcodes.{body, code_of}
use Rattle.rules.specs.Lines.{Line, line, lines}
use Rattle.rules.specs.Shape.{catch_class}
use Rattle.rules.specs.Types.{Ty, ini, fits}
use Rattle.rules.specs.States.{State, state, flag, stack, operand, state_fits, start_state}
use Rattle.rules.specs.Frames.{Frame, frame}
use Rattle.rules.specs.Rule.{Rule, rule}

unfoldable pub frame_at : List Frame → ℕ → Option State
frame_at [] o = none
frame_at (frame p F ∷ fs) o = cond (eqb p o) (some F) (frame_at fs o)

-- a state that goes to a frame, which must be there
abbrev pub into_frame : Program → State → Option State → List (Claim ℕ)
into_frame P S none = claim 17 false ∷ []
into_frame P S (some F) = state_fits P S F

-- (1) a present state must fit a frame standing here, which replaces it; neither gives 17
abbrev pub meets : Program → Option State → Option State → List (Claim ℕ)
meets P none none = claim 17 false ∷ []
meets P none (some F) = []
meets P (some S) none = []
meets P (some S) (some F) = state_fits P S F

abbrev pub merged : Option State → Option State → State
merged none none = state false [] []
merged (some S) none = S
merged c (some F) = F

-- (2) operands: count, fit from the top down, the form's own claims, room for the push
unfoldable pub operands_fit : Program → ℕ → List Ty → List Ty → List (Claim ℕ)
operands_fit P k [] s = []
operands_fit P k (u ∷ us) s = claim 16 (fits P (operand k s) u) ∷ operands_fit P (suc k) us s

abbrev pub operand_claims : Program → ℕ → List Ty → Rule → List (Claim ℕ)
operand_claims P most s R =
    claim 15 (leb (length R.takes) (length s)) ∷ (operands_fit P 0 R.takes s ++ (R.asks ++ (claim 15 (leb (length (stack R.after)) most) ∷ [])))

-- (3) each covering table entry: 18 for the flag, 17 for no frame, then the locals with the caught class alone
abbrev pub covers : ℕ → Handler → Bool
covers o h = cond (leb h.start o) (ltb o h.end) false

abbrev pub handler_claims : Program → Method → List Frame → ℕ → Bool → List Ty → Handler → List (Claim ℕ)
handler_claims P M fs o g l h =
    cond (covers o h) (claim 18 (not g) ∷ into_frame P (state false l (ini (cls (catch_class P M h)) ∷ [])) (frame_at fs h.target)) []

unfoldable pub handlers_claims : Program → Method → List Frame → ℕ → Bool → List Ty → List Handler → List (Claim ℕ)
handlers_claims P M fs o g l [] = []
handlers_claims P M fs o g l (h ∷ hs) = handler_claims P M fs o g l h ++ handlers_claims P M fs o g l hs

-- (4) a branch target needs a frame, which the state after fits
unfoldable pub branch_claims : Program → List Frame → State → List ℕ → List (Claim ℕ)
branch_claims P fs S [] = []
branch_claims P fs S (t ∷ ts) = into_frame P S (frame_at fs t) ++ branch_claims P fs S ts

abbrev pub step_claims : Program → Method → List Frame → ℕ → Instr → State → Rule → List (Claim ℕ)
step_claims P M fs o i S R =
    operand_claims P (body M).max_stack (stack S) R
    ++ (handlers_claims P M fs o (flag S) R.caught (body M).table ++ branch_claims P fs R.after (targets i))

-- all that is asked of the instruction at o in a state
unfoldable pub instruction_claims : Program → Method → List Frame → ℕ → Instr → State → List (Claim ℕ)
instruction_claims P M fs o i S = step_claims P M fs o i S (rule P M o i S)

-- goto, athrow and returns leave no state
abbrev pub onward : Instr → State → Option State
onward i S = cond (falls i) (some S) none

-- a state at the code's end is 17 there
abbrev pub ending : ℕ → Option State → List (Claim Fault)
ending n none = []
ending n (some S) = claim (fault 17 n) false ∷ []

unfoldable pub walk : Program → Method → List Frame → List Line → Option State → List (Claim Fault)
walk P M fs [] c = ending (length (code_of M)) c
walk P M fs (line o i n ∷ ls) c =
    let F = frame_at fs o in
    let S = merged c F in
    label (fault_at o) (meets P c F ++ instruction_claims P M fs o i S) ++ walk P M fs ls (onward i (rule P M o i S).after)

unfoldable pub walk_claims : Program → Method → List Frame → List (Claim Fault)
walk_claims P M fs = walk P M fs (lines P M) (some (start_state M))
