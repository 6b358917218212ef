-- States of the verifier: flag, locals, operand stack; and how a state fits a frame.
use Rattle.std.specs.Prelude.{ℕ, ◌-◌, Bool, true, false, cond, List, [], ◌∷◌, ◌++◌, length, drop, replicate, eqb}
use Rattle.std.specs.Bool.{beq}
use Rattle.kit.specs.Claims.{Claim, claim}
use Rattle.classfiles.specs.Descriptors.{cls}
use Rattle.reader.specs.Program.{Program, Method, is_constructor}
use Rattle.rules.specs.Types.{Key, self, Ty, top, ini, uninit, is_uninit, tys_of, fits}
use Rattle.rules.specs.Opcodes.{body}

-- the flag says that this constructor's receiver is uninitialised; the operand stack has its top first
pub data State : Type 0 where
  state : Bool → List Ty → List Ty → State

abbrev pub flag : State → Bool
flag (state g l s) = g

abbrev pub stack : State → List Ty
stack (state g l s) = s

abbrev pub top_of : List Ty → Ty
top_of [] = top
top_of (t ∷ ts) = t

-- the k-th operand from the top
abbrev pub operand : ℕ → List Ty → Ty
operand k s = top_of (drop k s)

-- slot by slot
unfoldable pub slots_fit : Program → List Ty → List Ty → List (Claim ℕ)
slots_fit P [] [] = []
slots_fit P [] (u ∷ us) = claim 16 false ∷ []
slots_fit P (t ∷ ts) [] = claim 16 false ∷ []
slots_fit P (t ∷ ts) (u ∷ us) = claim 16 (fits P t u) ∷ slots_fit P ts us

-- flag, depth, slots
unfoldable pub state_fits : Program → State → State → List (Claim ℕ)
state_fits P (state g l s) (state g' l' s') =
    claim 18 (beq g g') ∷ claim 16 (eqb (length s) (length s')) ∷ (slots_fit P l l' ++ slots_fit P s s')

-- every copy of an uninitialised object becomes t
unfoldable pub replace_all : Key → Ty → List Ty → List Ty
replace_all k t [] = []
replace_all k t (u ∷ us) = cond (is_uninit k u) t u ∷ replace_all k t us

unfoldable pub no_copy : Key → List Ty → Bool
no_copy k [] = true
no_copy k (t ∷ ts) = cond (is_uninit k t) false (no_copy k ts)

-- a written list of locals, padded with top to max_locals
unfoldable pub padded : ℕ → List Ty → List Ty
padded n l = l ++ replicate (n - length l) top

-- ---- a method's start
abbrev pub receiver_tys : Method → List Ty
receiver_tys M = cond M.static [] (cond (is_constructor M) (uninit self) (ini (cls M.owner)) ∷ [])

abbrev pub parameter_tys : Method → List Ty
parameter_tys M = receiver_tys M ++ tys_of M.params

unfoldable pub start_state : Method → State
start_state M = state (is_constructor M) (padded (body M).max_locals (parameter_tys M)) []
