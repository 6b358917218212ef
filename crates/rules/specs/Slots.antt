-- A state in words: 32 of locals, then the operands, a word each; flag and depth stand beside it.
use Rattle.std.specs.Prelude.{ℕ, zero, suc, ◌+◌, ◌*◌, ◌/◌, ◌<◌, ◌≤◌, ◌≡◌, Option, Some, None, Bool, cond, List, [], ◌∷◌, ◌⊎◌, length, take, drop, set}
use Rattle.kit.specs.Words.{word}
use Rattle.rules.specs.Types.{Key, self, Ty, top, is_uninit}
use Rattle.rules.specs.Rule.{key_of}
use Rattle.rules.specs.States.{State, state, replace_all}
use Rattle.rules.specs.TypeWords.{type_of}
use Rattle.rules.specs.declared.slots.Held.{Held}
use Rattle.rules.specs.declared.types.Ty as code

unfoldable pub slot : List ℕ → ℕ → Ty
slot t i = type_of (word t i)

-- n slots from x on
unfoldable pub locals_at : List ℕ → ℕ → ℕ → List Ty
locals_at t x zero = []
locals_at t x (suc n) = slot t x ∷ locals_at t (suc x) n

-- d slots from x on, the last first
unfoldable pub stack_at : List ℕ → ℕ → ℕ → List Ty
stack_at t x zero = []
stack_at t x (suc d) = slot t (x + d) ∷ stack_at t x d

abbrev pub operands_of : List ℕ → Held → List Ty
operands_of t h = stack_at t (h.at + 32) h.depth

abbrev pub locals_of : List ℕ → Held → List Ty
locals_of t h = locals_at t h.at h.locals

abbrev pub held : List ℕ → Held → State
held t h = state h.flag (locals_of t h) (operands_of t h)

-- it lies in the table
pub record Placed (t : List ℕ) (h : Held) : Type 0 where
  pub inside : h.at + 64 ≤ length t / 4
  pub locals : h.locals ≤ 32
  pub depth : h.depth ≤ 40

-- with room for eight operands more
pub record Roomy (t : List ℕ) (h : Held) : Type 0 where
  pub inside : h.at + 72 ≤ length t / 4
  pub locals : h.locals ≤ 32
  pub depth : h.depth ≤ 40

-- nothing changes but the words of a state at x; of what stands before them, no byte
pub record Outside (x : ℕ) (t u : List ℕ) : Type 0 where
  pub kept : (j : ℕ) → (j < x) ⊎ (x + 72 ≤ j) → word u j ≡ word t j
  pub front : take (4 * x) u ≡ take (4 * x) t

-- the same place, at another depth
pub record Moved (h r : Held) (d : ℕ) : Type 0 where
  pub at : r.at ≡ h.at
  pub locals : r.locals ≡ h.locals
  pub flag : r.flag ≡ h.flag
  pub depth : r.depth ≡ d

-- k operands go, u comes; k go; local j becomes u
abbrev pub pushed : ℕ → Ty → State → State
pushed k u (state g l s) = state g l (u ∷ drop k s)

abbrev pub dropped : ℕ → State → State
dropped k (state g l s) = state g l (drop k s)

abbrev pub stored : ℕ → Ty → State → State
stored j u (state g l s) = state g (set l j u) s

-- every copy of an uninitialised object becomes u: in the locals, and in both
abbrev pub swap1 : Key → Ty → Ty → Ty
swap1 k u t = cond (is_uninit k t) u t

abbrev pub locals_swapped : Key → Ty → State → State
locals_swapped k u (state g l s) = state g (replace_all k u l) s

abbrev pub all_swapped : Key → Ty → State → State
all_swapped k u (state g l s) = state g (replace_all k u l) (replace_all k u s)

-- the locals as a handler sees them: the copies of an object hidden, where there is one to hide
abbrev pub veil1 : Bool → Key → Ty → Ty
veil1 b k t = cond b (swap1 k top t) t

unfoldable pub veil : Bool → Key → List Ty → List Ty
veil b k [] = []
veil b k (t ∷ ts) = veil1 b k t ∷ veil b k ts

-- the object to hide, where there is one
abbrev pub hidden_key : Option code.Ty → Key
hidden_key None = self
hidden_key (Some w) = key_of (type_of w.word)

-- words of the m from x on swapped, all others as they were
pub record Swapped (k : Key) (v : Ty) (t u : List ℕ) (x m : ℕ) : Type 0 where
  pub done : (j : ℕ) → x ≤ j → j < x + m → slot u j ≡ swap1 k v (slot t j)
  pub rest : (j : ℕ) → (j < x) ⊎ (x + m ≤ j) → word u j ≡ word t j
  pub front : take (4 * x) u ≡ take (4 * x) t
