-- Frames in a table of words: a row of 68 words each, a state's 64 slots first, then offset, depth and flag.
use Rattle.std.specs.Prelude.{ℕ, zero, suc, ◌+◌, ◌*◌, ◌/◌, ◌%◌, ◌<◌, ◌≤◌, ◌≡◌, Option as Found, Some, None, List, [], ◌∷◌, eqb, length}
use Rattle.std.proofs.Math.Option.{Option, none, some}
use Rattle.kit.specs.Words.{word}
use Rattle.rules.specs.States.{State}
use Rattle.rules.specs.Frames.{Frame, frame}
use Rattle.rules.specs.Slots.{held, Placed}
use Rattle.rules.specs.declared.slots.Held.{Held}
use Rattle.rules.specs.declared.frames.Rows.{Rows}

-- the state in the row at x, of n locals; no word is read as a depth past 32
abbrev pub row_held : List ℕ → ℕ → ℕ → Held
row_held t n x = record { at = x; locals = n; depth = word t (x + 65) % 33; flag = eqb (word t (x + 66)) 1 }

-- k rows from x on
unfoldable pub frames_at : List ℕ → ℕ → ℕ → ℕ → List Frame
frames_at t n x zero = []
frames_at t n x (suc k) = frame (word t (x + 64)) (held t (row_held t n x)) ∷ frames_at t n (x + 68) k

abbrev pub frames_of : List ℕ → Rows → List Frame
frames_of t f = frames_at t f.locals f.at f.count

-- the offset of row i
abbrev pub offset_at : List ℕ → Rows → ℕ → ℕ
offset_at t f i = word t (f.at + 68 * i + 64)

-- they lie in the table, by rising offsets
pub record Laid (t : List ℕ) (f : Rows) : Type 0 where
  pub inside : f.at + 68 * f.count + 68 ≤ length t / 4
  pub locals : f.locals ≤ 32
  pub rising : (i j : ℕ) → i < j → j < f.count → offset_at t f i < offset_at t f j

-- what was looked up
abbrev pub standing : List ℕ → Found Held → Option State
standing t None = none
standing t (Some h) = some (held t h)

pub record Sound (t : List ℕ) (h : Held) : Type 0 where
  pub placed : Placed t h
  pub depth : h.depth ≤ 32

-- it is one of these rows, or the place behind them
pub record Among (f : Rows) (h : Held) : Type 0 where
  pub end : h.at + 68 ≤ f.at + 68 * f.count + 68
  pub locals : h.locals ≡ f.locals
