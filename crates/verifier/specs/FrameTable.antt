-- The frame table read into rows of words, held to the definition's. Assumes nothing.
use Rattle.std.specs.Prelude.{ℕ, ◌+◌, ◌-◌, ◌*◌, ◌<◌, ◌≤◌, ◌≡◌, Result, IfOk, IfErr, List, length}
use Rattle.texts.specs.Reading.{Res, pre}
use Rattle.texts.specs.Answers.{res_as}
use Rattle.texts.specs.Faults.{number}
use Rattle.kit.specs.Words.{word}
use Rattle.rules.specs.Frames.{Frame, frames_from, table_at, frames}
use Rattle.rules.specs.FrameRows.{frames_at, frames_of, Laid}
use Rattle.rules.specs.Sites.{front, program_at, method_at}
use Rattle.shaping.specs.Marks.{lines_at}
use Rattle.verifier.specs.FrameReading.{Readable}
use Rattle.verifier.specs.Drawing.{list_in}
use Rattle.rules.specs.declared.site.Site.{Site}
use Rattle.rules.specs.declared.frames.Rows.{Rows}
use Rattle.texts.specs.declared.faults.Got.{Got}
use Rattle.texts.specs.declared.faults.Fault as faults

-- n rows of a method of z locals, with the position past them
abbrev pub rows_of : ℕ → ℕ → Rows
rows_of n z = record { at = 46752; count = n; locals = z }

abbrev pub listing : ℕ → ℕ → ℕ → Got Rows
listing n z e = record { val = rows_of n z; at = e }

-- what an answer says: the frames in its rows and the position past them, or the fault
abbrev pub framed_as : List ℕ → Result (Got Rows) faults.Fault → Res (List Frame)
framed_as u r = res_as (frames_of u) r

-- rows that the walk may use
pub record Usable (x : Site) (u : List ℕ) (g : Rows) : Type 0 where
  pub laid : Laid u g
  pub room : g.at + 68 * g.count + 68 ≤ 65184
  pub locals : g.locals ≡ x.locals

-- n frames from q on, the first with m locals before it; the table f whole
module _ (s t : List ℕ) (x : Site) (f : List ℕ) where
  unfoldable pub frames_by : ℕ → ℕ → ℕ → Res (List Frame)
  frames_by n m q = frames_from (program_at s (front t) x) (method_at s (front t) x) (lines_at s t x) f n 0 0 (list_in t m) q

  unfoldable pub table_by : Res (List Frame)
  table_by = table_at (program_at s (front t) x) (method_at s (front t) x) (lines_at s t x) f

-- what is read stands in rows, and what the walk asks of the scratch still holds
pub record Listed (s t : List ℕ) (x : Site) (table : Res (List Frame)) (r : Result (Got Rows) faults.Fault) (u : List ℕ) : Type 0 where
  pub is : framed_as u r ≡ table
  pub wrong : IfErr r (λ e. number e.0 ≡ 14)
  pub front : front u ≡ front t
  pub ready : Readable s u x
  pub rows : IfOk r (λ g. Usable x u g.val)

-- k of n frames stand in rows; the next stands at `at`, with l locals before it, and a delta of 0 leads to `from`
pub record RowsRead (s t : List ℕ) (x : Site) (f : List ℕ) (n m q : ℕ) (u : List ℕ) (k from l at : ℕ) : Type 0 where
  pub is :
      pre (frames_at u x.locals 46752 k) (frames_from (program_at s (front t) x) (method_at s (front t) x) (lines_at s t x) f (n - k) k from (list_in u l) at)
      ≡ frames_by s t x f n m q
  pub front : front u ≡ front t
  pub ready : Readable s u x
  pub long : length u ≡ length t
  pub few : k ≤ n
  pub locals : l ≤ x.locals
  pub near : from ≤ 65536
  pub rising : (i j : ℕ) → i < j → j < k → word u (46752 + 68 * i + 64) < word u (46752 + 68 * j + 64)
  pub under : (i : ℕ) → i < k → word u (46752 + 68 * i + 64) < from

-- the definition's frames of the method that the scratch stands for
abbrev pub frames_on : List ℕ → List ℕ → Site → Res (List Frame)
frames_on s u x = frames (program_at s (front u) x) (method_at s (front u) x)

-- the frames of the method at x: in rows, with the position past them, or the fault
pub record FramesRead (s t : List ℕ) (x : Site) (r : Result (Got Rows) faults.Fault) (u : List ℕ) : Type 0 where
  pub front : front u ≡ front t
  pub is : framed_as u r ≡ frames_on s u x
  pub wrong : IfErr r (λ e. number e.0 ≡ 14)
  pub rows : IfOk r (λ g. Usable x u g.val)
  pub ready : Readable s u x
