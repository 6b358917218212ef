-- What a packed word stands for: kind + 8 * depth + 64 * number. Every number is read as some type.
use Rattle.std.specs.Prelude.{ℕ, zero, suc, ◌/◌, ◌%◌, Bool, false, cond, eqb, ltb}
use Rattle.classfiles.specs.Descriptors.{cls, arr, Desc, dint, dref}
use Rattle.reader.specs.Program.{Program, below}
use Rattle.rules.specs.Types.{at, self, Ty, top, int, null, ini, uninit, desc_fits}

-- an array's base: a class by its number, or int by a number that no class has
abbrev pub int_base : ℕ
int_base = 65535

unfoldable pub base_of : ℕ → Desc
base_of b = cond (eqb b int_base) dint (dref (cls b))

-- the base under d brackets
unfoldable pub nest : ℕ → ℕ → Desc
nest b zero = base_of b
nest b (suc d) = dref (arr (nest b d))

-- an array's depth is that of its elements
abbrev pub type_by : ℕ → ℕ → ℕ → Ty
type_by k d n =
    cond (eqb k 1) int
    (cond (eqb k 2) null
    (cond (eqb k 3) (ini (cls n))
    (cond (eqb k 4) (ini (arr (nest n d))) (cond (eqb k 5) (uninit (at n)) (cond (ltb 5 k) (uninit self) top)))))

unfoldable pub type_of : ℕ → Ty
type_of w = type_by (w % 8) (w / 8 % 8) (w / 64)

-- ---- what the code tests of two arrays: their bases, and bases under brackets
unfoldable pub base_fits : Program → ℕ → ℕ → Bool
base_fits P b e = cond (eqb e int_base) (eqb b int_base) (cond (eqb b int_base) false (below P b e))

unfoldable pub nest_fits : Program → ℕ → ℕ → ℕ → ℕ → Bool
nest_fits P b d e x = cond (eqb d x) (desc_fits P (base_of b) (base_of e)) (cond (ltb x d) (eqb e 0) false)
