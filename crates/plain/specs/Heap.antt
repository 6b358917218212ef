-- The heap in cells: objects and arrays as document 01 lays them out; values, and which fits where.
use Rattle.std.specs.Prelude.{ℕ, zero, suc, ◌+◌, ◌-◌, ◌^◌, Bool, true, false, cond, List, [], ◌∷◌, ◌++◌, length, take, drop, replicate, ◌==◌, nat_le, slice_index, slice_set}
use Rattle.classfiles.specs.Descriptors.{Ref, cls, arr, Desc, dint, dref, dimensions}
use Rattle.reader.specs.Program.{Program}
use Rattle.rules.specs.Types.{ref_fits}

-- the lent cells, of which the first `used` are in use
pub record Heap : Type 0 where
  pub cells : List ℕ
  pub used : ℕ

abbrev pub heap : List ℕ → ℕ → Heap
heap cs n = record { cells = cs; used = n }

-- an empty local, an int, or a reference: header index + 1, null 0
pub data Val : Type 0 where
  empty : Val
  num ref : ℕ → Val

abbrev pub null : Val
null = ref 0

abbrev pub cell : Heap → ℕ → ℕ
cell H i = slice_index H.cells i

-- ---- headers: class number or base (-1 for int), depth, number of fields or elements, ready
abbrev pub int_base : ℕ
int_base = 2 ^ 32 - 1

unfoldable pub desc_of : ℕ → ℕ → Desc
desc_of b zero = cond (b == int_base) dint (dref (cls b))
desc_of b (suc d) = dref (arr (desc_of b d))

abbrev pub ref_of : ℕ → ℕ → Ref
ref_of b zero = cls b
ref_of b (suc d) = arr (desc_of b d)

unfoldable mutual
  pub base_of : Ref → ℕ
  base_of (cls c) = c
  base_of (arr d) = element_base d

  pub element_base : Desc → ℕ
  element_base dint = int_base
  element_base (dref r) = base_of r

unfoldable pub type_at : Heap → ℕ → Ref
type_at H a = ref_of (cell H a) (cell H (a + 1))

abbrev pub size_at : Heap → ℕ → ℕ
size_at H a = cell H (a + 2)

abbrev pub ready_at : Heap → ℕ → Bool
ready_at H a = cell H (a + 3) == 1

-- the cell of the i-th field or element
abbrev pub element_at : ℕ → ℕ → ℕ
element_at a i = a + 4 + i

unfoldable pub store : Heap → ℕ → ℕ → Heap
store H i v = heap (slice_set H.cells i v) H.used

unfoldable pub mark_ready : Heap → ℕ → Heap
mark_ready H a = store H (a + 3) 1

-- 4 cells and one for each field or element, which start as zero
abbrev pub need : ℕ → ℕ
need n = 4 + n

abbrev pub header : Ref → ℕ → ℕ → List ℕ
header r n ready = base_of r ∷ dimensions r ∷ n ∷ ready ∷ []

unfoldable pub allocate : Heap → Ref → ℕ → ℕ → Heap
allocate H r n ready =
    heap (take H.used H.cells ++ ((header r n ready ++ replicate n 0) ++ drop (H.used + need n) H.cells)) (H.used + need n)

unfoldable pub has_room : Heap → ℕ → Bool
has_room H n = nat_le (H.used + need n) (length H.cells)

-- the reference to what is allocated next
abbrev pub next_ref : Heap → ℕ
next_ref H = suc H.used

-- ---- values and cells
abbrev pub to_cell : Val → ℕ
to_cell empty = 0
to_cell (num a) = a
to_cell (ref r) = r

abbrev pub from_cell : Desc → ℕ → Val
from_cell dint a = num a
from_cell (dref r) a = ref a

abbrev pub is_num : Val → Bool
is_num empty = false
is_num (num a) = true
is_num (ref r) = false

abbrev pub is_ref : Val → Bool
is_ref empty = false
is_ref (num a) = false
is_ref (ref r) = true

-- null, or a ready object of a type that fits u
abbrev pub refers_to : Program → Heap → Ref → Val → Bool
refers_to P H u empty = false
refers_to P H u (num a) = false
refers_to P H u (ref zero) = true
refers_to P H u (ref (suc a)) = cond (ready_at H a) (ref_fits P (type_at H a) u) false

-- it may stand where the descriptor asks for it
abbrev pub value_fits : Program → Heap → Desc → Val → Bool
value_fits P H dint v = is_num v
value_fits P H (dref u) v = refers_to P H u v

-- missing locals are empty
abbrev pub padded_locals : ℕ → List Val → List Val
padded_locals n vs = vs ++ replicate (n - length vs) empty
