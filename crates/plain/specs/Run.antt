-- A run from the bytes: refusals 20 to 23, the plain machine's end, and what is left in every lent buffer.
use Rattle.std.specs.Prelude.{ℕ, zero, suc, ◌+◌, Bool, true, false, cond, List, [], ◌∷◌, map, length, replicate, ◌==◌, nat_le, nat_lt}
use Rattle.kit.specs.Claims.{fail}
use Rattle.classfiles.specs.Limits.{scratch_size, max_heap, slot_count, max_budget}
use Rattle.reader.specs.Verdicts.{Refusal, numbers}
use Rattle.reader.specs.BuiltIns.{first_class}
use Rattle.classfiles.specs.Descriptors.{Desc}
use Rattle.reader.specs.Program.{Program, class, method, class_count}
use Rattle.reader.specs.Link.{Read, refused, program}
use Rattle.rules.specs.Opcodes.{body}
use Rattle.rules.specs.Types.{is_dint}
use Rattle.shaping.specs.Verify.{read_shaped}
use Rattle.plain.specs.Heap.{Heap, heap, Val, num, to_cell, padded_locals}
use Rattle.plain.specs.Machine.{call, Machine, machine, heap_of, End, returned, uncaught, out_of_steps, heap_full, depth_full, stuck, Result, next, ended, stopped}
use Rattle.plain.specs.Step.{step}

-- end, step count, heap
pub record Ran : Type 0 where
  pub end : End
  pub count : ℕ
  pub heap : Heap

abbrev pub ran : End → ℕ → Heap → Ran
ran e n H = record { end = e; count = n; heap = H }

-- what executes or throws is counted; what is stopped changes nothing and is not
unfoldable pub turn : Result → ℕ → Heap → (Machine → Ran) → Ran
turn (next K) n H k = k K
turn (ended e H') n H k = ran e (suc n) H'
turn (stopped e) n H k = ran e n H

-- the steps that are left, those that were made
unfoldable pub run : Program → ℕ → ℕ → Machine → Ran
run P zero n K = ran out_of_steps n (heap_of K)
run P (suc left) n K = turn (step P K) n (heap_of K) λ K'. run P left (suc n) K'

-- ---- the entry: a static method of the bundle whose parameters are all int
unfoldable pub all_ints : List Desc → Bool
all_ints [] = true
all_ints (d ∷ ds) = cond (is_dint d) (all_ints ds) false

unfoldable pub is_entry : Program → ℕ → ℕ → Bool
is_entry P i j =
    cond (nat_lt (first_class + i) (class_count P))
    (cond (nat_lt j (length (class P (first_class + i)).methods))
    (cond (method P (first_class + i) j).static (all_ints (method P (first_class + i) j).params) false) false) false

-- arguments are 32-bit cells
unfoldable pub started : Program → List ℕ → ℕ → ℕ → List ℕ → Machine
started P cells i j args =
    machine (heap cells 0) (call (first_class + i) j 0 0 (padded_locals (body (method P (first_class + i) j)).max_locals (map num args)) []) []

-- ---- answers
pub data Answer : Type 0 where
  size_wrong : Answer
  bundle_refused : Refusal → Answer
  no_entry : Answer
  argument_count : Answer
  ending : Ran → Answer

-- the numbers of the ends, in document 01's order
abbrev pub end_number : End → ℕ
end_number (returned vs) = 1
end_number (uncaught c) = 2
end_number out_of_steps = 3
end_number heap_full = 4
end_number depth_full = 5
end_number stuck = 6

abbrev pub result : List Val → ℕ
result [] = 0
result (v ∷ vs) = to_cell v

-- what is returned, or the uncaught class; else 0
abbrev pub end_value : End → ℕ
end_value (returned vs) = result vs
end_value (uncaught c) = c
end_value out_of_steps = 0
end_value heap_full = 0
end_value depth_full = 0
end_value stuck = 0

abbrev pub refused_with : ℕ → List ℕ → List ℕ
refused_with n v = n ∷ 0 ∷ 0 ∷ 0 ∷ 0 ∷ v

abbrev pub no_verdict : List ℕ
no_verdict = 0 ∷ 0 ∷ 0 ∷ 0 ∷ []

-- refusal, end, value, count, cells used; then with 21 the verdict's four numbers, else zeros
unfoldable pub answer_numbers : Answer → List ℕ
answer_numbers size_wrong = refused_with 20 no_verdict
answer_numbers (bundle_refused r) = refused_with 21 (numbers (fail r))
answer_numbers no_entry = refused_with 22 no_verdict
answer_numbers argument_count = refused_with 23 no_verdict
answer_numbers (ending R) = 0 ∷ end_number R.end ∷ end_value R.end ∷ R.count ∷ R.heap.used ∷ no_verdict

-- 22 and 23, then the run
unfoldable pub entered : Program → List ℕ → ℕ → ℕ → List ℕ → ℕ → Answer
entered P cells i j args budget =
    cond (is_entry P i j)
    (cond (length args == length (method P (first_class + i) j).params) (ending (run P budget 0 (started P cells i j args))) argument_count)
    no_entry

unfoldable pub answered : Read → List ℕ → ℕ → ℕ → List ℕ → ℕ → Answer
answered (refused r) cells i j args budget = bundle_refused r
answered (program P) cells i j args budget = entered P cells i j args budget

-- the answer where nothing lent is of a wrong size
unfoldable pub answer_of : List ℕ → List ℕ → ℕ → ℕ → List ℕ → ℕ → Answer
answer_of s cells i j args budget = answered (read_shaped s) cells i j args budget

-- ---- what is lent, and what is left of it
pub record Lent : Type 0 where
  pub scratch : List ℕ
  pub heap : List ℕ
  pub slots : List ℕ
  pub tags : List ℕ

unfoldable pub sizes_ok : Lent → ℕ → Bool
sizes_ok t budget =
    cond (nat_lt (length t.scratch) scratch_size) false
    (cond (nat_lt max_heap (length t.heap)) false
    (cond (length t.slots == slot_count) (cond (length t.tags == slot_count) (nat_le budget max_budget) false) false))

pub record Outcome : Type 0 where
  pub answer : Answer
  pub lent : Lent

abbrev pub zeros : List ℕ → List ℕ
zeros t = replicate (length t) 0

-- a refusal 21 .. 23 clears the scratch alone; a run clears slots and tags too and leaves its heap
abbrev pub left_of : Lent → Answer → Lent
left_of t size_wrong = t
left_of t (bundle_refused r) = record { scratch = zeros t.scratch; heap = t.heap; slots = t.slots; tags = t.tags }
left_of t no_entry = record { scratch = zeros t.scratch; heap = t.heap; slots = t.slots; tags = t.tags }
left_of t argument_count = record { scratch = zeros t.scratch; heap = t.heap; slots = t.slots; tags = t.tags }
left_of t (ending R) = record { scratch = zeros t.scratch; heap = R.heap.cells; slots = zeros t.slots; tags = zeros t.tags }

abbrev pub outcome : Lent → Answer → Outcome
outcome t a = record { answer = a; lent = left_of t a }

unfoldable pub run_of : List ℕ → Lent → ℕ → ℕ → List ℕ → ℕ → Outcome
run_of s t i j args budget = outcome t (cond (sizes_ok t budget) (answer_of s t.heap i j args budget) size_wrong)
