-- Demand 3 as a type: what an accepted bundle's runs end as, from the bytes.
use Rattle.std.specs.Prelude.{ℕ, ◌+◌, ◌≡◌, Bool, true, false, cond, List, [], ◌∷◌, length, T}
use Rattle.kit.specs.Claims.{pass}
use Rattle.reader.specs.BuiltIns.{throwable, first_class}
use Rattle.classfiles.specs.Descriptors.{Desc}
use Rattle.reader.specs.Program.{Program, method, below}
use Rattle.reader.specs.Link.{program}
use Rattle.shaping.specs.Verify.{read_shaped, verdict_of}
use Rattle.plain.specs.Heap.{Heap, Val, value_fits}
use Rattle.plain.specs.Machine.{End, returned, uncaught, out_of_steps, heap_full, depth_full, stuck}
use Rattle.plain.specs.Run.{Ran, is_entry, ending, answer_of}

-- what is returned is as the descriptor has it: so many values, each of which fits in the final heap
unfoldable pub results_fit : Program → Heap → List Desc → List Val → Bool
results_fit P H [] [] = true
results_fit P H [] (v ∷ vs) = false
results_fit P H (d ∷ ds) [] = false
results_fit P H (d ∷ ds) (v ∷ vs) = cond (value_fits P H d v) (results_fit P H ds vs) false

-- a run may end so; what is uncaught is a Throwable
abbrev pub EndOk : Program → List Desc → Heap → End → Type 0
EndOk P ds H (returned vs) = T (results_fit P H ds vs)
EndOk P ds H (uncaught c) = T (below P c throwable)
EndOk P ds H out_of_steps = Unit {0}
EndOk P ds H heap_full = Unit {0}
EndOk P ds H depth_full = Unit {0}
EndOk P ds H stuck = ⊥

-- accepted bytes, a static method whose parameters are all int, a number for each, any budget and heap:
-- the run is not refused and ends well
abbrev pub Sound : Type 0
Sound =
    (s : List ℕ) → verdict_of s ≡ pass → (P : Program) → read_shaped s ≡ program P → (i j : ℕ) → T (is_entry P i j)
    → (args : List ℕ) → length args ≡ length (method P (first_class + i) j).params → (cells : List ℕ) (budget : ℕ)
    → (R : Ran) × (answer_of s cells i j args budget ≡ ending R) × EndOk P (method P (first_class + i) j).results R.heap R.end
