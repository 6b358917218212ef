-- Demand 3 over `verdict_of` and `run_of`, as the contracts of verify and run cite them: the statement.
use Rattle.std.specs.Prelude.{ℕ, ◌+◌, ◌≡◌, refl, true, List, length, T}
use Rattle.kit.specs.Claims.{pass, fail_pass}
use Rattle.reader.specs.BuiltIns.{first_class}
use Rattle.reader.specs.Program.{Program, method}
use Rattle.reader.specs.Link.{Read, refused, program}
use Rattle.shaping.specs.Verify.{read_shaped, type_read, verdict_of}
use Rattle.plain.specs.Run.{Ran, is_entry, ending, Lent, sizes_ok, run_of}
use Rattle.soundness.specs.Demand3.{EndOk}

-- accepted bytes are a program, and whatever is lent in the right sizes with a permitted budget, a run of a static method whose
-- parameters are all int, with a number for each, is not refused and ends well
abbrev pub Demand3 : Type 0
Demand3 =
    (s : List ℕ) → verdict_of s ≡ pass
    → (P : Program) × (read_shaped s ≡ program P)
    × ((i j : ℕ) → T (is_entry P i j) → (args : List ℕ) → length args ≡ length (method P (first_class + i) j).params
    → (t : Lent) (budget : ℕ) → sizes_ok t budget ≡ true
    → (R : Ran) × ((run_of s t i j args budget).answer ≡ ending R) × EndOk P (method P (first_class + i) j).results R.heap R.end)

pub a_program : (r : Read) → type_read r ≡ pass → (P : Program) × (r ≡ program P)
unfolding type_read
a_program (refused x) e = absurd (fail_pass x e)
a_program (program P) e = (P, refl)
