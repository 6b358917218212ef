-- Demand 3: what is accepted never gets stuck, from the bytes.
use Rattle.std.specs.Prelude.{ℕ, zero, suc, ◌+◌, List}
use Rattle.reader.specs.BuiltIns.{first_class}
use Rattle.classfiles.specs.Descriptors.{Desc}
use Rattle.reader.specs.Program.{Program, method}
use Rattle.plain.specs.Heap.{Heap}
use Rattle.plain.specs.Machine.{Machine, heap_of, Result}
use Rattle.plain.specs.Run.{Ran, turn, run, started}
use Rattle.facts.specs.Classes.{Link}
use Rattle.facts.specs.Linking.{linking}
use Rattle.soundness.specs.Demand3.{EndOk, Sound}
use Rattle.soundness.specs.Accepted.{Accepted, accepted}
use Rattle.soundness.specs.Inv.{Inv, Good, goes, ends, full, deep}
use Rattle.soundness.specs.Calls.{Accepts}
use Rattle.soundness.specs.Theorem.{passing, entry, start_ok, answer}
use Rattle.soundness.proofs.Exec.{step_ok}

-- ---- a run of any length
turn_ok : {P : Program} {E : List Desc} {r : Result} → Good P E r → (n : ℕ) (H : Heap) (k : Machine → Ran) → ((K : Machine) → Inv P E K → EndOk P E (k K).heap (k K).end) → EndOk P E (turn r n H k).heap (turn r n H k).end
unfolding turn
turn_ok (goes {K} i) n H k f = f K i
turn_ok (ends e) n H k f = e
turn_ok full n H k f = tt
turn_ok deep n H k f = tt

pub run_ok : {P : Program} (L : Link P) → Accepts P → (E : List Desc) (left n : ℕ) (K : Machine) → Inv P E K → EndOk P E (run P left n K).heap (run P left n K).end
unfolding run
run_ok L acc E zero n K i = tt
run_ok L acc E (suc left) n K i = turn_ok (step_ok L acc E i) n (heap_of K) _ (λ K' i'. run_ok L acc E left (suc n) K' i')

-- ---- the theorem
pub sound : Sound
sound s v P e i j h args n cells budget =
    let a : Accepted s P = accepted s v P e in
    let L : Link P = linking a.before.read in
    let acc : Accepts P = passing a in (
      run P budget 0 (started P cells i j args),
      answer s P e i j h args n cells budget,
      run_ok L acc (method P (first_class + i) j).results budget 0 (started P cells i j args) (start_ok L acc i j (entry P i j h) args cells n),
    )
