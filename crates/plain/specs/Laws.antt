-- What callers use of the machine's definitions.
use Rattle.std.specs.Prelude.{◌≡◌, ℕ, suc, Bool, true, false, cond, List, ◌∷◌, nat_lt}
use Rattle.std.proofs.Common.{ap}
use Rattle.reader.specs.BuiltIns.{array_store}
use Rattle.classfiles.specs.Descriptors.{Desc, arr}
use Rattle.reader.specs.Program.{Program}
use Rattle.rules.specs.Instruction.{aastore}
use Rattle.rules.specs.Types.{is_dint, ref_fits}
use Rattle.plain.specs.Heap.{Val, num, ref, ready_at, type_at, size_at, value_fits}
use Rattle.plain.specs.Machine.{Here, fault, receiver}
use Rattle.plain.specs.Step.{object_desc, element, execute}
use Rattle.plain.specs.Run.{Lent, size_wrong, answer_of, sizes_ok, run_of}

-- where nothing lent is of a wrong size the answer is the bundle's and the heap's alone
pub run-answer : (s : List ℕ) (t : Lent) (i j : ℕ) (args : List ℕ) (budget : ℕ) → sizes_ok t budget ≡ true
    → (run_of s t i j args budget).answer ≡ answer_of s t.heap i j args budget
unfolding run_of
run-answer s t i j args budget h = ap (λ (b : Bool). cond b (answer_of s t.heap i j args budget) size_wrong) h

-- aastore's run-time check: an element that does not fit the array faults with ArrayStoreException
pub store_checked : (P : Program) (x : Here) (w : Val) (i a : ℕ) (d : Desc) (vs : List Val) → value_fits P x.heap object_desc w ≡ true
    → ready_at x.heap a ≡ true → type_at x.heap a ≡ arr d → is_dint d ≡ false → nat_lt i (size_at x.heap a) ≡ true
    → value_fits P x.heap d w ≡ false → execute P x (w ∷ num i ∷ ref (suc a) ∷ vs) aastore ≡ fault P x array_store
unfolding execute element receiver ref_fits
store_checked P x w i a d vs fits_object ready type not_ints inside unfit =
    rw (fits_object, ready, type, not_ints, inside, unfit)
