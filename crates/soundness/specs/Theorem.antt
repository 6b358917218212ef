-- What is accepted has passed, and its runs start in good order.
use Rattle.std.specs.Prelude.{ℕ, zero, suc, ◌+◌, ◌-◌, ◌<◌, ◌≤◌, ◌≡◌, refl, true, false, List, [], ◌∷◌, map, length, T, ltb}
use Rattle.std.proofs.Math.Option.{none}
use Rattle.std.proofs.Common.{arith, ltb→lt, eq-eqb}
use Rattle.kit.specs.Bools.{T_true, T_false}
use Rattle.reader.specs.BuiltIns.{first_class}
use Rattle.classfiles.specs.Descriptors.{Desc, dint, dref}
use Rattle.reader.specs.Program.{Program, class, method, class_count, is_constructor}
use Rattle.reader.specs.Link.{program}
use Rattle.rules.specs.Frames.{Frame}
use Rattle.shaping.specs.Verify.{read_shaped}
use Rattle.plain.specs.Heap.{Heap, heap, num}
use Rattle.plain.specs.Machine.{Machine, heap_of, End, returned, uncaught, out_of_steps, heap_full, depth_full, stuck, Result, next, ended, stopped}
use Rattle.plain.specs.Step.{step}
use Rattle.plain.specs.Run.{end_number, Ran, turn, run, all_ints, is_entry, started, ending, entered, answered, answer_of}
use Rattle.facts.specs.Base.{first_of, second_of}
use Rattle.facts.specs.Parsing.{results_few}
use Rattle.facts.specs.Classes.{Link}
use Rattle.facts.specs.Linking.{linking}
use Rattle.soundness.specs.Pairs.{All2, anil, acons}
use Rattle.soundness.specs.Demand3.{EndOk}
use Rattle.soundness.specs.Accepted.{Accepted, Judged}
use Rattle.soundness.specs.Tables.{table_ok}
use Rattle.soundness.specs.Typing.{HTys, VD, vdint}
use Rattle.soundness.specs.Blocks.{nothing_ok}
use Rattle.soundness.specs.Inv.{Checked, dnone, fclr, nobody, cnil, Inv, inv}
use Rattle.soundness.specs.Calls.{Accepts, args_typed, entering}

-- ---- what is accepted has passed
pub passing : {s : List ℕ} {P : Program} → Accepted s P → Accepts P
passing {P = P} a = record { passed = λ c m h l. go (c - first_class) c (omega arith) m h l }
  where
    go : (i c : ℕ) → c ≡ first_class + i → (m : ℕ) → first_class ≤ c → m < length (class P c).methods → (fs : List Frame) × Checked P (method P c m) fs
    go i c e m h l =
        let j : Judged P (method P c m) = rw e (a.judged i m (rw e at l)) in
        let L : Link P = linking a.before.read in
        let f : length (method P c m).results ≤ 1 = rw (L.results c m h l) (results_few L.number (method P c m).sig.descriptor 0) in
        (j.table, record { claims = j.claims; table = table_ok P (method P c m) j.table j.end j.read; single = f })

-- ---- the start
ints_typed : {P : Program} {Ψ : HTys} (args : List ℕ) (Ds : List Desc) → T (all_ints Ds) → length args ≡ length Ds → All2 (VD P Ψ) (map num args) Ds
unfolding all_ints
ints_typed [] [] h e = anil
ints_typed [] (D ∷ Ds) h e = absurd (omega arith)
ints_typed (a ∷ as') [] h e = absurd (omega arith)
ints_typed (a ∷ as') (dint ∷ Ds) h e = acons vdint (ints_typed as' Ds h (omega arith))
ints_typed (a ∷ as') (dref u ∷ Ds) h e = absurd h

-- what an entry is
pub record Entry (P : Program) (i j : ℕ) : Type 0 where
  pub there : j < length (class P (first_class + i)).methods
  pub static : (method P (first_class + i) j).static ≡ true
  pub ints : T (all_ints (method P (first_class + i) j).params)

pub entry : (P : Program) (i j : ℕ) → T (is_entry P i j) → Entry P i j
unfolding is_entry
entry P i j h =
    let a = second_of (ltb (first_class + i) (class_count P)) _ h in
    let b = second_of (ltb j (length (class P (first_class + i)).methods)) _ a in
    record {
      there = ltb→lt j (length (class P (first_class + i)).methods) (first_of (ltb j (length (class P (first_class + i)).methods)) _ a);
      static = T_true (method P (first_class + i) j).static (first_of (method P (first_class + i) j).static _ b);
      ints = second_of (method P (first_class + i) j).static _ b;
    }

pub start_ok : {P : Program} (L : Link P) → Accepts P → (i j : ℕ) → Entry P i j → (args cells : List ℕ) → length args ≡ length (method P (first_class + i) j).params
    → Inv P (method P (first_class + i) j).results (started P cells i j args)
unfolding started
start_ok {P} L acc i j e args cells n =
    let c : ℕ = first_class + i in
    let k = acc.passed c j (omega arith) e.there in
    inv (λ a. none) k.0 (nothing_ok P (heap cells 0) (omega arith)) k.1
    (entering L 0 0 (λ j. 0) (map num args) k.1 (rw plain (fclr dnone)) nobody (rw e.static (args_typed (method P c j) 0 (λ j. 0) (ints_typed args (method P c j).params e.ints n)))) cnil
  where
    plain : is_constructor (method P (first_class + i) j) ≡ false
    plain = T_false (is_constructor (method P (first_class + i) j)) (λ t. let z : (method P (first_class + i) j).static ≡ false = L.bound (first_class + i) j t in let y = e.static in let w : ◌≡◌ {A = ℕ} 0 1 = cc in omega arith)

-- ---- what a run answers
pub answer : (s : List ℕ) (P : Program) → read_shaped s ≡ program P → (i j : ℕ) → T (is_entry P i j) → (args : List ℕ) → length args ≡ length (method P (first_class + i) j).params → (cells : List ℕ) (budget : ℕ)
    → answer_of s cells i j args budget ≡ ending (run P budget 0 (started P cells i j args))
unfolding answer_of answered entered
answer s P e i j h args n cells budget = rw (e, T_true (is_entry P i j) h, eq-eqb (length args) (length (method P (first_class + i) j).params) n) refl

-- the numbers 1 to 5, never 6
pub ends_well : (P : Program) (ds : List Desc) (H : Heap) (e : End) → EndOk P ds H e → end_number e ≤ 5
ends_well P ds H (returned vs) h = omega arith
ends_well P ds H (uncaught c) h = omega arith
ends_well P ds H out_of_steps h = omega arith
ends_well P ds H heap_full h = omega arith
ends_well P ds H depth_full h = omega arith
ends_well P ds H stuck h = absurd h

-- a run never makes more steps than its budget
turn-count : (r : Result) (n left : ℕ) (H : Heap) (k : Machine → Ran) → ((K : Machine) → (k K).count ≤ suc n + left) → (turn r n H k).count ≤ n + suc left
unfolding turn
turn-count (next K) n left H k f = let i = f K in omega arith
turn-count (ended e H') n left H k f = omega arith
turn-count (stopped e) n left H k f = omega arith

pub run-count : (P : Program) (left n : ℕ) (K : Machine) → (run P left n K).count ≤ n + left
unfolding run
run-count P zero n K = omega arith
run-count P (suc left) n K = turn-count (step P K) n left (heap_of K) _ (λ K'. run-count P left (suc n) K')
