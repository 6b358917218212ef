-- What an instruction that returns comes to, by the code's tests. Assumes nothing.
use Rattle.std.specs.Prelude.{Option as Found, Some, None, ◌≡◌, refl, Bool, true, false, cond, not, length}
use Rattle.std.proofs.Common.{sym, ◌∙◌, ℕ, suc, ◌+◌, ◌-◌, ◌^◌, ◌<◌, ◌≤◌, ap, List, [], ◌∷◌, arith, ne_eqb, eq-eqb}
use borrow.Author.Tests.{not-true, not-false}
use Rattle.kit.specs.Bools.{not_so}
use Rattle.classfiles.specs.Descriptors.{Desc, dint, dref}
use Rattle.reader.specs.Program.{Program, Method}
use Rattle.reader.specs.TypeCodes.{results_in, result_of, desc_of as code_desc}
use Rattle.rules.specs.Ancestry.{lineage}
use Rattle.rules.specs.Types.{is_dint}
use Rattle.rules.specs.Rule.{returns_int, returns_ref, returns_void}
use Rattle.rules.specs.Sites.{front}
use Rattle.shaping.specs.Phases.{program_now}
use Rattle.plain.specs.Heap.{Heap, heap, Val, empty, value_fits}
use Rattle.plain.specs.Machine.{stuck, Result, stopped, ended, returned, Here, method_at, only, pop_arguments, give_back}
use Rattle.plain.specs.Step.{self_ready, leave, leave_with}
use Rattle.plain.specs.Objects.{self_here, fits_here}
use Rattle.plain.specs.ValueLaws.{value_of, value_empty}
use Rattle.plain.specs.Windows.{val_at, ops_of}
use Rattle.plain.specs.Calls.{window_at, frame_at, waiting}
use Rattle.plain.specs.CallSteps.{Lent, Runs, at_of, Gives, back_last}
use Rattle.plain.specs.declared.frames.Frame.{Frame}
use Rattle.plain.specs.declared.values.Value.{Value}
use Rattle.plain.specs.declared.calls.Running.{Running}
use Rattle.running.specs.declared.leaving.Left.{Left}
use Rattle.running.specs.declared.leaving.Left.TheVariants.{Back, Out}
use Rattle.running.specs.Standing.{records, method_by, Standing, innermost, standing-back, passed}
use Rattle.running.specs.Calling.{entry_at, entry_small, results_are, parents_of}

-- ---- what the code's answer stands for: back in a call, out of the run with what is returned, or stuck
abbrev pub given_of : Found Value → List Val
given_of None = []
given_of (Some v) = value_of v.tag v.cell ∷ []

abbrev pub left_of : Heap → List ℕ → List ℕ → List ℕ → Found Left → Result
left_of H t s g None = stopped stuck
left_of H t s g (Some (Back r)) = at_of H t records s g r
left_of H t s g (Some (Out v)) = ended (returned (given_of v)) H

-- what stands then: the call that goes on, or what stood before
abbrev pub left_stands : (Running → Type 0) → Type 0 → Found Left → Type 0
left_stands A B None = B
left_stands A B (Some (Back r)) = A r
left_stands A B (Some (Out v)) = B

-- the outcome is what the definition says in every context that stands where the code does
pub record Leaves (b : List ℕ) (n : ℕ) (t s g cells s' g' : List ℕ) (d : ℕ) (k : Frame) (r : Found Left) (what : Here → Result) : Type 0 where
  pub is : (x : Here) (used : ℕ) → Runs x t s g records d k → x.heap ≡ heap cells used → left_of (heap cells used) t s' g' r ≡ what x
  pub stands : left_stands (λ o. Standing b n t s' g' o.depth o.call) ((s' ≡ s) × (g' ≡ g)) r

module _ (b : List ℕ) (n : ℕ) (t s g cells : List ℕ) (d : ℕ) (k : Frame) (what : Here → Result) where
  pub leaves_stuck : ((x : Here) (used : ℕ) → Runs x t s g records d k → x.heap ≡ heap cells used → what x ≡ stopped stuck) → Leaves b n t s g cells s g d k None what
  leaves_stuck h = record { is = λ x used z q. sym (h x used z q); stands = (refl, refl) }

  pub leaves_as : (s' g' : List ℕ) (r : Found Left) (rest : Here → Result) → Leaves b n t s g cells s' g' d k r rest
      → ((x : Here) (used : ℕ) → Runs x t s g records d k → x.heap ≡ heap cells used → what x ≡ rest x) → Leaves b n t s g cells s' g' d k r what
  leaves_as s' g' r rest z h = record { is = λ x used y q. z.is x used y q ∙ sym (h x used y q); stands = z.stands }

-- ---- once the value is known: a constructor's object is ready; back, or out of the run
abbrev pub leave_by : List ℕ → ℕ → List ℕ → List Val → Here → Result
leave_by b n t rs x = leave (program_now b n t) x rs

module _ (b : List ℕ) (n : ℕ) (t s g cells : List ℕ) (d : ℕ) (k : Frame) (h : Standing b n t s g d k) (rs : List Val) (ok : Bool) (e : ok ≡ self_ready (heap cells 0) k.own) where
  leave_is : (x : Here) (used : ℕ) → Runs x t s g records d k → x.heap ≡ heap cells used
      → leave_by b n t rs x ≡ only ok (give_back (program_now b n t) (heap cells used) rs (waiting t records s g d))
  unfolding leave
  leave_is x used z q = rw (q, z.self, z.waiting, ← self_here cells used ok k.own e)

  pub given-stuck : not ok ≡ true → Leaves b n t s g cells s g d k None (leave_by b n t rs)
  given-stuck f = leaves_stuck b n t s g cells d k (leave_by b n t rs) (λ x used z q. leave_is x used z q ∙ rw (not-true ok f))

  pub given_last : (v : Found Value) → not ok ≡ false → d ≡ 0 → given_of v ≡ rs → Leaves b n t s g cells s g d k (Some (Out v)) (leave_by b n t rs)
  given_last v f z y = record {
    is = λ x used w q. rw y (sym (leave_is x used w q ∙ rw (not-false ok f, z) (back_last (program_now b n t) (heap cells used) t s g records rs)));
    stands = (refl, refl);
  }

  pub given_back : (s' g' : List ℕ) (r : Running) → not ok ≡ false → (d ≡ 0 → ⊥) → length rs ≤ length (method_by b n (front t) k.class k.method).results
      → Gives t s g s' g' records d 3 rs r → Leaves b n t s g cells s' g' d k (Some (Back r)) (leave_by b n t rs)
  given_back s' g' r f z l y =
      let p : 0 < d = omega arith in
      let w = innermost b n t s g d k h p in
      record {
        is = λ x used v q. y.is (program_now b n t) (heap cells used) w.call.size ∙ sym (leave_is x used v q ∙ rw (not-false ok f));
        stands = rw y.on.0 (standing-back b n t s g d k h p s' g' (length rs) r.call (y.lent h.lent) l y.on.1);
      }

-- what `back` asks of the call that waits
module _ (b : List ℕ) (n : ℕ) (t s g : List ℕ) (d : ℕ) (k : Frame) (h : Standing b n t s g d k) (z : d ≡ 0 → ⊥) where
  pub back-asked : Lent t s g records × (0 < d) × (d ≤ 64) × ((frame_at t records (d - 1)).offset + 3 < 2 ^ 32) × ((frame_at t records (d - 1)).operands ≤ 32)
  back-asked =
      let p : 0 < d = omega arith in
      let w = innermost b n t s g d k h p in
      let q = passed b n t h.ready h.shaped (frame_at t records (d - 1)).class (frame_at t records (d - 1)).method w.placed.of in
      (h.lent, p, omega (arith, h.depth), omega (arith, w.call.behind), omega (arith, w.placed.operands, q.fits.stack))

  pub back_with_asked : 1 ≤ length (method_by b n (front t) k.class k.method).results
      → Lent t s g records × (0 < d) × (d ≤ 64) × ((frame_at t records (d - 1)).offset + 3 < 2 ^ 32) × ((frame_at t records (d - 1)).operands < 32) × ((frame_at t records (d - 1)).locals ≤ 32)
  back_with_asked l =
      let p : 0 < d = omega arith in
      let w = innermost b n t s g d k h p in
      let q = passed b n t h.ready h.shaped (frame_at t records (d - 1)).class (frame_at t records (d - 1)).method w.placed.of in
      (h.lent, p, omega (arith, h.depth), omega (arith, w.call.behind), omega (arith, w.room, l, q.fits.stack), omega (arith, w.placed.locals, q.fits.locals))

-- ---- the instructions
abbrev pub return_by : List ℕ → ℕ → List ℕ → List ℕ → List ℕ → ℕ → Frame → Here → Result
return_by b n t s g d k x = leave_with (program_now b n t) x (returns_void (method_at (program_now b n t) x).results) (ops_of (window_at s d) (window_at g d) k.operands)

abbrev pub is_kind : Bool → List Desc → Bool
is_kind ints ds = cond ints (returns_int ds) (returns_ref ds)

abbrev pub return_value_by : List ℕ → ℕ → List ℕ → List ℕ → List ℕ → ℕ → Frame → Bool → Here → Result
return_value_by b n t s g d k ints x =
    leave_with (program_now b n t) x (is_kind ints (method_at (program_now b n t) x).results) (ops_of (window_at s d) (window_at g d) k.operands)

void_by : (P : Program) (x : Here) (ds : List Desc) (vs : List Val) → length ds ≡ 0
    → only (returns_void ds) (pop_arguments P x.heap ds [] vs (λ rs r. leave P x rs)) ≡ leave P x []
unfolding pop_arguments
void_by P x [] vs e = refl
void_by P x (d ∷ ds) vs e = absurd (omega arith)

not_void : (ds : List Desc) (z : Result) → (length ds ≡ 0 → ⊥) → only (returns_void ds) z ≡ stopped stuck
not_void [] z h = absurd (h refl)
not_void (d ∷ ds) z h = refl

module _ (b : List ℕ) (n : ℕ) (t s g cells : List ℕ) (d : ℕ) (k : Frame) (h : Standing b n t s g d k) where
  abbrev M : Method
  M = method_by b n (front t) k.class k.method

  pub own-entry : entry_at k.class k.method < 1024
  own-entry = entry_small b n t h.ready k.class k.method h.running.of

  own_results : M.results ≡ results_in (front t) (entry_at k.class k.method)
  own_results = results_are b n t h.ready k.class k.method h.running.of

  method_here : (x : Here) → Runs x t s g records d k → method_at (program_now b n t) x ≡ M
  method_here x z = rw (z.class, z.index)

  module _ (v : ℕ) (e : v ≡ length (results_in (front t) (entry_at k.class k.method))) where
    long : v ≡ length M.results
    long = e ∙ ap length (sym own_results)

    pub return_unfit : (v ≡ 0 → ⊥) → Leaves b n t s g cells s g d k None (return_by b n t s g d k)
    unfolding leave_with
    return_unfit z =
        leaves_stuck b n t s g cells d k (return_by b n t s g d k)
        (λ x used y q. rw (method_here x y) (not_void M.results _ (λ i. z (long ∙ i))))

    pub return-fit : (r : Found Left) → v ≡ 0 → Leaves b n t s g cells s g d k r (leave_by b n t []) → Leaves b n t s g cells s g d k r (return_by b n t s g d k)
    unfolding leave_with
    return-fit r z y =
        leaves_as b n t s g cells d k (return_by b n t s g d k) s g r (leave_by b n t []) y
        (λ x used w q. rw (method_here x w) (void_by (program_now b n t) x M.results (ops_of (window_at s d) (window_at g d) k.operands) (sym long ∙ z)))

-- ---- a value
-- it may be given where the method has a result
pub record Giving (b : List ℕ) (n : ℕ) (t s g : List ℕ) (d : ℕ) (k : Frame) (v : Value) : Type 0 where
  pub standing : Standing b n t s g d k
  pub value : v.tag ≡ 0 → ⊥
  pub one : 1 ≤ length (method_by b n (front t) k.class k.method).results

kind_is : (ints : Bool) (D : Desc) → is_kind ints (D ∷ []) ≡ cond ints (is_dint D) (not (is_dint D))
kind_is true dint = refl
kind_is true (dref r) = refl
kind_is false dint = refl
kind_is false (dref r) = refl

kind_none : (ints : Bool) (z : Result) → only (is_kind ints []) z ≡ stopped stuck
kind_none true z = refl
kind_none false z = refl

empty_unfit : (P : Program) (H : Heap) (D : Desc) → value_fits P H D empty ≡ false
empty_unfit P H dint = refl
empty_unfit P H (dref u) = refl

stays_stuck : (q : Bool) → only q (stopped stuck) ≡ stopped stuck
stays_stuck true = refl
stays_stuck false = refl

module _ (b : List ℕ) (n : ℕ) (t s g cells : List ℕ) (d : ℕ) (k : Frame) (h : Standing b n t s g d k) (ints : Bool) (c : ℕ) (e : result_of c ≡ results_in (front t) (entry_at k.class k.method)) where
  abbrev P : Program
  P = program_now b n t

  abbrev what : Here → Result
  what = return_value_by b n t s g d k ints

  as_results : (x : Here) → Runs x t s g records d k → (method_at P x).results ≡ result_of c
  as_results x z = ap (λ (N : Method). N.results) (method_here b n t s g cells d k h x z) ∙ own_results b n t s g cells d k h ∙ sym e

  pub value_none : c ≡ 256 → Leaves b n t s g cells s g d k None what
  unfolding leave_with result_of
  value_none z =
      leaves_stuck b n t s g cells d k what
      (λ x used y q. rw (as_results x y, eq-eqb c 256 z) (kind_none ints _))

  module _ (z : c ≡ 256 → ⊥) where
    abbrev D : Desc
    D = code_desc c

    one_result : result_of c ≡ D ∷ []
    unfolding result_of
    one_result = rw (ne_eqb c 256 z)

    valued : (x : Here) → Runs x t s g records d k
        → what x ≡ only (is_kind ints (D ∷ [])) (pop_arguments P x.heap (D ∷ []) [] (ops_of (window_at s d) (window_at g d) k.operands) (λ rs r. leave P x rs))
    unfolding leave_with
    valued x y = rw (as_results x y, one_result)

    pub value_kind : (o q : Bool) → o ≡ is_dint D → q ≡ cond ints o (not o) → not q ≡ true → Leaves b n t s g cells s g d k None what
    value_kind o q eo eq f =
        let w : is_kind ints (D ∷ []) ≡ false = kind_is ints D ∙ sym (eq ∙ ap (λ (i : Bool). cond ints i (not i)) eo) ∙ not-true q f in
        leaves_stuck b n t s g cells d k what (λ x used y i. valued x y ∙ rw w)

    pub value_missing : k.operands ≡ 0 → Leaves b n t s g cells s g d k None what
    unfolding pop_arguments ops_of
    value_missing o = leaves_stuck b n t s g cells d k what (λ x used y i. valued x y ∙ rw o (stays_stuck (is_kind ints (D ∷ []))))

    module _ (o : k.operands ≡ 0 → ⊥) (v : Value) (ev : value_of v.tag v.cell ≡ val_at (window_at s d) (window_at g d) (32 + (k.operands - 1))) (q : Bool)
        (eq : q ≡ value_fits (lineage (front t) 25728 (11 + n)) (heap cells 0) D (value_of v.tag v.cell)) where
      abbrev given : Val
      given = value_of v.tag v.cell

      popped_one : (x : Here) (used : ℕ) → Runs x t s g records d k → x.heap ≡ heap cells used → what x ≡ only (is_kind ints (D ∷ [])) (only q (leave P x (given ∷ [])))
      unfolding pop_arguments ops_of
      popped_one x used y i =
          let j : k.operands ≡ suc (k.operands - 1) = omega arith in
          let w : q ≡ value_fits P (heap cells used) D given = fits_here cells used q P (front t) 25728 (11 + n) (parents_of b n t h.ready) D given eq in
          valued x y ∙ ap (λ (m : ℕ). only (is_kind ints (D ∷ [])) (pop_arguments P x.heap (D ∷ []) [] (ops_of (window_at s d) (window_at g d) m) (λ rs r. leave P x rs))) j
          ∙ rw (i, ← ev, ← w)

      pub value_unfit : not q ≡ true → Leaves b n t s g cells s g d k None what
      value_unfit f = leaves_stuck b n t s g cells d k what (λ x used y i. popped_one x used y i ∙ rw (not-true q f) (stays_stuck (is_kind ints (D ∷ []))))

      module _ (f : not q ≡ false) where
        pub value_giving : Giving b n t s g d k v
        value_giving = record {
          standing = h;
          value = λ z. not_so (sym (empty_unfit (lineage (front t) 25728 (11 + n)) (heap cells 0) D) ∙ sym (ap (value_fits (lineage (front t) 25728 (11 + n)) (heap cells 0) D) (value_empty v.tag v.cell z)) ∙ sym eq ∙ not-false q f);
          one = rw (own_results b n t s g cells d k h, ← e, one_result) (omega arith);
        }

        pub value_fit : (s' g' : List ℕ) (r : Found Left) (i u : Bool) → i ≡ is_dint D → u ≡ cond ints i (not i) → not u ≡ false
            → Leaves b n t s g cells s' g' d k r (leave_by b n t (given ∷ [])) → Leaves b n t s g cells s' g' d k r what
        value_fit s' g' r i u ei eu y w =
            let a : is_kind ints (D ∷ []) ≡ true = kind_is ints D ∙ sym (eu ∙ ap (λ (j : Bool). cond ints j (not j)) ei) ∙ not-false u y in
            leaves_as b n t s g cells d k what s' g' r (leave_by b n t (given ∷ [])) w (λ x used j l. popped_one x used j l ∙ rw (a, not-false q f))
