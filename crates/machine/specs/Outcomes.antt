-- What a run answers and what it leaves of everything lent, on every path. Assumes nothing.
use Rattle.std.specs.Prelude.{Result as Either, Ok, Err, IfOk, Option as Found, Some, None, ℕ, ◌+◌, ◌*◌, ◌<◌, ◌≤◌, ◌≡◌, refl, Bool, true, false, cond, List, [], ◌∷◌, ltb, leb, eqb, length, get_or}
use Rattle.std.proofs.Common.{subst, ◌∙◌, sym, ap, arith, lt-ltb, le-ltb, le-leb, eq-eqb, ne_eqb, ltb-false, eqb-true}
use borrow.Author.Tests.{lt-leb}
use Rattle.kit.specs.Bools.{not_so}
use Rattle.kit.specs.Claims.{pass}
use Rattle.classfiles.specs.Limits.{scratch_size, max_heap, slot_count, max_budget}
use Rattle.reader.specs.Verdicts.{numbers}
use Rattle.reader.specs.BuiltIns.{first_class}
use Rattle.reader.specs.TypeCodes.{params_in}
use Rattle.reader.specs.Linked.{files_in}
use Rattle.reader.specs.Link.{Read, refused, program}
use Rattle.reader.specs.Program.{Program, method, program_of}
use Rattle.reader.specs.declared.outlet.Answer.{Answer}
use Rattle.rules.specs.Sites.{front}
use Rattle.shaping.specs.Phases.{Readied, readied_kept, program_now, shape_by, of_all}
use Rattle.verifier.specs.Typing.{passes_kept}
use Rattle.shaping.specs.Verify.{read_shaped}
use Rattle.shaping.specs.Verified.{refusal_of, IsShaped}
use Rattle.plain.specs.Heap.{Heap}
use Rattle.plain.specs.Machine.{Machine}
use Rattle.plain.specs.Run.{run, is_entry, started, size_wrong, bundle_refused, no_entry, argument_count, ending, answer_numbers, entered, answered, answer_of, Lent, sizes_ok, left_of, run_of, zeros}
use Rattle.plain.specs.Run as meant
use Rattle.plain.specs.declared.frames.Frame.{Frame}
use Rattle.running.specs.Standing.{machine_of, Standing}
use Rattle.running.specs.Dispatching.{Dispatch}
use Rattle.running.specs.Entry.{entry_now, entry-params, Starts}
use Rattle.machine.specs.Filling.{Tabled}
use Rattle.running.specs.declared.ends.End.{End}
use Rattle.running.specs.declared.ends.End.TheVariants.{Returned, Uncaught, HeapFull as NoRoom, DepthFull as NoDepth, Stuck as NoWay}
use Rattle.machine.specs.Turns.{number_of, value_of, Ends, RunsOn}
use Rattle.machine.specs.declared.turns.Ran.{Ran}
use Rattle.machine.specs.declared.run.Refused.{Refused}
use Rattle.machine.specs.declared.run.Refused.TheVariants.{Lent as WrongSize, Bundle, Entry, Arguments}

abbrev pub lent : List ℕ → List ℕ → List ℕ → List ℕ → Lent
lent t c s g = record { scratch = t; heap = c; slots = s; tags = g }

abbrev pub no_verdict : Answer
no_verdict = record { number = 0; class = 0; method = 0; place = 0 }

abbrev pub Told : Type 0
Told = Either Ran Refused

abbrev pub refusal_number : Refused → ℕ
refusal_number WrongSize = 20
refusal_number (Bundle v) = 21
refusal_number Entry = 22
refusal_number Arguments = 23

pub refusal_small : (e : Refused) → refusal_number e ≤ 23
refusal_small WrongSize = omega arith
refusal_small (Bundle v) = omega arith
refusal_small Entry = omega arith
refusal_small Arguments = omega arith

abbrev pub verdict_in : Refused → Answer
verdict_in WrongSize = no_verdict
verdict_in (Bundle v) = v
verdict_in Entry = no_verdict
verdict_in Arguments = no_verdict

-- the answer's nine numbers
abbrev pub nine : ℕ → ℕ → ℕ → ℕ → ℕ → Answer → List ℕ
nine refusal end value count used v = refusal ∷ end ∷ value ∷ count ∷ used ∷ v.number ∷ v.class ∷ v.method ∷ v.place ∷ []

abbrev pub told_numbers : Told → List ℕ
told_numbers (Ok q) = nine 0 (number_of q.end) (value_of q.end) q.count q.used no_verdict
told_numbers (Err e) = nine (refusal_number e) 0 0 0 0 (verdict_in e)

-- the same of a program that has passed phases A to C, but for the scratch
pub record IsEntered (P : Program) (L : Lent) (i j : ℕ) (args : List ℕ) (budget : ℕ) (r : Told) (cells s g : List ℕ) : Type 0 where
  pub says : told_numbers r ≡ answer_numbers (entered P L.heap i j args budget)
  pub heap : cells ≡ (left_of L (entered P L.heap i j args budget)).heap
  pub slots : s ≡ (left_of L (entered P L.heap i j args budget)).slots
  pub tags : g ≡ (left_of L (entered P L.heap i j args budget)).tags
  pub zeroed : (t : List ℕ) → (left_of (lent t L.heap L.slots L.tags) (entered P L.heap i j args budget)).scratch ≡ zeros t
  pub counted : IfOk r (λ q. q.count ≤ budget)

-- what `run` answers and leaves: the definition's numbers, everything lent, and a count within the budget
pub record IsRun (b : List ℕ) (L : Lent) (i j : ℕ) (args : List ℕ) (budget : ℕ) (r : Told) (M : Lent) : Type 0 where
  pub says : told_numbers r ≡ answer_numbers (run_of b L i j args budget).answer
  pub leaves : M ≡ (run_of b L i j args budget).lent
  pub counted : IfOk r (λ q. q.count ≤ budget)

-- no two outcomes
end_told : ℕ → ℕ → Found End
end_told n v =
    cond (eqb n 1) (Some (Returned v)) (cond (eqb n 2) (Some (Uncaught v)) (cond (eqb n 3) None (cond (eqb n 4) (Some NoRoom) (cond (eqb n 5) (Some NoDepth) (Some NoWay)))))

told_of : List ℕ → Told
told_of l =
    cond (eqb (get_or l 0 0) 0) (Ok (record { end = end_told (get_or l 1 0) (get_or l 2 0); count = get_or l 3 0; used = get_or l 4 0 }))
    (cond (eqb (get_or l 0 0) 20) (Err WrongSize)
    (cond (eqb (get_or l 0 0) 21) (Err (Bundle (record { number = get_or l 5 0; class = get_or l 6 0; method = get_or l 7 0; place = get_or l 8 0 })))
    (cond (eqb (get_or l 0 0) 22) (Err Entry) (Err Arguments))))

end_back : (e : Found End) → end_told (number_of e) (value_of e) ≡ e
unfolding end_told
end_back None = refl
end_back (Some (Returned v)) = refl
end_back (Some (Uncaught c)) = refl
end_back (Some NoRoom) = refl
end_back (Some NoDepth) = refl
end_back (Some NoWay) = refl

told_back : (r : Told) → told_of (told_numbers r) ≡ r
unfolding told_of
told_back (Ok q) = ap (λ (e : Found End). Ok (record { end = e; count = q.count; used = q.used })) (end_back q.end)
told_back (Err WrongSize) = refl
told_back (Err (Bundle v)) = refl
told_back (Err Entry) = refl
told_back (Err Arguments) = refl

pub one_run : (b : List ℕ) (L : Lent) (i j : ℕ) (args : List ℕ) (budget : ℕ) (r r' : Told) (M M' : Lent)
    → IsRun b L i j args budget r M → IsRun b L i j args budget r' M' → (r ≡ r') × (M ≡ M')
one_run b L i j args budget r r' M M' x y = (sym (told_back r) ∙ ap told_of (x.says ∙ sym y.says) ∙ told_back r', x.leaves ∙ sym y.leaves)

-- ---- 20
pub sizes_scratch : (t c s g : List ℕ) (budget : ℕ) → length t < scratch_size → false ≡ sizes_ok (lent t c s g) budget
unfolding sizes_ok
sizes_scratch t c s g budget h = rw (lt-ltb (length t) scratch_size h)

pub sizes_heap : (t c s g : List ℕ) (budget : ℕ) → scratch_size ≤ length t → max_heap < length c → false ≡ sizes_ok (lent t c s g) budget
unfolding sizes_ok
sizes_heap t c s g budget h k = rw (le-ltb (length t) scratch_size h, lt-ltb max_heap (length c) k)

module _ (t c s g : List ℕ) (budget : ℕ) (h : scratch_size ≤ length t) (k : length c ≤ max_heap) where
  pub sizes_slots : (length s ≡ slot_count → ⊥) → false ≡ sizes_ok (lent t c s g) budget
  unfolding sizes_ok
  sizes_slots l = rw (le-ltb (length t) scratch_size h, le-ltb max_heap (length c) k, ne_eqb (length s) slot_count l)

  module _ (l : length s ≡ slot_count) where
    pub sizes_tags : (length g ≡ slot_count → ⊥) → false ≡ sizes_ok (lent t c s g) budget
    unfolding sizes_ok
    sizes_tags m = rw (le-ltb (length t) scratch_size h, le-ltb max_heap (length c) k, eq-eqb (length s) slot_count l, ne_eqb (length g) slot_count m)

    pub sizes_budget : length g ≡ slot_count → max_budget < budget → false ≡ sizes_ok (lent t c s g) budget
    unfolding sizes_ok
    sizes_budget m e =
        rw (le-ltb (length t) scratch_size h, le-ltb max_heap (length c) k, eq-eqb (length s) slot_count l, eq-eqb (length g) slot_count m, lt-leb budget max_budget e)

    pub sizes_all : length g ≡ slot_count → budget ≤ max_budget → true ≡ sizes_ok (lent t c s g) budget
    unfolding sizes_ok
    sizes_all m e =
        rw (le-ltb (length t) scratch_size h, le-ltb max_heap (length c) k, eq-eqb (length s) slot_count l, eq-eqb (length g) slot_count m, le-leb budget max_budget e)

-- what is so where it is not 20
pub record Sized (t c s g : List ℕ) : Type 0 where
  pub scratch : scratch_size ≤ length t
  pub heap : length c ≤ max_heap
  pub slots : length s ≡ slot_count
  pub tags : length g ≡ slot_count

pub sized_kept : (t u c s g : List ℕ) → length u ≡ length t → Sized t c s g → Sized u c s g
sized_kept t u c s g e h = record { scratch = omega (arith, h.scratch); heap = h.heap; slots = h.slots; tags = h.tags }

pub sizes_are : (t c s g : List ℕ) (budget : ℕ) → sizes_ok (lent t c s g) budget ≡ true → Sized t c s g
unfolding sizes_ok
sizes_are t c s g budget e = go (ltb (length t) scratch_size) refl (ltb max_heap (length c)) refl (eqb (length s) slot_count) refl (eqb (length g) slot_count) refl e
  where
    go : (p : Bool) → ltb (length t) scratch_size ≡ p → (q : Bool) → ltb max_heap (length c) ≡ q → (u : Bool) → eqb (length s) slot_count ≡ u → (v : Bool) → eqb (length g) slot_count ≡ v
        → cond p false (cond q false (cond u (cond v (leb budget max_budget) false) false)) ≡ true → Sized t c s g
    go true x q y u z v w f = absurd (not_so f)
    go false x true y u z v w f = absurd (not_so f)
    go false x false y false z v w f = absurd (not_so f)
    go false x false y true z false w f = absurd (not_so f)
    go false x false y true z true w f = record {
      scratch = ltb-false (length t) scratch_size x;
      heap = ltb-false max_heap (length c) y;
      slots = eqb-true (length s) slot_count z;
      tags = eqb-true (length g) slot_count w;
    }

-- ---- the run of an entry
-- what it asks for
pub record Begins (b : List ℕ) (n : ℕ) (t cells s g : List ℕ) (i j : ℕ) (args : List ℕ) : Type 0 where
  pub ready : Readied b n t
  pub shaped : of_all shape_by b n t ≡ pass
  pub heap : length cells ≤ max_heap
  pub slots : length s ≡ slot_count
  pub tags : length g ≡ slot_count
  pub entry : is_entry (program_now b n t) i j ≡ true
  pub count : length args ≡ length (method (program_now b n t) (first_class + i) j).params

module _ (b : List ℕ) (n : ℕ) (t : List ℕ) (h : Readied b n t) (p : of_all shape_by b n t ≡ pass) (i j : ℕ) (e : is_entry (program_now b n t) i j ≡ true) where
  pub entry_small : (i < 16) × (j < 64)
  entry_small =
      let y = entry_now b n t h p i j e in
      (omega (arith, y.class, h.prepared.tables.most), omega (arith, y.row, h.prepared.tables.limited.methods i y.class))

  pub entry-count : (k : ℕ) → k ≡ length (params_in (front t) (64 * i + j)) → k ≡ length (method (program_now b n t) (first_class + i) j).params
  entry-count k q = entry-params b n (front t) h.prepared.tables i j k (entry_now b n t h p i j e) q

  pub begins_by : (cells s g args : List ℕ) → Sized t cells s g → length args ≡ length (method (program_now b n t) (first_class + i) j).params → Begins b n t cells s g i j args
  begins_by cells s g args z q = record { ready = h; shaped = p; heap = z.heap; slots = z.slots; tags = z.tags; entry = e; count = q }

-- the end of its run; slots and tags are zeros
pub record Made (P : Program) (cells s g : List ℕ) (i j : ℕ) (args : List ℕ) (budget : ℕ) (q : Ran) (cells' s' g' : List ℕ) : Type 0 where
  pub is : Ends (run P budget 0 (started P cells i j args)) cells' q
  pub most : q.count ≤ budget
  pub slots : s' ≡ zeros s
  pub tags : g' ≡ zeros g

module _ (b : List ℕ) (n : ℕ) (t u cells s g : List ℕ) (i j : ℕ) (args : List ℕ) (h : Begins b n t cells s g i j args) (w : Tabled b n t u) where
  -- what the table leaves of what the first call asks
  pub start_asked : Readied b n u × (of_all shape_by b n u ≡ pass) × (length s ≡ 4096) × (length g ≡ 4096) × (is_entry (program_now b n u) i j ≡ true) × (length args ≡ length (method (program_now b n u) (first_class + i) j).params)
  start_asked = (
    readied_kept b n t u h.ready w.kept w.long,
    passes_kept shape_by b n t u w.kept h.shaped,
    h.slots,
    h.tags,
    ap (λ (k : List ℕ). is_entry (program_of (files_in b n k)) i j) w.kept ∙ h.entry,
    h.count ∙ sym (ap (λ (k : List ℕ). length (method (program_of (files_in b n k)) (first_class + i) j).params) w.kept),
  )

  pub loop_asked : (s₁ g₁ : List ℕ) (k : Frame) → Starts b n u s₁ g₁ i j args k → Standing b n u s₁ g₁ 0 k × Dispatch b n u × (length cells ≤ max_heap)
  loop_asked s₁ g₁ k x = (x.stands, w.dispatch, h.heap)

  pub made_by_lem : (s₁ g₁ cells' s' g' : List ℕ) (k : Frame) (q : Ran) (budget : ℕ) → Starts b n u s₁ g₁ i j args k → RunsOn b n u s₁ g₁ cells 0 k 0 budget cells' q → s' ≡ zeros s → g' ≡ zeros g
      → Made (program_now b n t) cells s g i j args budget q cells' s' g'
  made_by_lem s₁ g₁ cells' s' g' k q budget x y es eg = record { is = subst (λ (R : meant.Ran). Ends R cells' q) same y.is; most = y.most; slots = es; tags = eg }
    where
      same : run (program_now b n u) budget 0 (machine_of cells 0 u s₁ g₁ 0 k) ≡ run (program_now b n t) budget 0 (started (program_now b n t) cells i j args)
      same =
          ap (λ (K : Machine). run (program_now b n u) budget 0 K) (x.is cells)
          ∙ ap (λ (f : List ℕ). run (program_of (files_in b n f)) budget 0 (started (program_of (files_in b n f)) cells i j args)) w.kept

-- ---- 22, 23 and the run
module _ (P : Program) (L : Lent) (i j : ℕ) (args : List ℕ) (budget : ℕ) where
  abbrev A : meant.Answer
  A = entered P L.heap i j args budget

  pub entered_none : is_entry P i j ≡ false → IsEntered P L i j args budget (Err Entry) L.heap L.slots L.tags
  unfolding entered answer_numbers
  entered_none e =
      let a : A ≡ no_entry = rw e in
      record {
        says = ap answer_numbers (sym a);
        heap = ap (λ (y : meant.Answer). (left_of L y).heap) (sym a);
        slots = ap (λ (y : meant.Answer). (left_of L y).slots) (sym a);
        tags = ap (λ (y : meant.Answer). (left_of L y).tags) (sym a);
        zeroed = λ t. ap (λ (y : meant.Answer). (left_of (lent t L.heap L.slots L.tags) y).scratch) a;
        counted = tt;
      }

  module _ (e : is_entry P i j ≡ true) where
    pub entered-count : (length args ≡ length (method P (first_class + i) j).params → ⊥) → IsEntered P L i j args budget (Err Arguments) L.heap L.slots L.tags
    unfolding entered answer_numbers
    entered-count n =
        let a : A ≡ argument_count = rw (e, ne_eqb (length args) (length (method P (first_class + i) j).params) n) in
        record {
          says = ap answer_numbers (sym a);
          heap = ap (λ (y : meant.Answer). (left_of L y).heap) (sym a);
          slots = ap (λ (y : meant.Answer). (left_of L y).slots) (sym a);
          tags = ap (λ (y : meant.Answer). (left_of L y).tags) (sym a);
          zeroed = λ t. ap (λ (y : meant.Answer). (left_of (lent t L.heap L.slots L.tags) y).scratch) a;
          counted = tt;
        }

    module _ (n : length args ≡ length (method P (first_class + i) j).params) (cells s g : List ℕ) (q : Ran) (y : Made P L.heap L.slots L.tags i j args budget q cells s g) where
      abbrev R : meant.Ran
      R = run P budget 0 (started P L.heap i j args)

      is_ending : A ≡ ending R
      unfolding entered
      is_ending = rw (e, eq-eqb (length args) (length (method P (first_class + i) j).params) n)

      pub entered-ran : IsEntered P L i j args budget (Ok q) cells s g
      unfolding answer_numbers
      entered-ran =
          let x = y.is in
          let u : R.heap.used ≡ q.used = ap (λ (H : Heap). H.used) x.heap in
          record {
            says = rw (← x.end, ← x.value, ← x.count, ← u) (ap answer_numbers (sym is_ending));
            heap = sym (ap (λ (H : Heap). H.cells) x.heap) ∙ ap (λ (x : meant.Answer). (left_of L x).heap) (sym is_ending);
            slots = y.slots ∙ ap (λ (x : meant.Answer). (left_of L x).slots) (sym is_ending);
            tags = y.tags ∙ ap (λ (x : meant.Answer). (left_of L x).tags) (sym is_ending);
            zeroed = λ t. ap (λ (x : meant.Answer). (left_of (lent t L.heap L.slots L.tags) x).scratch) is_ending;
            counted = y.most;
          }

-- ---- whole
module _ (t u c s g : List ℕ) where
  left_heap : (a : meant.Answer) → (left_of (lent t c s g) a).heap ≡ (left_of (lent u c s g) a).heap
  left_heap size_wrong = refl
  left_heap (bundle_refused r) = refl
  left_heap no_entry = refl
  left_heap argument_count = refl
  left_heap (ending R) = refl

  left_slots : (a : meant.Answer) → (left_of (lent t c s g) a).slots ≡ (left_of (lent u c s g) a).slots
  left_slots size_wrong = refl
  left_slots (bundle_refused r) = refl
  left_slots no_entry = refl
  left_slots argument_count = refl
  left_slots (ending R) = refl

  left_tags : (a : meant.Answer) → (left_of (lent t c s g) a).tags ≡ (left_of (lent u c s g) a).tags
  left_tags size_wrong = refl
  left_tags (bundle_refused r) = refl
  left_tags no_entry = refl
  left_tags argument_count = refl
  left_tags (ending R) = refl

same_lent : (t c s g t' c' s' g' : List ℕ) → t ≡ t' → c ≡ c' → s ≡ s' → g ≡ g' → lent t c s g ≡ lent t' c' s' g'
same_lent t c s g t' c' s' g' p q m e = λ k. record { scratch = p k; heap = q k; slots = m k; tags = e k }

module _ (b : List ℕ) (L : Lent) (i j : ℕ) (args : List ℕ) (budget : ℕ) where
  pub run_sizes : sizes_ok L budget ≡ false → IsRun b L i j args budget (Err WrongSize) L
  unfolding run_of answer_numbers
  run_sizes e =
      let f : run_of b L i j args budget ≡ meant.outcome L size_wrong = rw e in
      record { says = sym (ap (λ (w : meant.Outcome). answer_numbers w.answer) f); leaves = sym (ap (λ (w : meant.Outcome). w.lent) f); counted = tt }

  module _ (e : sizes_ok L budget ≡ true) (u : List ℕ) where
    was : (R : Read) → read_shaped b ≡ R → run_of b L i j args budget ≡ meant.outcome L (answered R L.heap i j args budget)
    unfolding run_of answer_of
    was R h = rw (e, h)

    pub run-refused : (a : Answer) → IsShaped b (Err a) u → (v : List ℕ) → v ≡ zeros L.scratch → IsRun b L i j args budget (Err (Bundle a)) (record { scratch = v; heap = L.heap; slots = L.slots; tags = L.tags })
    unfolding answered answer_numbers numbers
    run-refused a y v z =
        let f : run_of b L i j args budget ≡ meant.outcome L (bundle_refused (refusal_of a)) = was (refused (refusal_of a)) (sym y.is) in
        rw z (record {
          says = sym (ap (λ (w : meant.Outcome). answer_numbers w.answer) f);
          leaves = sym (ap (λ (w : meant.Outcome). w.lent) f);
          counted = tt;
        })

    abbrev A₁ : ℕ → meant.Answer
    A₁ n = entered (program_now b n u) L.heap i j args budget

    pub run-entered : (n : ℕ) → IsShaped b (Ok n) u → (c s g : List ℕ) (r : Told) → IsEntered (program_now b n u) (lent u L.heap L.slots L.tags) i j args budget r c s g → (v : List ℕ) → v ≡ zeros L.scratch
        → IsRun b L i j args budget r (record { scratch = v; heap = c; slots = s; tags = g })
    unfolding answered
    run-entered n y c s g r w v z =
        let f : run_of b L i j args budget ≡ meant.outcome L (A₁ n) = was (program (program_now b n u)) (sym y.is) in
        record {
          says = w.says ∙ sym (ap (λ (k : meant.Outcome). answer_numbers k.answer) f);
          leaves =
              same_lent v c s g (left_of L (A₁ n)).scratch (left_of L (A₁ n)).heap (left_of L (A₁ n)).slots (left_of L (A₁ n)).tags (z ∙ sym (w.zeroed L.scratch))
              (w.heap ∙ left_heap u L.scratch L.heap L.slots L.tags (A₁ n)) (w.slots ∙ left_slots u L.scratch L.heap L.slots L.tags (A₁ n))
              (w.tags ∙ left_tags u L.scratch L.heap L.slots L.tags (A₁ n))
              ∙ sym (ap (λ (k : meant.Outcome). k.lent) f);
          counted = w.counted;
        }
