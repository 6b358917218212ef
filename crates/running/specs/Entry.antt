-- The entry of a run, and its first call as the code lays it out. Assumes nothing.
use Rattle.std.specs.Prelude.{ℕ, zero, suc, ◌+◌, ◌-◌, ◌*◌, ◌/◌, ◌%◌, ◌<◌, ◌≤◌, ◌≡◌, Bool, not, List, [], ◌∷◌, ◌++◌, map, ◌⊎◌, eqb, length, get_or, set, take, drop, replicate}
use Rattle.std.proofs.Common.{sym, subst, ◌∙◌, inl, inr, zero-add, add-zero, suc-add, add-suc, add-one, length-append, drop_of_length-le, drop-cons, get_or-set_same, get_or-set_other, get_or-take, length-take-le, refl, ap, true, false, cond, arith, lt-ltb, le-ltb, ltb-true, eqb-true, ltb}
use borrow.Author.Tests.{not-true, not-false}
use Rattle.std.proofs.lemmas.List.{length-map, length-replicate, get_or_append_left, get_or-append_right}
use borrow.Rule.Slice.PartMut.{put_mid}
use Rattle.kit.specs.Bools.{not_so}
use Rattle.kit.specs.Claims.{pass}
use Rattle.kit.specs.Lists.{get_or-replicate_same, get_d_part, length_part}
use Rattle.kit.specs.Pick.{side}
use Rattle.kit.specs.Words.{word}
use Rattle.texts.specs.Reading.{u2_at}
use Rattle.classfiles.specs.Blocks.{method_rows}
use Rattle.reader.specs.BuiltIns.{first_class}
use Rattle.classfiles.specs.Descriptors.{Desc, dint, dref, cls}
use Rattle.reader.specs.Program.{Program, Method, class, method, class_count, program_of}
use Rattle.reader.specs.Linked.{files_in}
use Rattle.reader.specs.Lookup.{class-count}
use Rattle.reader.specs.MemberRows.{block_at, row_count}
use Rattle.reader.specs.MemberAt.{methods-count}
use Rattle.reader.specs.TypeCodes.{base_of, nested, desc_of, params_in}
use Rattle.reader.specs.Whole.{Tables}
use Rattle.rules.specs.Types.{is_dint, tys_of}
use Rattle.rules.specs.States.{receiver_tys}
use Rattle.rules.specs.Opcodes.{body}
use Rattle.rules.specs.Sites.{front}
use Rattle.shaping.specs.Phases.{Readied, program_now, shape_by, of_all}
use Rattle.plain.specs.Heap.{Val, empty, num, padded_locals}
use Rattle.plain.specs.Run.{all_ints, is_entry, started}
use Rattle.plain.specs.ValueLaws.{value_num, value_empty}
use Rattle.plain.specs.Windows.{val_at, locs_from, locs_of, ops_of}
use Rattle.plain.specs.Calls.{window_at, waiting}
use Rattle.plain.specs.declared.frames.Frame.{Frame}
use Rattle.running.specs.Standing.{machine_of, Row, method_by, Stacked, Standing, Passed, passed, locals-word}

-- ---- int's code
int-code : (v : ℕ) → v ≡ 248 → is_dint (desc_of v) ≡ true
unfolding desc_of nested base_of
int-code v e = rw e

other_code : (v : ℕ) → v < 256 → (v ≡ 248 → ⊥) → is_dint (desc_of v) ≡ false
unfolding desc_of nested base_of
other_code v h n = go (v % 8) refl (eqb (v / 8) 31) refl
  where
    go : (d : ℕ) → v % 8 ≡ d → (b : Bool) → eqb (v / 8) 31 ≡ b → is_dint (nested d (cond b dint (dref (cls (v / 8))))) ≡ false
    go zero e true f = let z : v / 8 ≡ 31 = eqb-true (v / 8) 31 f in absurd (n (omega arith))
    go zero e false f = refl
    go (suc d) e b f = refl

-- ---- all of them, in order
module _ (ds : List Desc) (i : ℕ) (R : Bool) (h : all_ints (drop i ds) ≡ R) where
  module _ (l : i < length ds) (v : ℕ) (e : desc_of v ≡ get_or ds i dint) where
    one_more : cond (is_dint (desc_of v)) (all_ints (drop (suc i) ds)) false ≡ R
    unfolding all_ints
    one_more = ap (λ (d : Desc). cond (is_dint d) (all_ints (drop (suc i) ds)) false) e ∙ ap all_ints (sym (drop-cons ds i dint l)) ∙ h

    pub ints_next : v ≡ 248 → all_ints (drop (i + 1) ds) ≡ R
    ints_next z = ap (λ (k : ℕ). all_ints (drop k ds)) (add-one i) ∙ (rw (int-code v z) at one_more)

    pub ints_stop : v < 256 → (v ≡ 248 → ⊥) → false ≡ R
    ints_stop b z = rw (other_code v b z) at one_more

  pub ints_end : length ds ≤ i → true ≡ R
  unfolding all_ints
  ints_end l = ap all_ints (sym (drop_of_length-le ds l)) ∙ h

-- ---- whether it is one
module _ (b : List ℕ) (n : ℕ) (t : List ℕ) (h : Tables b n t) (i j : ℕ) where
  abbrev P : Program
  P = program_of (files_in b n t)

  pub entry_past : n ≤ i → false ≡ is_entry P i j
  unfolding is_entry
  entry_past l = rw (le-ltb (first_class + i) (class_count P) (omega (arith, class-count b n t h.most)))

  module _ (l : i < n) where
    in-bundle : ltb (first_class + i) (class_count P) ≡ true
    in-bundle = lt-ltb (first_class + i) (class_count P) (omega (arith, class-count b n t h.most))

    rows : length (class P (first_class + i)).methods ≡ row_count (block_at t i) true
    rows = methods-count b n t h.most i l

    pub entry_none : (k : ℕ) → k ≡ row_count (block_at t i) true → k ≤ j → false ≡ is_entry P i j
    unfolding is_entry
    entry_none k e g = rw (in-bundle, le-ltb j (length (class P (first_class + i)).methods) (omega (arith, rows)))

    module _ (k : ℕ) (e : k ≡ row_count (block_at t i) true) (g : j < k) (s : Bool) (f : s ≡ (method P (first_class + i) j).static) where
      in-class : ltb j (length (class P (first_class + i)).methods) ≡ true
      in-class = lt-ltb j (length (class P (first_class + i)).methods) (omega (arith, rows))

      pub entry-object : not s ≡ true → false ≡ is_entry P i j
      unfolding is_entry
      entry-object o = rw (in-bundle, in-class, ← f, not-true s o)

      pub entry_ints : not s ≡ false → (r : Bool) → r ≡ all_ints (params_in t (64 * i + j)) → r ≡ is_entry P i j
      unfolding is_entry
      entry_ints o r q = rw (in-bundle, in-class, ← f, not-false s o) (q ∙ ap all_ints (h.types.params i j l (omega arith)))

  -- what an entry is
  pub record Entry : Type 0 where
    pub class : i < n
    pub row : j < row_count (block_at t i) true

  pub entry_is : is_entry P i j ≡ true → Entry
  unfolding is_entry
  entry_is e = go (ltb (first_class + i) (class_count P)) refl (ltb j (length (class P (first_class + i)).methods)) refl e
    where
      go : (p : Bool) → ltb (first_class + i) (class_count P) ≡ p → (q : Bool) → ltb j (length (class P (first_class + i)).methods) ≡ q
          → cond p (cond q (cond (method P (first_class + i) j).static (all_ints (method P (first_class + i) j).params) false) false) false ≡ true → Entry
      go false x q y z = absurd (not_so z)
      go true x false y z = absurd (not_so z)
      go true x true y z =
          let l : i < n = omega (arith, ltb-true (first_class + i) (class_count P) x, class-count b n t h.most) in
          record { class = l; row = omega (arith, ltb-true j (length (class P (first_class + i)).methods) y, methods-count b n t h.most i l) }

  -- how many arguments it asks for
  pub entry-params : (k : ℕ) → Entry → k ≡ length (params_in t (64 * i + j)) → k ≡ length (method P (first_class + i) j).params
  entry-params k y e = e ∙ ap (λ (ds : List Desc). length ds) (h.types.params i j y.class y.row)

-- ---- the first window: m arguments as numbers, and empty from `from` up to m
pub record Laid (args s g : List ℕ) (m : ℕ) : Type 0 where
  pub cells : (i : ℕ) → i < m → get_or s i 0 ≡ get_or args i 0
  pub tags : (i : ℕ) → i < m → get_or g i 0 ≡ 1

pub laid_none : (args s g : List ℕ) → Laid args s g 0
laid_none args s g = record { cells = λ i h. absurd (omega arith); tags = λ i h. absurd (omega arith) }

same_before : (l : List ℕ) (i v k j : ℕ) (w : ℕ → ℕ) → i < length l → k ≡ v → ((j : ℕ) → j < i → get_or l j 0 ≡ w j) → v ≡ w i → j < i + 1 → get_or (set l i k) j 0 ≡ w j
same_before l i v k j w h e old here b = go (side j i)
  where
    go : (j < i) ⊎ (i ≤ j) → get_or (set l i k) j 0 ≡ w j
    go (inl c) = get_or-set_other l i j k 0 (λ z. omega arith) ∙ old j c
    go (inr c) = let z : j ≡ i = omega arith in rw z (get_or-set_same l i k 0 h ∙ e ∙ here)

pub laid_more : (args s g : List ℕ) (m v : ℕ) → m < length s → m < length g → v ≡ get_or args m 0 → Laid args s g m → Laid args (set s m v) (set g m 1) (m + 1)
laid_more args s g m v hs hg e h = record {
  cells = λ i b. same_before s m v v i (λ j. get_or args j 0) hs refl h.cells e b;
  tags = λ i b. same_before g m 1 1 i (λ j. 1) hg refl h.tags refl b;
}

-- as copying and filling the front leave them
pub laid_part : (args s g m k : List ℕ) → m ≡ args → length args ≤ length g → k ≡ replicate (length (take (length args) g)) 1 → Laid args (m ++ drop (length args) s) (k ++ drop (length args) g) (length args)
laid_part args s g m k e l p =
    let z : length (take (length args) g) ≡ length args = length-take-le (length args) g l in
    rw (e, p, z) (record {
      cells = λ i h. get_or_append_left args (drop (length args) s) 0 i h;
      tags = λ i h. get_or_append_left (replicate (length args) 1) (drop (length args) g) 0 i (rw (length-replicate) h) ∙ get_or-inside (length args) i 1 h;
    })
  where
    get_or-inside : (n i v : ℕ) → i < n → get_or (replicate n v) i 0 ≡ v
    get_or-inside zero i v h = absurd (omega arith)
    get_or-inside (suc n) zero v h = refl
    get_or-inside (suc n) (suc i) v h = get_or-inside n i v (omega arith)

-- the tags from `from` up to m are those of no value, those in front stay
pub record Emptied (g g' : List ℕ) (from m : ℕ) : Type 0 where
  pub before : (i : ℕ) → i < from → get_or g' i 0 ≡ get_or g i 0
  pub zeros : (i : ℕ) → from ≤ i → i < m → get_or g' i 0 ≡ 0

pub emptied_none : (g : List ℕ) (from : ℕ) → Emptied g g from from
emptied_none g from = record { before = λ i h. refl; zeros = λ i h b. absurd (omega arith) }

pub emptied_more : (g g' : List ℕ) (from m : ℕ) → from ≤ m → m < length g' → Emptied g g' from m → Emptied g (set g' m 0) from (m + 1)
emptied_more g g' from m l b h = record {
  before = λ i q. get_or-set_other g' m i 0 0 (λ z. omega arith) ∙ h.before i q;
  zeros = λ i p q. go i p q (side i m);
}
  where
    go : (i : ℕ) → from ≤ i → i < m + 1 → (i < m) ⊎ (m ≤ i) → get_or (set g' m 0) i 0 ≡ 0
    go i p q (inl c) = get_or-set_other g' m i 0 0 (λ z. omega arith) ∙ h.zeros i p c
    go i p q (inr c) = let z : i ≡ m = omega arith in rw z (get_or-set_same g' m 0 0 b)

-- as filling a part leaves them
pub emptied_part : (g k : List ℕ) (from j : ℕ) → from ≤ 32 → 32 ≤ length g → j ≡ 32 - from → k ≡ replicate (length (take j (drop from g))) 0 → Emptied g (put_mid from j g k) from 32
emptied_part g k from j h l e p =
    let z : length (take j (drop from g)) ≡ 32 - from = rw e (length_part from (32 - from) g (omega arith)) in
    let a : length (take from g) ≡ from = length-take-le from g (omega arith) in
    rw (p, z) (record {
      before = λ i b. get_or_append_left (take from g) _ 0 i (omega arith) ∙ get_or-take from g i 0 b;
      zeros = λ i b c.
          get_or-append_right (take from g) _ from i 0 a b
          ∙ get_or_append_left (replicate (32 - from) 0) _ 0 (i - from) (rw (length-replicate) (omega arith)) ∙ get_or-replicate_same (32 - from) (i - from) 0;
    })

-- ---- read back
locs_list : (w g : List ℕ) (b : ℕ) (vs : List Val) → ((i : ℕ) → i < length vs → val_at w g (b + i) ≡ get_or vs i empty) → locs_from w g b (length vs) ≡ vs
unfolding locs_from
locs_list w g b [] h = refl
locs_list w g b (v ∷ vs) h =
    let x : val_at w g b ≡ v = rw (add-zero b) at (h 0 (omega arith)) in
    rw (x, locs_list w g (suc b) vs (λ i l. rw (suc-add b i, ← add-suc b i) (h (suc i) (omega arith))))

num_at : (xs : List ℕ) (k i : ℕ) → i < length xs → get_or (map num xs ++ replicate k empty) i empty ≡ num (get_or xs i 0)
num_at [] k i h = absurd (omega arith)
num_at (x ∷ xs) k zero h = refl
num_at (x ∷ xs) k (suc i) h = num_at xs k i (omega arith)

empty_at : (xs : List ℕ) (k i : ℕ) → length xs ≤ i → get_or (map num xs ++ replicate k empty) i empty ≡ empty
empty_at [] k i h = get_or-replicate_same {A = Val} k i empty
empty_at (x ∷ xs) k zero h = absurd (omega arith)
empty_at (x ∷ xs) k (suc i) h = empty_at xs k i (omega arith)

length-padded : (xs : List ℕ) (k : ℕ) → length (map num xs ++ replicate k empty) ≡ length xs + k
length-padded [] k = length_replicate' k ∙ sym (zero-add k)
  where
    length_replicate' : (k : ℕ) → length {A = Val} (replicate k empty) ≡ k
    length_replicate' zero = refl
    length_replicate' (suc k) = ap suc (length_replicate' k)
length-padded (x ∷ xs) k = ap suc (length-padded xs k) ∙ sym (suc-add (length xs) k)

slot-zero : (l : List ℕ) (i : ℕ) → i < 64 → get_or (window_at l 0) (0 + i) 0 ≡ get_or l i 0
slot-zero l i h =
    let z : 64 * 0 + i ≡ i = omega arith in
    ap (λ (k : ℕ). get_or (window_at l 0) k 0) (zero-add i) ∙ get_d_part (64 * 0) 64 l i 0 h ∙ ap (λ (k : ℕ). get_or l k 0) z

module _ (args s g g' : List ℕ) (h : Laid args s g (length args)) (y : Emptied g g' (length args) 32) where
  pub locals_laid : (m : ℕ) → length args ≤ m → m ≤ 32 → locs_of (window_at s 0) (window_at g' 0) m ≡ padded_locals m (map num args)
  locals_laid m l b =
      let z : length (map num args) ≡ length args = length-map args num in
      let e : length (map num args ++ replicate (m - length args) empty) ≡ m = length-padded args (m - length args) ∙ omega arith in
      rw z
      (ap (λ (k : ℕ). locs_of (window_at s 0) (window_at g' 0) k) (sym e)
      ∙ locs_list (window_at s 0) (window_at g' 0) 0 (map num args ++ replicate (m - length args) empty) (λ i q. at i (omega (arith, e)) (side i (length args))))
    where
      at : (i : ℕ) → i < m → (i < length args) ⊎ (length args ≤ i) → val_at (window_at s 0) (window_at g' 0) (0 + i) ≡ get_or (map num args ++ replicate (m - length args) empty) i empty
      at i q (inl c) =
          let a : get_or (window_at s 0) (0 + i) 0 ≡ get_or args i 0 = slot-zero s i (omega arith) ∙ h.cells i c in
          let t : get_or (window_at g' 0) (0 + i) 0 ≡ 1 = slot-zero g' i (omega arith) ∙ y.before i c ∙ h.tags i c in
          value_num (get_or (window_at g' 0) (0 + i) 0) (get_or (window_at s 0) (0 + i) 0) t ∙ ap (λ (v : ℕ). num v) a ∙ sym (num_at args (m - length args) i c)
      at i q (inr c) =
          let t : get_or (window_at g' 0) (0 + i) 0 ≡ 0 = slot-zero g' i (omega arith) ∙ y.zeros i c (omega arith) in
          value_empty (get_or (window_at g' 0) (0 + i) 0) (get_or (window_at s 0) (0 + i) 0) t ∙ sym (empty_at args (m - length args) i c)

-- ---- the first call
pub record Starts (b : List ℕ) (n : ℕ) (t s g : List ℕ) (i j : ℕ) (args : List ℕ) (k : Frame) : Type 0 where
  pub stands : Standing b n t s g 0 k
  pub is : (cells : List ℕ) → machine_of cells 0 t s g 0 k ≡ started (program_now b n t) cells i j args

length_tys : (ds : List Desc) → length (tys_of ds) ≡ length ds
length_tys [] = refl
length_tys (d ∷ ds) = ap suc (length_tys ds)

module _ (b : List ℕ) (n : ℕ) (t : List ℕ) (h : Readied b n t) (p : of_all shape_by b n t ≡ pass) (i j : ℕ) (e : is_entry (program_now b n t) i j ≡ true) where
  pub entry_now : Entry b n (front t) h.prepared.tables i j
  entry_now = entry_is b n (front t) h.prepared.tables i j e

  back_in : 11 + i - 11 ≡ i
  back_in = omega arith

  pub entry_row : Row n (front t) (11 + i) j
  entry_row = record {
    low = omega arith;
    high = omega (arith, entry_now.class);
    row = subst (λ (c : ℕ). j < row_count (block_at (front t) c) true) (sym back_in) entry_now.row;
  }

  abbrev M : Method
  M = method_by b n (front t) (11 + i) j

  entry-passed : Passed M
  entry-passed = passed b n t h p (11 + i) j entry_row

  pub arguments-fit : (args : List ℕ) → length args ≡ length (method (program_now b n t) (first_class + i) j).params → length args ≤ (body (method_by b n (front t) (11 + i) j)).max_locals
  arguments-fit args q =
      omega (arith, q, length_tys M.params, length-append (receiver_tys M) (tys_of M.params), entry-passed.params)

  pub few_arguments : (args : List ℕ) → length args ≡ length (method (program_now b n t) (first_class + i) j).params → length args ≤ 32
  few_arguments args q = omega (arith, arguments-fit args q, entry-passed.fits.locals)

  -- max_locals where the code finds it
  pub entry-locals : (q v : ℕ) → q ≡ word (block_at (front t) i) (method_rows + 6 * j + 2) → v ≡ u2_at b (q + 2) → v ≡ (body M).max_locals
  entry-locals q v eq ev =
      ev ∙ ap (λ (k : ℕ). u2_at b (k + 2)) (eq ∙ ap (λ (c : ℕ). word (block_at (front t) c) (method_rows + 6 * j + 2)) (sym back_in)) ∙ locals-word b n t h p (11 + i) j entry_row

  pub starts : (args s' g' g'' : List ℕ) (m : ℕ) → length s' ≡ 4096 → length g'' ≡ 4096 → length args ≡ length (method (program_now b n t) (first_class + i) j).params
      → Laid args s' g' (length args) → Emptied g' g'' (length args) 32 → m ≡ (body (method_by b n (front t) (11 + i) j)).max_locals
      → Starts b n t s' g'' i j args (record { class = 11 + i; method = j; offset = 0; own = 0; operands = 0; locals = m })
  unfolding Stacked started ops_of waiting
  starts args s' g' g'' m ls lg q y z em = record {
    stands = record {
      ready = h;
      shaped = p;
      lent = record { words = ls; tags = lg; records = omega (arith, h.long) };
      depth = omega arith;
      running = record { of = entry_row; operands = omega arith; locals = em; offset = omega arith };
      stacked = tt;
    };
    is = λ cells. rw (locals_laid args s' g' g'' y z m (omega (arith, em, arguments-fit args q)) (omega (arith, em, entry-passed.fits.locals)), em);
  }
