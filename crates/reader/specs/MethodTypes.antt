-- The methods' types as linking leaves them in the scratch, and the steps that write them. Assumes nothing.
use Rattle.std.specs.Prelude.{ℕ, ◌+◌, ◌*◌, ◌%◌, ◌<◌, ◌≤◌, ◌≡◌, refl, List, ◌++◌, Bool, true, ◌⊎◌, length, take, drop}
use Rattle.std.proofs.Common.{sym, subst, ◌∙◌, inl, inr, length-take, get_or-take, ap, arith, get_or}
use Rattle.kit.specs.Pick.{side}
use Rattle.classfiles.specs.Limits.{max_parameters}
use Rattle.texts.specs.Names.{Text}
use Rattle.classfiles.specs.Descriptors.{MethodType, method_type_at}
use Rattle.classfiles.specs.Attributes.{member_of}
use Rattle.reader.specs.BuiltIns.{first_class}
use Rattle.reader.specs.Program.{Program, Method, class, method, method_of, method_type_or, program_of}
use Rattle.reader.specs.Link.{all_known}
use Rattle.classfiles.specs.Blocks.{row_in, classes_in}
use Rattle.classfiles.specs.BlockWords.{kept_word}
use Rattle.reader.specs.Linked.{parents_at, parents_word, files_in, Parents}
use Rattle.reader.specs.MemberRows.{block_at, row_start, row_count, row_at, row_sig}
use Rattle.reader.specs.Prints.{Printed, same_front, same_back, same_block, printed_moved}
use Rattle.reader.specs.MemberAt.{number_as, method-at}
use Rattle.reader.specs.TypeCodes.{types_at, types_end, types_of, codes_in, result_at, params_in, results_in, Aside, Described}
use Rattle.reader.specs.CodeLaws.{codes_same, params-length, aside_take}

-- the blocks, the parents' numbers and the prints are as they were
pub record Front (t u : List ℕ) : Type 0 where
  pub same : take types_at u ≡ take types_at t
  pub past : drop types_end u ≡ drop types_end t
  pub long : length u ≡ length t

-- what linking members asks of the scratch
pub record Ready (s : List ℕ) (n : ℕ) (t : List ℕ) : Type 0 where
  pub most : n ≤ 16
  pub long : types_end ≤ length t
  pub few : (c : ℕ) → c < n → (method : Bool) → row_count (block_at t c) method ≤ 64
  pub parents : Parents s n t
  pub printed : Printed s n t

-- the entry of method j of class c
pub record TypesKept (s : List ℕ) (n : ℕ) (t : List ℕ) (c j : ℕ) : Type 0 where
  pub params : params_in t (64 * c + j) ≡ take max_parameters (method (program_of (files_in s n t)) (first_class + c) j).params
  pub results : results_in t (64 * c + j) ≡ (method (program_of (files_in s n t)) (first_class + c) j).results

-- the entries before number k
pub record TypesTo (s : List ℕ) (n : ℕ) (t : List ℕ) (k : ℕ) : Type 0 where
  pub at : (c j : ℕ) → c < n → j < row_count (block_at t c) true → 64 * c + j < k → TypesKept s n t c j

-- ---- what stands in front stays
module _ (t u : List ℕ) (e : take types_at u ≡ take types_at t) where
  pub fore_take : (a : ℕ) → a ≤ types_at → take a u ≡ take a t
  fore_take a l = same_front types_at a t u l e

  pub fore_block : (c : ℕ) → c < 16 → block_at u c ≡ block_at t c
  fore_block c l = same_block t u (fore_take parents_at (omega arith)) c l

  fore_files : (s : List ℕ) (n : ℕ) → files_in s n u ≡ files_in s n t
  fore_files s n = ap (λ (x : List ℕ). classes_in s x n) (fore_take parents_at (omega arith))

  fore_program : (s : List ℕ) (n : ℕ) → program_of (files_in s n u) ≡ program_of (files_in s n t)
  fore_program s n = ap program_of (fore_files s n)

  pub fore_parents : (s : List ℕ) (n : ℕ) → n ≤ 16 → Parents s n t → Parents s n u
  fore_parents s n m p =
      record { at = λ c l. kept_word 42144 t u e (parents_word + c) (omega arith) ∙ p.at c l ∙ ap (λ (P : Program). (class P c).parent) (sym (fore_program s n)) }

module _ (t u : List ℕ) (h : Front t u) where
  pub front-take : (a : ℕ) → a ≤ types_at → take a u ≡ take a t
  front-take = fore_take t u h.same

  pub front-block : (c : ℕ) → c < 16 → block_at u c ≡ block_at t c
  front-block = fore_block t u h.same

  pub front-program : (s : List ℕ) (n : ℕ) → program_of (files_in s n u) ≡ program_of (files_in s n t)
  front-program = fore_program t u h.same

  pub front_parents : (s : List ℕ) (n : ℕ) → n ≤ 16 → Parents s n t → Parents s n u
  front_parents = fore_parents t u h.same

  pub front_printed : (s : List ℕ) (n : ℕ) → n ≤ 16 → Printed s n t → Printed s n u
  front_printed s n m p = printed_moved s n t u m (front-take parents_at (omega arith)) h.past h.long p

  pub front-ready : (s : List ℕ) (n : ℕ) → Ready s n t → Ready s n u
  front-ready s n r = record {
    most = r.most;
    long = omega (arith, h.long, r.long);
    few = λ c l method. subst (λ (b : List ℕ). row_count b method ≤ 64) (sym (front-block c (omega (arith, r.most)))) (r.few c l method);
    parents = front_parents s n r.most r.parents;
    printed = front_printed s n r.most r.printed;
  }

pub front_none : (t : List ℕ) → Front t t
front_none t = record { same = refl; past = refl; long = refl }

pub front-then : (t u v : List ℕ) → Front t u → Front u v → Front t v
front-then t u v h k = record { same = k.same ∙ h.same; past = k.past ∙ h.past; long = k.long ∙ h.long }

pub front_aside : (k : ℕ) (t u : List ℕ) → k < 1024 → Aside (types_of k) 18 t u → Front t u
front_aside k t u l h = record {
  same = aside_take (types_of k) 18 t u types_at h (omega arith);
  past = same_back (types_of k + 18) types_end t u (omega arith) h.after;
  long = h.long;
}

-- ---- an entry below the one that is written stays
module _ (k : ℕ) (t u : List ℕ) (h : Aside (types_of k) 18 t u) (i : ℕ) (l : i < k) where
  byte_kept : (p : ℕ) → p < 18 → get_or u (types_of i + p) 0 ≡ get_or t (types_of i + p) 0
  byte_kept p g =
      sym (get_or-take (types_of k) u (types_of i + p) 0 (omega arith)) ∙ ap (λ (x : List ℕ). get_or x (types_of i + p) 0) h.before
      ∙ get_or-take (types_of k) t (types_of i + p) 0 (omega arith)

  first_kept : get_or u (types_of i) 0 ≡ get_or t (types_of i) 0
  first_kept =
      let z : types_of i + 0 ≡ types_of i = omega arith in
      ap (λ (p : ℕ). get_or u p 0) (sym z) ∙ byte_kept 0 (omega arith) ∙ ap (λ (p : ℕ). get_or t p 0) z

  pub results_kept : results_in u i ≡ results_in t i
  unfolding results_in result_at
  results_kept = rw (first_kept, byte_kept 17 (omega arith))

  pub params_kept : length (params_in t i) ≤ 16 → params_in u i ≡ params_in t i
  unfolding params_in
  params_kept g =
      ap (λ (b : ℕ). codes_in u (types_of i + 1) (b % 32)) first_kept
      ∙ codes_same t u (types_of i + 1) (get_or t (types_of i) 0 % 32)
      (λ p m. let z : types_of i + 1 + p ≡ types_of i + (1 + p) = omega arith in
      ap (λ (q : ℕ). get_or u q 0) z ∙ byte_kept (1 + p) (omega (arith, params-length t i)) ∙ ap (λ (q : ℕ). get_or t q 0) (sym z))

-- ---- the entries so far
module _ (s : List ℕ) (n : ℕ) (t : List ℕ) where
  pub types_none : TypesTo s n t 0
  types_none = record { at = λ c j h g l. absurd (omega arith) }

  -- no method is in between
  pub types_fill : (c : ℕ) → ((d : ℕ) → d < n → row_count (block_at t d) true ≤ 64) → TypesTo s n t (64 * c + row_count (block_at t c) true) → TypesTo s n t (64 * (c + 1))
  types_fill c few h = record { at = λ d j l g e. go d j l g e (side d c) }
    where
      go : (d j : ℕ) → d < n → j < row_count (block_at t d) true → 64 * d + j < 64 * (c + 1) → (d < c) ⊎ (c ≤ d) → TypesKept s n t d j
      go d j l g e (inl x) = h.at d j l g (omega (arith, few d l))
      go d j l g e (inr x) =
          let z : c ≡ d = omega arith in
          h.at d j l g (rw z (omega arith))

module _ (s : List ℕ) (n : ℕ) (t u : List ℕ) (r : Ready s n t) (h : Front t u) where
  -- the program is the same, so is what its entries have to hold
  kept_moved : (c j : ℕ) → TypesKept s n t c j → params_in u (64 * c + j) ≡ params_in t (64 * c + j) → results_in u (64 * c + j) ≡ results_in t (64 * c + j) → TypesKept s n u c j
  kept_moved c j k p q = record {
    params = p ∙ k.params ∙ ap (λ (P : Program). take max_parameters (method P (first_class + c) j).params) (sym (front-program t u h s n));
    results = q ∙ k.results ∙ ap (λ (P : Program). (method P (first_class + c) j).results) (sym (front-program t u h s n));
  }

  row_moved : (c j : ℕ) → c < n → j < row_count (block_at u c) true → j < row_count (block_at t c) true
  row_moved c j l g = subst (λ (b : List ℕ). j < row_count b true) (front-block t u h c (omega (arith, r.most))) g

  -- nothing was written there
  pub types_same : (k : ℕ) → u ≡ t → TypesTo s n t k → TypesTo s n u k
  types_same k e x = rw e x

-- ---- one more entry
module _ (s : List ℕ) (n : ℕ) (t u : List ℕ) (r : Ready s n t) (c j : ℕ) (h : c < n) (l : j < row_count (block_at t c) true) (x : Text) (ex : x ≡ (row_sig s (block_at t c) true j).descriptor) (q : Bool)
    (d : Described s n x (64 * c + j) q t u) where
  abbrev P : Program
  P = program_of (files_in s n t)

  front : Front t u
  front = front_aside (64 * c + j) t u (omega (arith, r.most, r.few c h true)) d.aside

  typed_by : method_type_or (method_type_at (number_as s n t) x 0) ≡ record { params = (method P (first_class + c) j).params; results = (method P (first_class + c) j).results }
  unfolding method_of row_at row_in member_of row_sig row_start
  typed_by =
      ap (λ (y : Text). method_type_or (method_type_at (number_as s n t) y 0)) ex
      ∙ ap (λ (M : Method). record { params = M.params; results = M.results }) (sym (method-at s n t r.most c h j l))

  pub known_by : q ≡ all_known P ((method P (first_class + c) j).params ++ (method P (first_class + c) j).results)
  known_by = d.known ∙ ap (λ (m : MethodType). all_known P (m.params ++ m.results)) typed_by

  new : TypesKept s n u c j
  new = record {
    params =
        d.params ∙ ap (λ (m : MethodType). take max_parameters m.params) typed_by
        ∙ ap (λ (R : Program). take max_parameters (method R (first_class + c) j).params) (sym (front-program t u front s n));
    results =
        d.results ∙ ap (λ (m : MethodType). m.results) typed_by
        ∙ ap (λ (R : Program). (method R (first_class + c) j).results) (sym (front-program t u front s n));
  }

  pub types_more : TypesTo s n t (64 * c + j) → TypesTo s n u (64 * c + (j + 1))
  types_more k = record { at = λ a i g f e. go a i g (row_moved s n t u r front a i g f) e (side (64 * a + i) (64 * c + j)) }
    where
      go : (a i : ℕ) → a < n → i < row_count (block_at t a) true → 64 * a + i < 64 * c + (j + 1) → (64 * a + i < 64 * c + j) ⊎ (64 * c + j ≤ 64 * a + i) → TypesKept s n u a i
      go a i g f e (inl y) =
          let o = k.at a i g f y in
          kept_moved s n t u r front a i o (params_kept (64 * c + j) t u d.aside (64 * a + i) y (omega (arith, ap length o.params, length-take max_parameters (method P (first_class + a) i).params)))
          (results_kept (64 * c + j) t u d.aside (64 * a + i) y)
      go a i g f e (inr y) =
          let z : c ≡ a = omega (arith, r.few a g true, r.few c h true) in
          let w : j ≡ i = omega (arith, r.few a g true, r.few c h true) in
          subst (λ (b : ℕ). TypesKept s n u b i) z (subst (λ (b : ℕ). TypesKept s n u c b) w new)
