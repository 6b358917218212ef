-- How types are read into codes and kept: what the code's steps leave. Assumes nothing.
use Rattle.std.specs.Prelude.{Result, Ok, Err, IfOk, IsErrAnd, ◌≡◌, not, ltb, set, drop}
use Rattle.std.proofs.Common.{subst, ◌∙◌, take-take, drop-drop, drop-set-lt, ℕ, zero, suc, ◌+◌, ◌-◌, ◌*◌, ◌/◌, ◌%◌, ◌<◌, ◌≤◌, refl, sym, ap, List, [], ◌∷◌, ◌++◌, append-nil, Bool, true, false, cond, arith, eqb, length, get_or, take, length-append, length-set, length-take, take_all, get_or-set_same, get_or-set_other, eq-eqb, ne_eqb, lt-ltb, le-ltb}
use Rattle.std.proofs.lemmas.List.{take-append-le, take-set-le}
use Rattle.std.proofs.lemmas.Bool.{not-true, not-false}
use Rattle.kit.specs.Bools.{not_so}
use Rattle.classfiles.specs.Limits.{max_parameters, max_dimensions}
use Rattle.texts.specs.Reading.{Res, ok, bad, and_then, pre}
use Rattle.texts.specs.Names.{Text}
use Rattle.texts.specs.Answers.{res_as}
use Rattle.classfiles.specs.Descriptors.{cls, arr, Desc, dint, dref, MethodType, method_type, named_at, base_at, type_at, params_at, results_at, whole, field_type_at, method_type_at, as_ref, class_type_at, known_ref, known_desc}
use Rattle.classfiles.specs.Shapes.{seen}
use Rattle.classfiles.specs.Blocks.{listed, classes_in}
use Rattle.classfiles.specs.BlockWords.{listed_same, listed_next, length-listed}
use Rattle.classfiles.specs.Loops.{pre_nil, pre-pre}
use Rattle.reader.specs.Program.{Program, number_in, class_names, desc_or, method_type_or, class_count, program_of}
use Rattle.reader.specs.Link.{all_known}
use Rattle.reader.specs.BuiltIns.{first_class}
use Rattle.reader.specs.Numbers.{listed_at}
use Rattle.reader.specs.Chains.{counted}
use Rattle.reader.specs.Linked.{parents_at, files_in, handed_on, length-program}
use Rattle.reader.specs.TypeCodes.{base_of, nested, desc_of, ref_in, ref_of, result_of, known_all, types_of, number_by, codes_in, result_at, params_in, results_in, Aside, Kept, ParamsRead, ParamsKept, Settled, Described}
use Rattle.texts.specs.Faults.{number as number_of}
use Rattle.texts.specs.declared.faults.Refusal.TheVariants.{Malformed}
use Rattle.texts.specs.declared.faults.Got.{Got}
use Rattle.texts.specs.declared.faults.Fault.{Fault}
use Rattle.reader.specs.declared.types.Listed.{Listed}

-- ---- codes
pub desc_at : (b d : ℕ) → d < 8 → desc_of (8 * b + d) ≡ nested d (base_of b)
unfolding desc_of
desc_at b d h =
    let x : (8 * b + d) % 8 ≡ d = omega arith in
    let y : (8 * b + d) / 8 ≡ b = omega arith in
    rw (x, y)

nested_in : (k : ℕ) (d : Desc) → nested k (dref (arr d)) ≡ nested (suc k) d
unfolding nested
nested_in zero d = refl
nested_in (suc k) d = ap (λ (z : Desc). dref (arr z)) (nested_in k d)

-- a class's number as a base
pub class_base : (k m n : ℕ) → k ≡ m → k ≤ first_class + n → n ≤ 16 → base_of k ≡ dref (cls m)
unfolding base_of
class_base k m n e h l = rw (ne_eqb k 31 (λ z. omega arith)) (ap (λ (j : ℕ). dref (cls j)) e)

pub class-ref : (k m n : ℕ) → k ≡ m → k ≤ first_class + n → n ≤ 16 → ref_of (8 * k) ≡ cls m
unfolding ref_of ref_in nested
class-ref k m n e h l =
    let z : 8 * k ≡ 8 * k + 0 = omega arith in
    ap (λ (c : ℕ). ref_in (desc_of c)) z ∙ ap ref_in (desc_at k 0 (omega arith) ∙ class_base k m n e h l)

nested_known : (m k : ℕ) (d : Desc) → known_desc m (nested k d) ≡ known_desc m d
unfolding nested known_desc known_ref
nested_known m zero d = refl
nested_known m (suc k) d = nested_known m k d

module _ (m code : ℕ) where
  known_by : known_desc m (desc_of code) ≡ cond (eqb (code / 8) 31) true (ltb (code / 8) m)
  unfolding desc_of base_of known_desc known_ref
  known_by = nested_known m (code % 8) (base_of (code / 8)) ∙ go (eqb (code / 8) 31)
    where
      go : (b : Bool) → known_desc m (cond b dint (dref (cls (code / 8)))) ≡ cond b true (ltb (code / 8) m)
      go true = refl
      go false = refl

  pub known_int : code / 8 ≡ 31 → true ≡ known_desc m (desc_of code)
  known_int e = sym (known_by ∙ rw (eq-eqb (code / 8) 31 e))

  pub known_class : (code / 8 ≡ 31 → ⊥) → ltb (code / 8) m ≡ known_desc m (desc_of code)
  known_class e = sym (known_by ∙ rw (ne_eqb (code / 8) 31 e))

pub named-type : (R : Res Desc) (number : Text → ℕ) (x : Text) (q k z : ℕ) → k ≡ z → R ≡ named_at number x 0 q k → R ≡ named_at number x 0 q z
named-type R number x q k z e h = h ∙ ap (named_at number x 0 q) e

-- ---- a fault that `?` hands on
pub fault_as : {T A : Type 0} (f : T → A) (r : Result (Got T) Fault) (e : Fault) → IsErrAnd r (λ z. z ≡ e) → res_as f r ≡ bad (number_of e.0) e.1
fault_as f (Ok v) e h = absurd h
fault_as f (Err z) e h = ap (λ (x : Fault). bad (number_of x.0) x.1) h

pub no_value : {T E : Type 0} (P : T → Type 0) (r : Result T E) (e : E) → IsErrAnd r (λ z. z ≡ e) → IfOk r P
no_value P (Ok v) e h = absurd h
no_value P (Err z) e h = tt

pub below_none : (r : Result (Got ℕ) Fault) → IfOk r (λ d. d.val < 256) → IfOk r (λ d. d.val ≤ 256)
below_none (Ok d) h = omega arith
below_none (Err e) h = tt

-- ---- a base under brackets
pub seen-under : (d c at at' : ℕ) (b : Desc) → desc_of c ≡ nested d b → at' ≡ at → ok (desc_of c) at' ≡ seen (nested d) (ok b at)
unfolding seen
seen-under d c at at' b e f = cc

pub under_ok : (b : Got ℕ) (d : ℕ) → d < 8 → ok (desc_of (8 * b.val + d)) b.at ≡ seen (nested d) (res_as base_of (Ok b))
under_ok b d l = seen-under d (8 * b.val + d) b.at b.at (base_of b.val) (desc_at b.val d l) refl

pub seen-fault : (d n p : ℕ) → bad n p ≡ seen (nested d) (bad n p)
unfolding seen
seen-fault d n p = refl

seen-zero : (y : Res Desc) → seen (nested 0) y ≡ y
unfolding seen nested
seen-zero (ok d e) = refl
seen-zero (bad n p) = refl

seen_more : (k : ℕ) (y : Res Desc) → seen (nested k) (and_then y λ d e. ok (dref (arr d)) e) ≡ seen (nested (suc k)) y
unfolding seen and_then
seen_more k (ok d e) = ap (λ (z : Desc). ok z e) (nested_in k d)
seen_more k (bad n p) = refl

module _ (number : Text → ℕ) (x : Text) where
  type_none : (n q : ℕ) → n ≤ 0 → type_at number x 0 n q ≡ base_at number x 0 q
  unfolding type_at
  type_none zero q h = refl
  type_none (suc n) q h = absurd (omega arith)

  type_base : (n q : ℕ) → eqb (get_or x q 0) 91 ≡ false → type_at number x 0 n q ≡ base_at number x 0 q
  unfolding type_at
  type_base zero q h = refl
  type_base (suc n) q h = rw h

  type_array : (n q : ℕ) → 0 < n → eqb (get_or x q 0) 91 ≡ true → type_at number x 0 n q ≡ and_then (type_at number x 0 (n - 1) (q + 1)) λ d e. ok (dref (arr d)) e
  unfolding type_at
  type_array zero q h w = absurd (omega arith)
  type_array (suc n) q h w =
      let z : n ≡ suc n - 1 = omega arith in
      rw w (ap (λ (k : ℕ). and_then (type_at number x 0 k (q + 1)) λ d e. ok (dref (arr d)) e) z)

  -- the brackets are counted down; what is left of the type is seen under those before
  pub code_start : (q : ℕ) → seen (nested 0) (type_at number x 0 7 q) ≡ type_at number x 0 7 q
  code_start q = seen-zero (type_at number x 0 7 q)

  module _ (R : Res Desc) (left q : ℕ) (i : seen (nested (7 - left)) (type_at number x 0 left q) ≡ R) where
    pub code_last : (r y : Res Desc) → left ≤ 0 → y ≡ base_at number x 0 q → r ≡ seen (nested 7) y → r ≡ R
    code_last r y h e f =
        let z : 7 ≡ 7 - left = omega arith in
        f ∙ ap (λ (k : ℕ). seen (nested k) y) z ∙ ap (seen (nested (7 - left))) (e ∙ sym (type_none left q h)) ∙ i

    module _ (b : Bool) (g : b ≡ eqb (get_or x q 0) 91) where
      pub code_here : (r y : Res Desc) → not b ≡ true → y ≡ base_at number x 0 q → r ≡ seen (nested (7 - left)) y → r ≡ R
      code_here r y f e h =
          h ∙ ap (seen (nested (7 - left))) (e ∙ sym (type_base left q (sym g ∙ not-true b f))) ∙ i

      pub code_next : not b ≡ false → 0 < left → left ≤ 7 → seen (nested (7 - (left - 1))) (type_at number x 0 (left - 1) (q + 1)) ≡ R
      code_next f h l =
          let z : 7 - (left - 1) ≡ suc (7 - left) = omega arith in
          ap (λ (k : ℕ). seen (nested k) (type_at number x 0 (left - 1) (q + 1))) z
          ∙ sym (seen_more (7 - left) (type_at number x 0 (left - 1) (q + 1)))
          ∙ ap (seen (nested (7 - left))) (sym (type_array left q h (sym g ∙ not-false b f))) ∙ i

  -- ---- whole descriptors
  module _ (n p : ℕ) (k : bad n p ≡ type_at number x 0 max_dimensions 0) where
    pub field_bad : desc_of 248 ≡ desc_or (field_type_at number x 0)
    unfolding field_type_at and_then desc_of nested base_of
    field_bad = rw (← k)

    pub array_bad : (b : Bool) → b ≡ eqb (get_or x 0 0) 91 → b ≡ true → bad n p ≡ class_type_at number x 0
    unfolding class_type_at field_type_at and_then
    array_bad b g f = sym (rw (sym g ∙ f, ← k))

  module _ (v at : ℕ) (k : ok (desc_of v) at ≡ type_at number x 0 max_dimensions 0) where
    pub field_ok : at ≡ length x → desc_of v ≡ desc_or (field_type_at number x 0)
    unfolding field_type_at and_then whole
    field_ok e = rw (← k, eq-eqb at (length x) e)

    pub field_short : (at ≡ length x → ⊥) → desc_of 248 ≡ desc_or (field_type_at number x 0)
    unfolding field_type_at and_then whole desc_of nested base_of
    field_short e = rw (← k, ne_eqb at (length x) e)

    module _ (b : Bool) (g : b ≡ eqb (get_or x 0 0) 91) (f : b ≡ true) where
      is-array : (y : Res Desc) → and_then y (λ z e. ok (dref (arr z)) e) ≡ ok (desc_of v) at → dref (ref_of v) ≡ desc_of v
      unfolding and_then ref_of ref_in
      is-array (ok z e) h = let w : dref (arr z) ≡ desc_of v = ap desc_or h in rw (← w)
      is-array (bad n p) h = absurd (no_res h)
        where
          kind : Res Desc → Bool
          kind (ok z e) = true
          kind (bad n p) = false

          no_res : bad n p ≡ ok (desc_of v) at → ⊥
          no_res h = not_so (ap kind h)

      array_desc : desc_of v ≡ dref (ref_of v)
      array_desc = sym (is-array (type_at number x 0 6 1) (sym (type_array 7 0 (omega arith) (sym g ∙ f)) ∙ sym k))

      pub array_ok : at ≡ length x → ok (ref_of v) at ≡ class_type_at number x 0
      unfolding class_type_at field_type_at and_then whole as_ref
      array_ok e = sym (rw (sym g ∙ f, ← k, eq-eqb at (length x) e, array_desc))

      pub array_short : (at ≡ length x → ⊥) → bad 7 0 ≡ class_type_at number x 0
      unfolding class_type_at field_type_at and_then whole
      array_short e = sym (rw (sym g ∙ f, ← k, ne_eqb at (length x) e))

-- ---- bytes aside
module _ (w n : ℕ) (t : List ℕ) where
  pub aside_none : Aside w n t t
  aside_none = record { before = refl; after = refl; long = refl }

  pub aside_set : (i v : ℕ) → w ≤ i → i < w + n → Aside w n t (set t i v)
  aside_set i v h l =
      record { before = take-set-le w t i v h; after = drop-set-lt (w + n) t i v l; long = length-set t i v }

  pub aside_then : (u v : List ℕ) → Aside w n t u → Aside w n u v → Aside w n t v
  aside_then u v h k =
      record { before = k.before ∙ h.before; after = k.after ∙ h.after; long = k.long ∙ h.long }

  -- of more bytes
  pub aside_wide : (u : List ℕ) (a m : ℕ) → Aside a m t u → w ≤ a → a + m ≤ w + n → Aside w n t u
  aside_wide u a m h l g = record {
    before = sym (take-take w a u l) ∙ ap (take w) h.before ∙ take-take w a t l;
    after =
        let z : a + m + (w + n - (a + m)) ≡ w + n = omega arith in
        ap (λ (k : ℕ). drop k u) (sym z) ∙ sym (drop-drop (w + n - (a + m)) (a + m) u) ∙ ap (drop (w + n - (a + m))) h.after
        ∙ drop-drop (w + n - (a + m)) (a + m) t ∙ ap (λ (k : ℕ). drop k t) z;
    long = h.long;
  }

  -- what stands below
  pub aside_take : (u : List ℕ) (a : ℕ) → Aside w n t u → a ≤ w → take a u ≡ take a t
  aside_take u a h l = sym (take-take a w u l) ∙ ap (take a) h.before ∙ take-take a w t l

-- and so class names mean what they meant
module _ (s : List ℕ) (n w k : ℕ) (t u : List ℕ) (h : Aside w k t u) (l : parents_at ≤ w) where
  number_moved : number_by s n u ≡ number_by s n t
  number_moved = ap (λ (y : List ℕ). number_in (class_names (classes_in s y n))) (aside_take w k t u parents_at h l)

  pub type_moved : (R : Res Desc) (x : Text) (q : ℕ) → R ≡ type_at (number_by s n u) x 0 max_dimensions q → R ≡ type_at (number_by s n t) x 0 max_dimensions q
  type_moved R x q e = e ∙ ap (λ (f : Text → ℕ). type_at f x 0 max_dimensions q) number_moved

  pub result_moved : (R : Res (List Desc)) (x : Text) (q : ℕ) → R ≡ results_at (number_by s n u) x 0 q → R ≡ results_at (number_by s n t) x 0 q
  result_moved R x q e = e ∙ ap (λ (f : Text → ℕ). results_at f x 0 q) number_moved

pub codes_same : (t u : List ℕ) (w n : ℕ) → ((i : ℕ) → i < n → get_or u (w + i) 0 ≡ get_or t (w + i) 0) → codes_in u w n ≡ codes_in t w n
unfolding codes_in
codes_same t u w n h =
    listed_same (λ i. desc_of (get_or u (w + i) 0)) (λ i. desc_of (get_or t (w + i) 0)) n (λ i l. ap desc_of (h i l))

codes_length : (t : List ℕ) (w n : ℕ) → length (codes_in t w n) ≡ n
unfolding codes_in
codes_length t w n = length-listed (λ i. desc_of (get_or t (w + i) 0)) n

-- ---- one more code
module _ (t : List ℕ) (w count code : ℕ) where
  pub keep_one : count < 16 → w + 16 ≤ length t → Kept w count code (count + 1) t (set t (w + count) code)
  unfolding codes_in
  keep_one h l = record {
    more = more;
    most = omega arith;
    aside = aside_set w 16 t (w + count) code (omega arith) (omega arith);
  }
    where
      more : (ds : List Desc) → codes_in t w count ≡ take 16 ds → codes_in (set t (w + count) code) w (count + 1) ≡ take 16 (ds ++ (desc_of code ∷ []))
      more ds e =
          let z : length (take 16 ds) ≡ count = sym (ap length e) ∙ codes_length t w count in
          let y : length ds < 16 = omega (arith, length-take 16 ds) in
          let a : codes_in (set t (w + count) code) w count ≡ ds = codes_same t (set t (w + count) code) w count (λ i g. get_or-set_other t (w + count) (w + i) code 0 (λ q. omega arith)) ∙ e ∙ take_all 16 ds (omega arith) in
          let b : get_or (set t (w + count) code) (w + count) 0 ≡ code = get_or-set_same t (w + count) code 0 (omega arith) in
          listed_next (λ i. desc_of (get_or (set t (w + count) code) (w + i) 0)) count
          ∙ ap (λ (k : ℕ). codes_in (set t (w + count) code) w count ++ (desc_of k ∷ [])) b
          ∙ ap (λ (k : List Desc). k ++ (desc_of code ∷ [])) a
          ∙ sym (take_all 16 (ds ++ (desc_of code ∷ [])) (omega (arith, length-append ds (desc_of code ∷ []))))

  pub keep_none : 16 ≤ count → count ≤ 16 → Kept w count code count t t
  keep_none h l = record { more = more; most = l; aside = aside_none w 16 t }
    where
      more : (ds : List Desc) → codes_in t w count ≡ take 16 ds → codes_in t w count ≡ take 16 (ds ++ (desc_of code ∷ []))
      more ds e =
          let z : length (take 16 ds) ≡ count = sym (ap length e) ∙ codes_length t w count in
          let y : 16 ≤ length ds = omega (arith, length-take 16 ds) in
          e ∙ sym (take-append-le 16 ds (desc_of code ∷ []) y)

-- ---- what is known
known_append : (m : ℕ) (ds es : List Desc) → known_all m (ds ++ es) ≡ cond (known_all m ds) (known_all m es) false
unfolding known_all
known_append m [] es = refl
known_append m (d ∷ ds) es = go (known_desc m d) (known_append m ds es)
  where
    go : (b : Bool) → known_all m (ds ++ es) ≡ cond (known_all m ds) (known_all m es) false → cond b (known_all m (ds ++ es)) false ≡ cond (cond b (known_all m ds) false) (known_all m es) false
    go true h = h
    go false h = refl

known_one : (m : ℕ) (d : Desc) → known_all m (d ∷ []) ≡ known_desc m d
unfolding known_all
known_one m d = go (known_desc m d)
  where
    go : (b : Bool) → cond b true false ≡ b
    go true = refl
    go false = refl

all_known_lem : (P : Program) (m : ℕ) → class_count P ≡ m → (ds : List Desc) → all_known P ds ≡ known_all m ds
unfolding all_known known_all
all_known_lem P m e [] = refl
all_known_lem P m e (d ∷ ds) = cc (e, all_known_lem P m e ds)

module _ (m v : ℕ) where
  pub no_result_known : v ≡ 256 → true ≡ known_all m (result_of v)
  unfolding result_of known_all
  no_result_known e = rw (eq-eqb v 256 e)

  pub result_known : (r : Bool) → (v ≡ 256 → ⊥) → r ≡ known_desc m (desc_of v) → r ≡ known_all m (result_of v)
  unfolding result_of
  result_known r e h = h ∙ sym (known_one m (desc_of v)) ∙ sym (ap (known_all m) (rw (ne_eqb v 256 e)))

-- ---- the loop over the parameters
module _ (m : ℕ) (number : Text → ℕ) (x : Text) (w : ℕ) (t : List ℕ) where
  pub params_start : (left : ℕ) → length x ≡ left → ParamsRead m number x w 1 left 0 true t t
  unfolding codes_in listed known_all
  params_start left e = record {
    ds = [];
    is = pre_nil (params_at number x 0 left 1) ∙ ap (λ (k : ℕ). params_at number x 0 k 1) (sym e);
    codes = refl;
    known = refl;
    most = omega arith;
    aside = aside_none w 16 t;
  }

  module _ (at left count : ℕ) (known : Bool) (u : List ℕ) (i : ParamsRead m number x w at left count known t u) where
    kept-bad : (e : Fault) → params_at number x 0 (length x) 1 ≡ bad (number_of e.0) e.1 → ParamsKept m number x w (Err e) t u
    kept-bad e h = record { ds = i.ds; is = h; codes = tt; known = tt; most = tt; aside = i.aside }

    pub params_none : left ≤ 0 → ParamsKept m number x w (Err (Malformed, 0)) t u
    unfolding params_at pre
    params_none h = kept-bad _ (sym i.is ∙ ap (pre i.ds) (none left h))
      where
        none : (n : ℕ) → n ≤ 0 → params_at number x 0 n at ≡ bad 7 0
        none zero h = refl
        none (suc n) h = absurd (omega arith)

    module _ (b : Bool) (g : b ≡ eqb (get_or x at 0) 41) (h : 0 < left) where
      pub params_end : b ≡ true → ParamsKept m number x w (Ok (record { known = known; count = count; at = at + 1 })) t u
      unfolding pre params_at
      params_end f = record {
        ds = i.ds;
        is = sym i.is ∙ ap (pre i.ds) (last left h (sym g ∙ f)) ∙ ap (λ (l : List Desc). ok l (at + 1)) (append-nil i.ds);
        codes = i.codes;
        known = i.known;
        most = i.most;
        aside = i.aside;
      }
        where
          last : (n : ℕ) → 0 < n → eqb (get_or x at 0) 41 ≡ true → params_at number x 0 n at ≡ ok [] (at + 1)
          last zero l e = absurd (omega arith)
          last (suc n) l e = rw e

      another : b ≡ false → params_at number x 0 left at ≡ and_then (type_at number x 0 max_dimensions at) λ d e. pre (d ∷ []) (params_at number x 0 (left - 1) e)
      unfolding params_at
      another f = go left h (sym g ∙ f)
        where
          go : (n : ℕ) → 0 < n → eqb (get_or x at 0) 41 ≡ false → params_at number x 0 n at ≡ and_then (type_at number x 0 max_dimensions at) λ d e. pre (d ∷ []) (params_at number x 0 (n - 1) e)
          go zero l e = absurd (omega arith)
          go (suc n) l e =
              let z : n ≡ suc n - 1 = omega arith in
              rw e (ap (λ (k : ℕ). and_then (type_at number x 0 max_dimensions at) λ d e. pre (d ∷ []) (params_at number x 0 k e)) z)

      module _ (f : b ≡ false) where
        pub params_bad : (e : Fault) → bad (number_of e.0) e.1 ≡ type_at number x 0 max_dimensions at → (r : Result Listed Fault) → IsErrAnd r (λ z. z ≡ e) → ParamsKept m number x w r t u
        unfolding and_then pre
        params_bad e k r l =
            let z : params_at number x 0 left at ≡ bad (number_of e.0) e.1 = another f ∙ rw (← k) in
            subst (λ (y : Result Listed Fault). ParamsKept m number x w y t u) (sym (handed_on r e l)) (kept-bad e (sym i.is ∙ ap (pre i.ds) z))

        pub params_more : (d : Got ℕ) → ok (desc_of d.val) d.at ≡ type_at number x 0 max_dimensions at → (r : ℕ) (v : List ℕ) (a c : Bool) → Kept w count d.val r u v → a ≡ known_desc m (desc_of d.val) → c ≡ cond known a false
            → ParamsRead m number x w d.at (left - 1) r c t v
        unfolding and_then
        params_more d k r v a c q y z =
            let o : params_at number x 0 left at ≡ pre (desc_of d.val ∷ []) (params_at number x 0 (left - 1) d.at) = another f ∙ rw (← k) in
            record {
              ds = i.ds ++ (desc_of d.val ∷ []);
              is =
                  sym (pre-pre i.ds (desc_of d.val ∷ []) (params_at number x 0 (left - 1) d.at))
                  ∙ ap (pre i.ds) (sym o)
                  ∙ i.is;
              codes = q.more i.ds i.codes;
              known =
                  z ∙ ap (λ (k : Bool). cond k a false) i.known ∙ ap (λ (k : Bool). cond (known_all m i.ds) k false) (y ∙ sym (known_one m (desc_of d.val)))
                  ∙ sym (known_append m i.ds (desc_of d.val ∷ []));
              most = q.most;
              aside = aside_then w 16 t u v i.aside q.aside;
            }

-- ---- V, or one result
module _ (number : Text → ℕ) (x : Text) (q : ℕ) (b : Bool) (g : b ≡ eqb (get_or x q 0) 86) where
  pub result_none : b ≡ true → ok (result_of 256) (q + 1) ≡ results_at number x 0 q
  unfolding results_at result_of
  result_none f = sym (rw (sym g ∙ f))

  pub result_some : b ≡ false → (r : Result (Got ℕ) Fault) → res_as desc_of r ≡ type_at number x 0 max_dimensions q → IfOk r (λ d. d.val < 256) → res_as result_of r ≡ results_at number x 0 q
  unfolding results_at and_then result_of
  result_some f (Ok d) k l =
      let one : result_of d.val ≡ desc_of d.val ∷ [] = rw (ne_eqb d.val 256 (λ z. omega arith)) in
      ap (λ (r : List Desc). ok r d.at) one ∙ sym (rw (sym g ∙ f, ← k))
  result_some f (Err e) k l = sym (rw (sym g ∙ f, ← k))

-- ---- the entry's first and last byte
module _ (t : List ℕ) (w count v : ℕ) (l : w + 18 ≤ length t) (h : count ≤ 16) where
  pub settle_none : v ≡ 256 → Settled w count v t (set t w count)
  unfolding result_at result_of
  settle_none e =
      let y : get_or (set t w count) w 0 ≡ count = get_or-set_same t w count 0 (omega arith) in
      let z : count < 32 = omega arith in
      record {
        count = omega (arith, y);
        codes = codes_same t (set t w count) (w + 1) count (λ i g. get_or-set_other t w (w + 1 + i) count 0 (λ q. omega arith));
        result = rw (y, lt-ltb count 32 z, eq-eqb v 256 e);
        aside = aside_set w 18 t w count (omega arith) (omega arith);
      }

  pub settle_some : (v ≡ 256 → ⊥) → Settled w count v t (set (set t w (32 + count)) (w + 17) v)
  unfolding result_at result_of
  settle_some e =
      let y : get_or (set (set t w (32 + count)) (w + 17) v) w 0 ≡ 32 + count = get_or-set_other (set t w (32 + count)) (w + 17) w v 0 (λ q. omega arith) ∙ get_or-set_same t w (32 + count) 0 (omega arith) in
      let x : get_or (set (set t w (32 + count)) (w + 17) v) (w + 17) 0 ≡ v = get_or-set_same (set t w (32 + count)) (w + 17) v 0 (omega (arith, length-set t w (32 + count))) in
      let z : 32 ≤ 32 + count = omega arith in
      record {
        count = omega (arith, y);
        codes = codes_same t (set (set t w (32 + count)) (w + 17) v) (w + 1) count (λ i g. get_or-set_other (set t w (32 + count)) (w + 17) (w + 1 + i) v 0 (λ q. omega arith) ∙ get_or-set_other t w (w + 1 + i) (32 + count) 0 (λ q. omega arith));
        result = rw (y, x, le-ltb (32 + count) 32 z, ne_eqb v 256 e);
        aside = aside_then w 18 t (set t w (32 + count)) _ (aside_set w 18 t w (32 + count) (omega arith) (omega arith)) (aside_set w 18 (set t w (32 + count)) (w + 17) v (omega arith) (omega arith));
      }

-- ---- a whole method descriptor
module _ (number : Text → ℕ) (x : Text) (b : Bool) (g : b ≡ eqb (get_or x 0 0) 40) where
  pub method_none : not b ≡ true → method_type_at number x 0 ≡ bad 7 0
  unfolding method_type_at
  method_none f = rw (sym g ∙ not-true b f)

  module _ (f : not b ≡ false) (m w : ℕ) (t u : List ℕ) where
    open_is : eqb (get_or x 0 0) 40 ≡ true
    open_is = sym g ∙ not-false b f

    pub method-params : (e : Fault) → ParamsKept m number x w (Err e) t u → method_type_at number x 0 ≡ bad (number_of e.0) e.1
    unfolding method_type_at and_then
    method-params e k = rw (open_is, k.is)

    module _ (p : Listed) (k : ParamsKept m number x w (Ok p) t u) where
      pub method-result : (e : Fault) → bad (number_of e.0) e.1 ≡ results_at number x 0 p.at → method_type_at number x 0 ≡ bad (number_of e.0) e.1
      unfolding method_type_at and_then
      method-result e h = rw (open_is, k.is, ← h)

      module _ (r : Got ℕ) (e : ok (result_of r.val) r.at ≡ results_at number x 0 p.at) (n : ℕ) (c : length x ≡ n) where
        pub method_long : (r.at ≡ n → ⊥) → method_type_at number x 0 ≡ bad 7 0
        unfolding method_type_at and_then whole
        method_long z = rw (open_is, k.is, ← e, ne_eqb r.at (length x) (λ y. z (y ∙ c)))

        pub method_ok : r.at ≡ n → method_type_at number x 0 ≡ ok (method_type k.ds (result_of r.val)) r.at
        unfolding method_type_at and_then whole
        method_ok z = rw (open_is, k.is, ← e, eq-eqb r.at (length x) (z ∙ sym c))

-- the codes are written inside the entry
module _ (k : ℕ) (t u : List ℕ) (h : Aside (types_of k + 1) 16 t u) where
  pub aside_entry : Aside (types_of k) 18 t u
  aside_entry = aside_wide (types_of k) 18 t u (types_of k + 1) 16 h (omega arith) (omega arith)

  pub result-after : (s : List ℕ) (n : ℕ) (R : Res (List Desc)) (x : Text) (q : ℕ) → R ≡ results_at (number_by s n u) x 0 q → R ≡ results_at (number_by s n t) x 0 q
  result-after s n R x q e = result_moved s n (types_of k + 1) 16 t u h (omega arith) R x q e

module _ (s : List ℕ) (n : ℕ) (x : Text) (k : ℕ) (t v u : List ℕ) (a : Aside (types_of k) 18 t v) where
  pub program-count : class_count (program_of (files_in s n t)) ≡ first_class + n
  program-count = length-program (files_in s n t) ∙ ap (λ (j : ℕ). first_class + j) (counted s (take parents_at t) n)

  entry_is : (r : Bool) (count val : ℕ) (ps : List Desc) (y : Res MethodType) → Settled (types_of k) count val v u → codes_in v (types_of k + 1) count ≡ take max_parameters ps
      → method_type_at (number_by s n t) x 0 ≡ y → method_type_or y ≡ method_type ps (result_of val) → r ≡ known_all (first_class + n) (ps ++ result_of val) → Described s n x k r t u
  unfolding params_in results_in
  entry_is r count val ps y q c e z o =
      let M : method_type_or (method_type_at (number_by s n t) x 0) ≡ method_type ps (result_of val) = ap method_type_or e ∙ z in
      let mp : (method_type_or (method_type_at (number_by s n t) x 0)).params ≡ ps = ap (λ (m : MethodType). m.params) M in
      let mr : (method_type_or (method_type_at (number_by s n t) x 0)).results ≡ result_of val = ap (λ (m : MethodType). m.results) M in
      record {
        known = o ∙ sym (all_known_lem (program_of (files_in s n t)) (first_class + n) program-count (ps ++ result_of val)) ∙ ap (λ (m : MethodType). all_known (program_of (files_in s n t)) (m.params ++ m.results)) (sym M);
        params = ap (codes_in u (types_of k + 1)) q.count ∙ q.codes ∙ c ∙ ap (take max_parameters) (sym mp);
        results = q.result ∙ sym mr;
        aside = aside_then (types_of k) 18 t v u a q.aside;
      }

  pub described_none : (m j : ℕ) → method_type_at (number_by s n t) x 0 ≡ bad m j → Settled (types_of k) 0 256 v u → Described s n x k true t u
  unfolding codes_in listed result_of known_all
  described_none m j e q = entry_is true 0 256 [] (bad m j) q refl e refl refl

  pub described_some : (ds : List Desc) (count val j : ℕ) (p o r : Bool) → codes_in v (types_of k + 1) count ≡ take max_parameters ds
      → method_type_at (number_by s n t) x 0 ≡ ok (method_type ds (result_of val)) j → Settled (types_of k) count val v u
      → p ≡ known_all (first_class + n) ds → o ≡ known_all (first_class + n) (result_of val) → r ≡ cond p o false → Described s n x k r t u
  described_some ds count val j p o r c e q h i z =
      entry_is r count val ds (ok (method_type ds (result_of val)) j) q c e refl
      (z ∙ ap (λ (b : Bool). cond b o false) h ∙ ap (λ (b : Bool). cond (known_all (first_class + n) ds) b false) i ∙ sym (known_append (first_class + n) ds (result_of val)))

-- ---- an entry read
module _ (t : List ℕ) (k : ℕ) where
  pub params-length : length (params_in t k) ≡ get_or t (types_of k) 0 % 32
  unfolding params_in
  params-length = codes_length t (types_of k + 1) (get_or t (types_of k) 0 % 32)

  pub count_is : (b : ℕ) → b ≡ get_or t (types_of k) 0 → (b % 32 ≡ length (params_in t k)) × (b % 32 < 32)
  count_is b e = (ap (λ (n : ℕ). n % 32) e ∙ sym params-length, omega arith)

  pub code_is : (i b : ℕ) → i < length (params_in t k) → b ≡ get_or t (types_of k + 1 + i) 0 → b < 256 → (desc_of b ≡ get_or (params_in t k) i dint) × (b < 256)
  unfolding params_in codes_in
  code_is i b h e l = (
    ap desc_of e
        ∙ sym (listed_at (λ j. desc_of (get_or t (types_of k + 1 + j) 0)) (get_or t (types_of k) 0 % 32) i dint (omega (arith, params-length))),
    l,
  )

  pub result_no : (b : ℕ) → b ≡ get_or t (types_of k) 0 → b < 32 → (result_of 256 ≡ results_in t k) × (256 ≤ 256)
  unfolding results_in result_at result_of
  result_no b e h = let z : get_or t (types_of k) 0 < 32 = omega arith in (rw (lt-ltb (get_or t (types_of k) 0) 32 z), omega arith)

  pub result_yes : (b c : ℕ) → b ≡ get_or t (types_of k) 0 → 32 ≤ b → c ≡ get_or t (types_of k + 17) 0 → c < 256 → (result_of c ≡ results_in t k) × (c ≤ 256)
  unfolding results_in result_at result_of
  result_yes b c e h f l =
      let z : 32 ≤ get_or t (types_of k) 0 = omega arith in
      (rw (le-ltb (get_or t (types_of k) 0) 32 z, ne_eqb c 256 (λ y. omega arith)) (ap (λ (n : ℕ). desc_of n ∷ []) f), omega arith)
