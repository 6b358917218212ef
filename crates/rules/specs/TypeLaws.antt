-- Laws of types in words: a function of a word's type goes by the word's kind; nested arrays are compared by base and depth.
-- Assumes nothing.
use Rattle.std.specs.Prelude.{◌≡◌, refl, Bool, true, false, cond, not, ◌⊎◌, eqb, ltb, leb}
use Rattle.std.proofs.Common.{sym, ap, ◌∙◌, inl, inr, arith, eq-eqb, ne_eqb, eqb-true, ℕ, zero, suc, ◌-◌, ◌/◌, ◌%◌, ◌<◌, ◌≤◌, sub-one}
use Rattle.std.proofs.Math.Dec.{eqb-suc-suc, eqb-zero-suc, eqb-suc-zero, leb-zero, leb-suc-zero, leb-suc-suc}
use Rattle.kit.specs.Pick.{picks, side}
use Rattle.classfiles.specs.Descriptors.{cls, arr, dint, dref}
use Rattle.reader.specs.Program.{Program, below}
use Rattle.rules.specs.Types.{at, self, Ty, top, int, null, ini, uninit, is_top, is_int, is_null, is_reference, is_array, is_uninit, element_ty, ty_of, ref_fits, desc_fits, fits}
use Rattle.rules.specs.Rule.{key_of}
use Rattle.rules.specs.TypeWords.{int_base, base_of, nest, type_by, type_of, base_fits, nest_fits}

apart : {A B : Type 0} (f : A → B) (t : Bool) (x y : A) → f (cond t x y) ≡ cond t (f x) (f y)
apart f true x y = refl
apart f false x y = refl

swapped : {A : Type 0} (t : Bool) (x y z : A) → y ≡ z → cond t x y ≡ cond t x z
swapped t x y z e = ap (cond t x) e

module _ {A : Type 0} (f : Ty → A) (k d n : ℕ) where
  by_kind : f (type_by k d n)
      ≡ cond (eqb k 1) (f int)
      (cond (eqb k 2) (f null)
      (cond (eqb k 3) (f (ini (cls n)))
      (cond (eqb k 4) (f (ini (arr (nest n d)))) (cond (eqb k 5) (f (uninit (at n))) (cond (ltb 5 k) (f (uninit self)) (f top))))))
  by_kind =
      apart f (eqb k 1) _ _ ∙ swapped (eqb k 1) _ _ _
      (apart f (eqb k 2) _ _ ∙ swapped (eqb k 2) _ _ _
      (apart f (eqb k 3) _ _ ∙ swapped (eqb k 3) _ _ _
      (apart f (eqb k 4) _ _ ∙ swapped (eqb k 4) _ _ _
      (apart f (eqb k 5) _ _ ∙ swapped (eqb k 5) _ _ _ (apart f (ltb 5 k) _ _)))))

pub of_type : {A : Type 0} (f : Ty → A) (w : ℕ) (r : A)
    → r ≡ cond (eqb (w % 8) 1) (f int)
    (cond (eqb (w % 8) 2) (f null)
    (cond (eqb (w % 8) 3) (f (ini (cls (w / 64))))
    (cond (eqb (w % 8) 4) (f (ini (arr (nest (w / 64) (w / 8 % 8)))))
    (cond (eqb (w % 8) 5) (f (uninit (at (w / 64)))) (cond (ltb 5 (w % 8)) (f (uninit self)) (f top))))))
    → r ≡ f (type_of w)
unfolding type_of
of_type f w r h = h ∙ sym (by_kind f (w % 8) (w / 8 % 8) (w / 64))

-- where the kind is known
pub at_kind : {A : Type 0} (f : Ty → A) (w n : ℕ) (r : A) → w % 8 ≡ n → r ≡ f (type_by n (w / 8 % 8) (w / 64)) → r ≡ f (type_of w)
unfolding type_of
at_kind f w n r e h = rw e h

pub if_any : {A : Type 0} (r x y : A) (t : Bool) → r ≡ x → r ≡ y → r ≡ cond t x y
if_any r x y true p q = p
if_any r x y false p q = q

pub ruleset kinds = (picks, if_any)

-- a word made of its parts
module _ (w : ℕ) where
  pub type-top : w % 8 ≡ 0 → type_of w ≡ top
  type-top p = sym (of_type (λ (t : Ty). t) w top (simp p))

  pub type-int : w % 8 ≡ 1 → type_of w ≡ int
  type-int p = sym (of_type (λ (t : Ty). t) w int (simp p))

  pub type-null : w % 8 ≡ 2 → type_of w ≡ null
  type-null p = sym (of_type (λ (t : Ty). t) w null (simp p))

  pub type-class : (c : ℕ) → w % 8 ≡ 3 → w / 64 ≡ c → type_of w ≡ ini (cls c)
  type-class c p q = sym (of_type (λ (t : Ty). t) w (ini (cls c)) (simp (p, q)))

  pub type_array : (b d : ℕ) → w % 8 ≡ 4 → w / 8 % 8 ≡ d → w / 64 ≡ b → type_of w ≡ ini (arr (nest b d))
  type_array b d p q r = sym (of_type (λ (t : Ty). t) w (ini (arr (nest b d))) (simp (p, q, r)))

  pub type-uninit : (L : ℕ) → w % 8 ≡ 5 → w / 64 ≡ L → type_of w ≡ uninit (at L)
  type-uninit L p q = sym (of_type (λ (t : Ty). t) w (uninit (at L)) (simp (p, q)))

  pub type_this : 5 < w % 8 → type_of w ≡ uninit self
  type_this p =
      let n1 : w % 8 ≡ 1 → ⊥ = λ e. omega arith in
      let n2 : w % 8 ≡ 2 → ⊥ = λ e. omega arith in
      let n3 : w % 8 ≡ 3 → ⊥ = λ e. omega arith in
      let n4 : w % 8 ≡ 4 → ⊥ = λ e. omega arith in
      let n5 : w % 8 ≡ 5 → ⊥ = λ e. omega arith in
      sym (of_type (λ (t : Ty). t) w (uninit self) (search picks depth 12))

-- ---- tests on the kind alone
by_eight : (f : ℕ → Bool) (g : ℕ → Bool) → f 0 ≡ g 0 → f 1 ≡ g 1 → f 2 ≡ g 2 → f 3 ≡ g 3 → f 4 ≡ g 4 → f 5 ≡ g 5 → f 6 ≡ g 6 → f 7 ≡ g 7
    → (k : ℕ) → k < 8 → f k ≡ g k
by_eight f g a b c d e h i j zero l = a
by_eight f g a b c d e h i j (suc zero) l = b
by_eight f g a b c d e h i j (suc (suc zero)) l = c
by_eight f g a b c d e h i j (suc (suc (suc zero))) l = d
by_eight f g a b c d e h i j (suc (suc (suc (suc zero)))) l = e
by_eight f g a b c d e h i j (suc (suc (suc (suc (suc zero))))) l = h
by_eight f g a b c d e h i j (suc (suc (suc (suc (suc (suc zero)))))) l = i
by_eight f g a b c d e h i j (suc (suc (suc (suc (suc (suc (suc zero))))))) l = j
by_eight f g a b c d e h i j (suc (suc (suc (suc (suc (suc (suc (suc k)))))))) l = absurd (omega arith)

kind_test : (f : Ty → Bool) (g : ℕ → Bool) (w : ℕ) (a b c d e h i : Bool)
    → f top ≡ a → f int ≡ b → f null ≡ c → f (ini (cls (w / 64))) ≡ d → f (ini (arr (nest (w / 64) (w / 8 % 8)))) ≡ e
    → f (uninit (at (w / 64))) ≡ h → f (uninit self) ≡ i
    → ((k : ℕ) → k < 8 → g k ≡ cond (eqb k 1) b (cond (eqb k 2) c (cond (eqb k 3) d (cond (eqb k 4) e (cond (eqb k 5) h (cond (ltb 5 k) i a))))))
    → g (w % 8) ≡ f (type_of w)
kind_test f g w a b c d e h i p q r s t u v all =
    of_type f w (g (w % 8)) (rw (p, q, r, s, t, u, v) (all (w % 8) (omega arith)))

module _ (w : ℕ) where
  pub top_kind : eqb (w % 8) 0 ≡ is_top (type_of w)
  top_kind =
      kind_test is_top (λ k. eqb k 0) w true false false false false false false refl refl refl refl refl refl refl
      (by_eight (λ k. eqb k 0) _ refl refl refl refl refl refl refl refl)

  pub int_kind : eqb (w % 8) 1 ≡ is_int (type_of w)
  int_kind =
      kind_test is_int (λ k. eqb k 1) w false true false false false false false refl refl refl refl refl refl refl
      (by_eight (λ k. eqb k 1) _ refl refl refl refl refl refl refl refl)

  pub null_kind : eqb (w % 8) 2 ≡ is_null (type_of w)
  null_kind =
      kind_test is_null (λ k. eqb k 2) w false false true false false false false refl refl refl refl refl refl refl
      (by_eight (λ k. eqb k 2) _ refl refl refl refl refl refl refl refl)

  pub reference_kind : leb 2 (w % 8) ≡ is_reference (type_of w)
  reference_kind =
      kind_test is_reference (λ k. leb 2 k) w false false true true true true true refl refl refl refl refl refl refl
      (by_eight (λ k. leb 2 k) _ refl refl refl refl refl refl refl refl)

  pub array_kind : cond (eqb (w % 8) 2) true (eqb (w % 8) 4) ≡ is_array (type_of w)
  array_kind =
      kind_test is_array (λ k. cond (eqb k 2) true (eqb k 4)) w false false true false true false false refl refl refl refl refl refl refl
      (by_eight (λ k. cond (eqb k 2) true (eqb k 4)) _ refl refl refl refl refl refl refl refl)

-- ---- uninitialised objects by their key
module _ (k w : ℕ) where
  pub uninit_not : w % 8 < 5 → false ≡ is_uninit (key_of (type_of k)) (type_of w)
  uninit_not h =
      let p : w % 8 ≡ 5 → ⊥ = λ e. omega arith in
      let q : w % 8 ≤ 5 = omega arith in
      of_type (is_uninit (key_of (type_of k))) w false (search kinds depth 12)

  pub uninit_same : w % 8 ≡ 5 → k % 8 ≡ 5 → eqb (w / 64) (k / 64) ≡ is_uninit (key_of (type_of k)) (type_of w)
  uninit_same p q =
      at_kind (is_uninit (key_of (type_of k))) w 5 _ p
      (at_kind (λ (y : Ty). is_uninit (key_of y) (uninit (at (w / 64)))) k 5 _ q refl)

  pub uninit_other : w % 8 ≡ 5 → (k % 8 ≡ 5 → ⊥) → false ≡ is_uninit (key_of (type_of k)) (type_of w)
  uninit_other p q =
      at_kind (is_uninit (key_of (type_of k))) w 5 _ p
      (of_type (λ (y : Ty). is_uninit (key_of y) (uninit (at (w / 64)))) k false (search kinds depth 12))

  pub uninit-this : 5 < w % 8 → not (eqb (k % 8) 5) ≡ is_uninit (key_of (type_of k)) (type_of w)
  uninit-this h =
      rw (type_this w h)
      (kind_test (λ (y : Ty). is_uninit (key_of y) (uninit self)) (λ (n : ℕ). not (eqb n 5)) k true true true true true false true refl refl refl refl refl refl refl
      (by_eight (λ (n : ℕ). not (eqb n 5)) _ refl refl refl refl refl refl refl refl))

-- a word past the initialised kinds asks for its own key
uninit_key : (w : ℕ) → 4 < w % 8 → type_of w ≡ uninit (key_of (type_of w))
uninit_key w h = go (side 5 (w % 8))
  where
    go : (5 < w % 8) ⊎ (w % 8 ≤ 5) → type_of w ≡ uninit (key_of (type_of w))
    go (inl l) = rw (type_this w l)
    go (inr l) = rw (type-uninit w (w / 64) (omega arith) refl)

pub fits-uninit : (P : Program) (r : Bool) (t : Ty) (w : ℕ) → 4 < w % 8 → r ≡ is_uninit (key_of (type_of w)) t → r ≡ fits P t (type_of w)
unfolding fits
fits-uninit P r t w h e = rw (uninit_key w h) e

-- ---- an array's element
module _ (w : ℕ) (h : w % 8 ≡ 4) where
  pub element_array : 0 < w / 8 % 8 → type_of (w - 8) ≡ element_ty (type_of w)
  unfolding nest
  element_array d =
      at_kind element_ty w 4 _ h
      (type_array (w - 8) (w / 64) (w / 8 % 8 - 1) (omega arith) (omega arith) (omega arith)
      ∙ less (w / 8 % 8) d)
    where
      less : (d : ℕ) → 0 < d → ini (arr (nest (w / 64) (d - 1))) ≡ ty_of (nest (w / 64) d)
      less zero l = absurd (omega arith)
      less (suc d) l = simp sub-one

  pub element-int : w / 8 % 8 ≤ 0 → w / 64 ≡ int_base → int ≡ element_ty (type_of w)
  unfolding nest base_of
  element-int d e = at_kind element_ty w 4 _ h (base (w / 8 % 8) d)
    where
      base : (d : ℕ) → d ≤ 0 → int ≡ ty_of (nest (w / 64) d)
      base zero l = rw (eq-eqb (w / 64) int_base e)
      base (suc d) l = absurd (omega arith)

  pub element-class : w / 8 % 8 ≤ 0 → (w / 64 ≡ int_base → ⊥) → type_of (w - 1) ≡ element_ty (type_of w)
  unfolding nest base_of
  element-class d e = type-class (w - 1) (w / 64) (omega arith) (omega arith) ∙ at_kind element_ty w 4 _ h (base (w / 8 % 8) d)
    where
      base : (d : ℕ) → d ≤ 0 → ini (cls (w / 64)) ≡ ty_of (nest (w / 64) d)
      base zero l = rw (ne_eqb (w / 64) int_base e)
      base (suc d) l = absurd (omega arith)

-- of what is no array: null's is null, any other's top
module _ (w : ℕ) where
  pub element-null : w % 8 ≡ 2 → type_of w ≡ element_ty (type_of w)
  element-null h = type-null w h ∙ at_kind element_ty w 2 null h refl

  pub element_none : (w % 8 ≡ 2 → ⊥) → (w % 8 ≡ 4 → ⊥) → top ≡ element_ty (type_of w)
  element_none p q =
      of_type element_ty w top (search kinds depth 12)

-- ---- nested arrays by base and depth
pub base-fits : (P : Program) (b e : ℕ) → desc_fits P (base_of b) (base_of e) ≡ base_fits P b e
unfolding base_of ref_fits desc_fits base_fits
base-fits P b e = go (eqb b int_base) (eqb e int_base)
  where
    go : (u v : Bool) → desc_fits P (cond u dint (dref (cls b))) (cond v dint (dref (cls e))) ≡ cond v u (cond u false (below P b e))
    go true true = refl
    go true false = refl
    go false true = refl
    go false false = refl

-- no base is an array, and of bases only Object takes one
base_deeper : (P : Program) (b e x : ℕ) → desc_fits P (base_of b) (nest e (suc x)) ≡ false
unfolding base_of ref_fits desc_fits nest
base_deeper P b e x = go (eqb b int_base)
  where
    go : (u : Bool) → desc_fits P (cond u dint (dref (cls b))) (dref (arr (nest e x))) ≡ false
    go true = refl
    go false = refl

deeper_base : (P : Program) (b d e : ℕ) → desc_fits P (nest b (suc d)) (base_of e) ≡ eqb e 0
unfolding base_of ref_fits desc_fits nest
deeper_base P b d e = go (eqb e int_base) refl
  where
    go : (v : Bool) → eqb e int_base ≡ v → desc_fits P (dref (arr (nest b d))) (cond v dint (dref (cls e))) ≡ eqb e 0
    go true h =
        let q : e ≡ int_base = eqb-true e int_base h in
        sym (ne_eqb e 0 (λ z. omega arith))
    go false h = refl

pub nest-fits : (P : Program) (b d e x : ℕ) → desc_fits P (nest b d) (nest e x) ≡ nest_fits P b d e x
unfolding nest_fits nest ref_fits desc_fits
nest-fits P b zero e zero = refl
nest-fits P b zero e (suc x) = base_deeper P b e x ∙ sym (simp (eqb-zero-suc x, leb-suc-zero (suc x)))
nest-fits P b (suc d) e zero = deeper_base P b d e ∙ sym (simp (eqb-suc-zero d, leb-suc-suc 0 d, leb-zero d))
nest-fits P b (suc d) e (suc x) = nest-fits P b d e x ∙ sym (simp (eqb-suc-suc d x, leb-suc-suc (suc x) d))

-- the same for `search`
module _ (P : Program) (r : Bool) (b e : ℕ) where
  pub base_by : r ≡ base_fits P b e → r ≡ desc_fits P (base_of b) (base_of e)
  base_by h = h ∙ sym (base-fits P b e)

  pub nest_by : (d x : ℕ) → r ≡ nest_fits P b d e x → r ≡ desc_fits P (nest b d) (nest e x)
  nest_by d x h = h ∙ sym (nest-fits P b d e x)
