-- Parents of classes in a table of words, as a program of which nothing else is known; and that a program with those parents
-- has the same subclasses, so the same types fit. Every type fits itself. Assumes nothing.
use Rattle.std.specs.Prelude.{◌≡◌, true, cond, ◌⊎◌, eqb, length, get_or}
use Rattle.std.proofs.Common.{◌∙◌, inl, inr, arith, not-suc-le-zero, sub-one, ℕ, zero, suc, ◌+◌, ◌-◌, ◌/◌, ◌<◌, ◌≤◌, List, [], ◌∷◌, eq-eqb, ne_eqb, refl, sym, ap}
use Rattle.std.proofs.Math.ListN.{get_or-eq_default}
use Rattle.kit.specs.Pick.{side}
use Rattle.kit.specs.Words.{word, word_out}
use Rattle.classfiles.specs.Descriptors.{Ref, cls, arr, Desc, dint, dref}
use Rattle.reader.specs.Program.{Program, Class, class, no_class, class_count, up_to, below}
use Rattle.rules.specs.Types.{Key, at, self, Ty, top, int, null, ini, uninit, same_key, ref_fits, desc_fits, fits}
use Rattle.rules.specs.TypeWords.{type_of}
use Rattle.rules.specs.States.{State, state, slots_fit, state_fits}

abbrev pub child : ℕ → Class
child p = record { name = []; parent = p; fields = []; methods = []; pool = [] }

unfoldable pub children_at : List ℕ → ℕ → ℕ → List Class
children_at t x zero = []
children_at t x (suc n) = child (word t x) ∷ children_at t (suc x) n

-- n classes whose parents are the words from x on
unfoldable pub lineage : List ℕ → ℕ → ℕ → Program
lineage t x n = record { classes = children_at t x n }

-- the table holds this program's parents
pub record Parents (P : Program) (t : List ℕ) (x n : ℕ) : Type 0 where
  pub count : n ≡ class_count P
  pub parent : (c : ℕ) → c < n → word t (x + c) ≡ (class P c).parent

-- ---- the table's own program
length_children : (t : List ℕ) (x n : ℕ) → length (children_at t x n) ≡ n
unfolding children_at
length_children t x zero = refl
length_children t x (suc n) = ap suc (length_children t (suc x) n)

pub count-lineage : (t : List ℕ) (x n : ℕ) → class_count (lineage t x n) ≡ n
unfolding lineage
count-lineage t x n = length_children t x n

child_at : (t : List ℕ) (x n c : ℕ) → c < n → (get_or (children_at t x n) c no_class).parent ≡ word t (x + c)
unfolding children_at
child_at t x zero c h = absurd (not-suc-le-zero h)
child_at t x (suc n) zero h =
    let e : x ≡ x + 0 = omega arith in
    ap (word t) e
child_at t x (suc n) (suc c) h =
    let e : suc x + c ≡ x + suc c = omega arith in
    child_at t (suc x) n c (omega arith) ∙ ap (word t) e

module _ (t : List ℕ) (x n c : ℕ) where
  pub parent_in : c < n → word t (x + c) ≡ (class (lineage t x n) c).parent
  unfolding lineage
  parent_in h = sym (child_at t x n c h)

  pub parent_out : n ≤ c → 0 ≡ (class (lineage t x n) c).parent
  unfolding lineage
  parent_out h = sym (ap (λ (C : Class). C.parent) (get_or-eq_default (children_at t x n) no_class (omega (arith, length_children t x n))))

  pub parent_past : length t / 4 ≤ x → c < n → 0 ≡ (class (lineage t x n) c).parent
  parent_past h l = sym (word_out t (x + c) (omega arith)) ∙ parent_in l

pub below_start : (t : List ℕ) (x n c d : ℕ) → up_to (lineage t x n) n c d ≡ below (lineage t x n) c d
unfolding below
below_start t x n c d = ap (λ (m : ℕ). up_to (lineage t x n) m c d) (sym (count-lineage t x n))

-- ---- the walk up at a loop's number of steps left
module _ (P : Program) (c d : ℕ) where
  pub up_hit : (n : ℕ) → c ≡ d → up_to P n c d ≡ true
  unfolding up_to
  up_hit zero e = eq-eqb c d e
  up_hit (suc n) e = simp (eq-eqb c d e)

  pub up_step : (n : ℕ) → 0 < n → (c ≡ d → ⊥) → up_to P n c d ≡ up_to P (n - 1) (class P c).parent d
  unfolding up_to
  up_step zero h e = absurd (not-suc-le-zero h)
  up_step (suc n) h e = simp (ne_eqb c d e, sub-one)

  pub up_end : (n : ℕ) → n ≤ 0 → up_to P n c d ≡ eqb c d
  unfolding up_to
  up_end zero h = refl
  up_end (suc n) h = absurd (not-suc-le-zero h)

-- ---- two programs with the same parents
module _ (P Q : Program) (count : class_count P ≡ class_count Q) (parents : (c : ℕ) → (class P c).parent ≡ (class Q c).parent) where
  up_same : (n c d : ℕ) → up_to P n c d ≡ up_to Q n c d
  unfolding up_to
  up_same zero c d = refl
  up_same (suc n) c d =
      ap (cond (eqb c d) true) (up_same n (class P c).parent d ∙ ap (λ (p : ℕ). up_to Q n p d) (parents c))

  pub below_same : (c d : ℕ) → below P c d ≡ below Q c d
  unfolding below
  below_same c d = up_same (class_count P) c d ∙ ap (λ (n : ℕ). up_to Q n c d) count

  mutual
    unfolding ref_fits desc_fits

    ref_same : (r u : Ref) → ref_fits P r u ≡ ref_fits Q r u
    ref_same (cls c) (cls d) = below_same c d
    ref_same (cls c) (arr e) = refl
    ref_same (arr d) (cls c) = refl
    ref_same (arr d) (arr e) = desc_same d e

    desc_same : (d e : Desc) → desc_fits P d e ≡ desc_fits Q d e
    desc_same dint e = refl
    desc_same (dref r) dint = refl
    desc_same (dref r) (dref u) = ref_same r u

  pub fits-same : (t u : Ty) → fits P t u ≡ fits Q t u
  unfolding fits
  fits-same t top = refl
  fits-same t int = refl
  fits-same t null = refl
  fits-same top (ini u) = refl
  fits-same int (ini u) = refl
  fits-same null (ini u) = refl
  fits-same (ini r) (ini u) = ref_same r u
  fits-same (uninit k) (ini u) = refl
  fits-same t (uninit k) = refl

  slots_same : (l m : List Ty) → slots_fit P l m ≡ slots_fit Q l m
  unfolding slots_fit
  slots_same [] [] = refl
  slots_same [] (u ∷ us) = refl
  slots_same (t ∷ ts) [] = refl
  slots_same (t ∷ ts) (u ∷ us) =
      let p : fits P t u ≡ fits Q t u = fits-same t u in
      let q : slots_fit P ts us ≡ slots_fit Q ts us = slots_same ts us in
      cc

  pub states_same : (S F : State) → state_fits P S F ≡ state_fits Q S F
  unfolding state_fits
  states_same (state g l s) (state h m r) =
      let p : slots_fit P l m ≡ slots_fit Q l m = slots_same l m in
      let q : slots_fit P s r ≡ slots_fit Q s r = slots_same s r in
      cc

-- ---- every type fits itself
module _ (P : Program) where
  pub below_self : (c : ℕ) → below P c c ≡ true
  unfolding below
  below_self c = up_hit P c c (class_count P) refl

  mutual
    unfolding ref_fits desc_fits

    pub ref_self : (r : Ref) → ref_fits P r r ≡ true
    ref_self (cls c) = below_self c
    ref_self (arr d) = desc_self d

    desc_self : (d : Desc) → desc_fits P d d ≡ true
    desc_self dint = refl
    desc_self (dref r) = ref_self r

  key_self : (k : Key) → same_key k k ≡ true
  key_self (at L) = eq-eqb L L refl
  key_self self = refl

  pub fits_self : (t : Ty) → fits P t t ≡ true
  unfolding fits
  fits_self top = refl
  fits_self int = refl
  fits_self null = refl
  fits_self (ini r) = ref_self r
  fits_self (uninit k) = key_self k

  pub fits_one : (a b : ℕ) → a ≡ b → true ≡ fits P (type_of a) (type_of b)
  fits_one a b e = sym (ap (λ (w : ℕ). fits P (type_of a) (type_of w)) (sym e) ∙ fits_self (type_of a))

-- ---- a program whose parents stand in the table
module _ (P : Program) (t : List ℕ) (x n : ℕ) (h : Parents P t x n) where
  counted : class_count (lineage t x n) ≡ class_count P
  counted = count-lineage t x n ∙ h.count

  pub parented : (c : ℕ) → (class (lineage t x n) c).parent ≡ (class P c).parent
  parented c = go (side c n)
    where
      go : (c < n) ⊎ (n ≤ c) → (class (lineage t x n) c).parent ≡ (class P c).parent
      go (inl l) = sym (parent_in t x n c l) ∙ h.parent c l
      go (inr l) =
          sym (parent_out t x n c l)
          ∙ sym (ap (λ (C : Class). C.parent) (get_or-eq_default P.classes no_class (omega (arith, h.count))))

  pub below_lineage : (c d : ℕ) → below (lineage t x n) c d ≡ below P c d
  below_lineage c d = below_same (lineage t x n) P counted parented c d

  pub fits-lineage : (a b : Ty) → fits (lineage t x n) a b ≡ fits P a b
  fits-lineage a b = fits-same (lineage t x n) P counted parented a b

  pub states_lineage : (S F : State) → state_fits (lineage t x n) S F ≡ state_fits P S F
  states_lineage S F = states_same (lineage t x n) P counted parented S F
