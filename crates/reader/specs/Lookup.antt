-- Members from a class upward, as the code seeks them: the rows of its block, then its parent's. Assumes nothing.
use Rattle.std.specs.Prelude.{Option, Some, None, ◌≡◌, Bool, ltb, eqb, length}
use Rattle.std.proofs.Common.{◌∙◌, eq-eqb, ne_eqb, lt-ltb, le-ltb, ℕ, zero, suc, ◌+◌, ◌-◌, ◌*◌, ◌<◌, ◌≤◌, refl, sym, ap, List, [], ◌∷◌, ◌++◌, map, true, false, cond, arith, get_or}
use Rattle.std.proofs.Math.ListN.{get_or-eq_default}
use Rattle.kit.specs.Lists.{eq_list, get_d_append_right}
use Rattle.kit.specs.Words.{word}
use Rattle.texts.specs.Names.{Text, init}
use Rattle.classfiles.specs.Attributes.{member_of}
use Rattle.classfiles.specs.Bundle.{ClassFile}
use Rattle.reader.specs.BuiltIns.{built_ins, first_class}
use Rattle.reader.specs.Program.{Signature, Field, Method, Program, Class, no_class, built_in_method, class, number_in, class_names, field_of, method_of, class_of, classes_from, built_ins_from, program_of, same_signature, index_of, field_sigs, method_sigs, Spot, nowhere, spot, seek, lookup}
use Rattle.classfiles.specs.Blocks.{field_rows, method_rows, field_count, method_count, pool_of, row_in, rows_in, class_in}
use Rattle.reader.specs.Numbers.{class_at, map-listed}
use Rattle.reader.specs.Chains.{counted, there}
use Rattle.reader.specs.Linked.{files_in, files_front, length-program}
use Rattle.reader.specs.MemberRows.{block_at, rows_word, count_word, row_start, row_count, row_sig, row_sigs, length_sigs}
use Rattle.reader.specs.declared.lookup.Hit.{Hit}

-- methods or fields
abbrev pub sigs_of : Bool → Class → List Signature
sigs_of true C = method_sigs C
sigs_of false C = field_sigs C

-- what the code's answer says
abbrev pub hit_of : Option Hit → Spot
hit_of (Some h) = spot h.class h.index
hit_of None = nowhere

-- the member that class c itself has
unfoldable pub own_spot : Program → (Class → List Signature) → Signature → ℕ → Spot
own_spot P sigs g c = cond (ltb (index_of g (sigs (class P c))) (length (sigs (class P c)))) (spot c (index_of g (sigs (class P c)))) nowhere

-- `()V`
abbrev pub no_result : Text
no_result = 40 ∷ 41 ∷ 86 ∷ []

unfoldable pub built_in_spot : Bool → Signature → ℕ → Spot
built_in_spot method g c =
    cond method (cond (eq_list init g.name) (cond (eq_list no_result g.descriptor) (spot c 0) nowhere) nowhere) nowhere

-- ---- the bundle's classes
from_at : (number : Text → ℕ) (k : ℕ) (fs : List ClassFile) (i : ℕ) (d : ClassFile) → i < length fs
    → get_or (classes_from number k fs) i no_class ≡ class_of number (k + i) (get_or fs i d)
unfolding classes_from
from_at number k [] i d h = absurd (omega arith)
from_at number k (f ∷ fs) zero d h = let z : k ≡ k + 0 = omega arith in ap (λ (m : ℕ). class_of number m f) z
from_at number k (f ∷ fs) (suc i) d h =
    let z : suc k + i ≡ k + suc i = omega arith in
    from_at number (suc k) fs i d (omega arith) ∙ ap (λ (m : ℕ). class_of number m (get_or fs i d)) z

module _ (s : List ℕ) (n : ℕ) (t : List ℕ) (m : n ≤ 16) where
  abbrev number_of : Text → ℕ
  number_of = number_in (class_names (files_in s n t))

  pub class-at : (c : ℕ) → c < n → class (program_of (files_in s n t)) (first_class + c) ≡ class_of number_of (first_class + c) (class_at s t c)
  unfolding program_of built_ins_from built_ins
  class-at c h =
      let z : first_class + c - 11 ≡ c = omega arith in
      get_d_append_right (built_ins_from 0 built_ins) (classes_from number_of first_class (files_in s n t)) (first_class + c) no_class (omega arith)
      ∙ ap (λ (i : ℕ). get_or (classes_from number_of first_class (files_in s n t)) i no_class) z
      ∙ from_at number_of first_class (files_in s n t) c (class_at s t c) (rw (files_front s t n m, counted s t n) h)
      ∙ ap (class_of number_of (first_class + c)) (ap (λ (fs : List ClassFile). get_or fs c (class_at s t c)) (files_front s t n m) ∙ there s t n c (class_at s t c) h)

  -- the members of class c are its rows
  pub sigs_at : (method : Bool) (c : ℕ) → c < n → sigs_of method (class (program_of (files_in s n t)) (first_class + c)) ≡ row_sigs s (block_at t c) method
  unfolding class_of class_in rows_in row_sigs row_count count_word row_sig row_start rows_word field_of method_of row_in member_of
  sigs_at true c h =
      ap (sigs_of true) (class-at c h)
      ∙ ap (map (λ (x : Method). x.sig)) (map-listed (method_of number_of (first_class + c)) (λ i. row_in s (pool_of s (block_at t c)) (block_at t c) (method_rows + 6 * i)) (word (block_at t c) method_count))
      ∙ map-listed (λ (x : Method). x.sig) (λ i. method_of number_of (first_class + c) (row_in s (pool_of s (block_at t c)) (block_at t c) (method_rows + 6 * i))) (word (block_at t c) method_count)
  sigs_at false c h =
      ap (sigs_of false) (class-at c h)
      ∙ ap (map (λ (x : Field). x.sig)) (map-listed (field_of number_of) (λ i. row_in s (pool_of s (block_at t c)) (block_at t c) (field_rows + 6 * i)) (word (block_at t c) field_count))
      ∙ map-listed (λ (x : Field). x.sig) (λ i. field_of number_of (row_in s (pool_of s (block_at t c)) (block_at t c) (field_rows + 6 * i))) (word (block_at t c) field_count)

  pub class-count : length (program_of (files_in s n t)).classes ≡ first_class + n
  class-count = length-program (files_in s n t) ∙ ap (λ (k : ℕ). first_class + k) (ap (λ (fs : List ClassFile). length fs) (files_front s t n m) ∙ counted s t n)

  pub class_past : (c : ℕ) → first_class + n ≤ c → class (program_of (files_in s n t)) c ≡ no_class
  class_past c h = get_or-eq_default (program_of (files_in s n t)).classes no_class (rw class-count h)

  -- the code's answer for a class of the bundle, and past it
  pub own_high : (method : Bool) (g : Signature) (c i k : ℕ) → 11 ≤ c → c < 11 + n → i ≡ index_of g (row_sigs s (block_at t (c - 11)) method) → k ≡ row_count (block_at t (c - 11)) method
      → cond (ltb i k) (spot c i) nowhere ≡ own_spot (program_of (files_in s n t)) (sigs_of method) g c
  unfolding own_spot
  own_high method g c i k l h ei ek =
      let z : first_class + (c - 11) ≡ c = omega arith in
      let e : sigs_of method (class (program_of (files_in s n t)) c) ≡ row_sigs s (block_at t (c - 11)) method =
      ap (λ (x : ℕ). sigs_of method (class (program_of (files_in s n t)) x)) (sym z) ∙ sigs_at method (c - 11) (omega arith) in
      rw (e, length_sigs s (block_at t (c - 11)) method, ei, ek)

  module _ (method : Bool) (g : Signature) (c i k : ℕ) (l : 11 ≤ c) (h : c < 11 + n) (ei : i ≡ index_of g (row_sigs s (block_at t (c - 11)) method)) (ek : k ≡ row_count (block_at t (c - 11)) method) where
    pub own_here : i < k → spot c i ≡ own_spot (program_of (files_in s n t)) (sigs_of method) g c
    own_here y = sym (ap (λ (b : Bool). cond b (spot c i) nowhere) (lt-ltb i k y)) ∙ own_high method g c i k l h ei ek

    pub own_not : k ≤ i → nowhere ≡ own_spot (program_of (files_in s n t)) (sigs_of method) g c
    own_not y = sym (ap (λ (b : Bool). cond b (spot c i) nowhere) (le-ltb i k y)) ∙ own_high method g c i k l h ei ek

  pub own_past : (method : Bool) (g : Signature) (c : ℕ) → first_class + n ≤ c → nowhere ≡ own_spot (program_of (files_in s n t)) (sigs_of method) g c
  unfolding own_spot index_of
  own_past true g c h = rw (class_past c h)
  own_past false g c h = rw (class_past c h)

  pub above_past : (c : ℕ) → first_class + n ≤ c → 0 ≡ (class (program_of (files_in s n t)) c).parent
  above_past c h = ap (λ (k : Class). k.parent) (sym (class_past c h))

-- ---- the built-in ones
abbrev IsBuiltIn : Class → ℕ → Type 0
IsBuiltIn C c = (C.methods ≡ built_in_method c ∷ []) × (C.fields ≡ [])

built_in_at : (xs : List Class) (c : ℕ) → c < 11 → IsBuiltIn (get_or (built_ins_from 0 built_ins ++ xs) c no_class) c
unfolding built_ins_from built_ins
built_in_at xs zero h = (refl, refl)
built_in_at xs (suc zero) h = (refl, refl)
built_in_at xs (suc (suc zero)) h = (refl, refl)
built_in_at xs (suc (suc (suc zero))) h = (refl, refl)
built_in_at xs (suc (suc (suc (suc zero)))) h = (refl, refl)
built_in_at xs (suc (suc (suc (suc (suc zero))))) h = (refl, refl)
built_in_at xs (suc (suc (suc (suc (suc (suc zero)))))) h = (refl, refl)
built_in_at xs (suc (suc (suc (suc (suc (suc (suc zero))))))) h = (refl, refl)
built_in_at xs (suc (suc (suc (suc (suc (suc (suc (suc zero)))))))) h = (refl, refl)
built_in_at xs (suc (suc (suc (suc (suc (suc (suc (suc (suc zero))))))))) h = (refl, refl)
built_in_at xs (suc (suc (suc (suc (suc (suc (suc (suc (suc (suc zero)))))))))) h = (refl, refl)
built_in_at xs (suc (suc (suc (suc (suc (suc (suc (suc (suc (suc (suc c))))))))))) h = absurd (omega arith)

module _ (fs : List ClassFile) (c : ℕ) (h : c < 11) where
  pub built_in_class : IsBuiltIn (class (program_of fs) c) c
  unfolding program_of
  built_in_class = built_in_at (classes_from (number_in (class_names fs)) first_class fs) c h

  pub own_low : (method : Bool) (g : Signature) (r : Spot) → r ≡ built_in_spot method g c → r ≡ own_spot (program_of fs) (sigs_of method) g c
  unfolding own_spot index_of built_in_spot same_signature
  own_low true g r e = e ∙ rw built_in_class.0 (by (eq_list init g.name) (eq_list no_result g.descriptor))
    where
      by : (a b : Bool) → cond a (cond b (spot c 0) nowhere) nowhere ≡ cond (ltb (cond (cond a b false) 0 1) 1) (spot c (cond (cond a b false) 0 1)) nowhere
      by true true = refl
      by true false = refl
      by false b = refl
  own_low false g r e = e ∙ rw built_in_class.1

-- ---- upward, as a loop goes
spot-nowhere : (c i : ℕ) → spot c i ≡ nowhere → ⊥
spot-nowhere c i e = let z : ◌≡◌ {A = ℕ} 0 1 = cc in absurd (omega arith)

one_less : (n : ℕ) → 0 < n → n ≡ suc (n - 1)
one_less n h = omega arith

-- what is sought is X; r is what class c itself has
module _ (P : Program) (sigs : Class → List Signature) (g : Signature) (left c : ℕ) (X : Spot) (v : seek P sigs g left c ≡ X) where
  pub seek_out : left ≤ 0 → nowhere ≡ X
  unfolding seek
  seek_out h = let z : left ≡ 0 = omega arith in sym (rw z) ∙ v

  module _ (h : 0 < left) where
    step : seek P sigs g (suc (left - 1)) c ≡ X
    step = rw (← one_less left h) v

    pub seek_hit : (d i : ℕ) → spot d i ≡ own_spot P sigs g c → spot d i ≡ X
    unfolding seek own_spot
    seek_hit d i e = go (ltb (index_of g (sigs (class P c))) (length (sigs (class P c)))) (sym e) step
      where
        go : (b : Bool) → cond b (spot c (index_of g (sigs (class P c)))) nowhere ≡ spot d i
            → cond b (spot c (index_of g (sigs (class P c)))) (cond (eqb c 0) nowhere (seek P sigs g (left - 1) (class P c).parent)) ≡ X
            → spot d i ≡ X
        go true p q = sym p ∙ q
        go false p q = absurd (spot-nowhere d i (sym p))

    module _ (e : nowhere ≡ own_spot P sigs g c) where
      rest : cond (eqb c 0) nowhere (seek P sigs g (left - 1) (class P c).parent) ≡ X
      unfolding seek own_spot
      rest = go (ltb (index_of g (sigs (class P c))) (length (sigs (class P c)))) (sym e) step
        where
          go : (b : Bool) → cond b (spot c (index_of g (sigs (class P c)))) nowhere ≡ nowhere
              → cond b (spot c (index_of g (sigs (class P c)))) (cond (eqb c 0) nowhere (seek P sigs g (left - 1) (class P c).parent)) ≡ X
              → cond (eqb c 0) nowhere (seek P sigs g (left - 1) (class P c).parent) ≡ X
          go true p q = absurd (spot-nowhere c (index_of g (sigs (class P c))) p)
          go false p q = q

      pub seek_none : c ≡ 0 → nowhere ≡ X
      seek_none z = rw (eq-eqb c 0 z) at rest

      pub seek_up : (c ≡ 0 → ⊥) → (k : ℕ) → k ≡ (class P c).parent → seek P sigs g (left - 1) k ≡ X
      seek_up z k y = rw y (rw (ne_eqb c 0 z) at rest)

pub seek_start : (s : List ℕ) (n : ℕ) (t : List ℕ) (m : n ≤ 16) (sigs : Class → List Signature) (g : Signature) (from : ℕ)
    → seek (program_of (files_in s n t)) sigs g (11 + n) from ≡ lookup (program_of (files_in s n t)) sigs g from
unfolding lookup
seek_start s n t m sigs g from = ap (λ (k : ℕ). seek (program_of (files_in s n t)) sigs g k from) (sym (class-count s n t m))
