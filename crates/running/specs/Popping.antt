-- A callee's arguments by the types that the tables keep of it: the code's test of each, and what is left of the operands. Assumes nothing.
use Rattle.std.specs.Prelude.{Option as Found, Some, None, Bool, not, ◌≡◌, refl, true, false, ◌&&◌, take, drop}
use Rattle.std.proofs.Common.{subst, ◌∙◌, eq-eqb, ne_eqb, ℕ, zero, suc, ◌+◌, ◌-◌, ◌*◌, ◌<◌, ◌≤◌, sym, ap, List, [], ◌∷◌, ◌++◌, reverse, append_assoc, append-nil, add-zero, add-suc, add-one, arith, length, get_or}
use mathlib.Core.List.{reverse_aux}
use Rattle.std.proofs.lemmas.Bool.{not-true, not-false}
use Rattle.kit.specs.Bools.{not_so}
use Rattle.kit.specs.Lists.{length_part, get_d_part}
use Rattle.kit.specs.Scan.{all_of, all_none, all_more, all_same}
use Rattle.classfiles.specs.Blocks.{listed}
use Rattle.reader.specs.Numbers.{listed_at}
use Rattle.classfiles.specs.Descriptors.{Desc, dint}
use Rattle.reader.specs.Program.{Program}
use Rattle.reader.specs.TypeCodes.{desc_of, types_of, codes_in, params_in, results_in, result_of}
use Rattle.reader.specs.CodeLaws.{params-length}
use Rattle.rules.specs.Ancestry.{lineage, Parents}
use Rattle.plain.specs.Heap.{Heap, heap, Val, value_fits}
use Rattle.plain.specs.Machine.{Result, only, pop_arguments}
use Rattle.plain.specs.Objects.{fits_here}
use Rattle.plain.specs.ValueLaws.{value_of}
use Rattle.plain.specs.Windows.{val_at, locs_from, ops_of}
use Rattle.plain.specs.Calls.{window_at}
use Rattle.plain.specs.NextWindow.{locs_split}
use Rattle.plain.specs.Arguments.{pop_few}
use Rattle.rules.specs.declared.types.Kin.{Kin}
use Rattle.running.specs.declared.popping.Popped.{Popped}

-- the i-th argument above the first `left` operands fits the i-th parameter of entry e
unfoldable pub param_fits : Program → List ℕ → ℕ → List ℕ → List ℕ → List ℕ → ℕ → ℕ → Bool
param_fits L t e cells w g left i = value_fits L (heap cells 0) (get_or (params_in t e) i dint) (val_at w g (32 + left + i))

-- whether the arguments are there and fit; how many operands are left below them, and how many they are
pub record Taking : Type 0 where
  pub ok : Bool
  pub left : ℕ
  pub count : ℕ

abbrev pub taken_of : Popped → Taking
taken_of p = record { ok = true; left = p.left; count = p.count }

-- of n arguments
abbrev pub taking_of : ℕ → Found Popped → Taking
taking_of n None = record { ok = false; left = 0; count = n }
taking_of n (Some p) = taken_of p

-- what is left once the arguments are gone: stuck unless they are there and fit
pub record Pops (t : List ℕ) (kin : Kin) (cells w g : List ℕ) (e have : ℕ) (r : Taking) : Type 0 where
  pub is : (P : Program) (used : ℕ) → Parents P t kin.at kin.count → (k : List Val → List Val → Result)
      → pop_arguments P (heap cells used) (reverse (params_in t e)) [] (ops_of w g have) k
      ≡ only r.ok (k (locs_from w g (32 + r.left) r.count) (ops_of w g r.left))
  pub count : r.count ≡ length (params_in t e)
  pub all : r.ok ≡ true → r.left + r.count ≡ have

-- ---- arguments from the last to the first
aux_onto : {A : Type 0} (xs : List A) (x : A) (acc : List A) → reverse_aux (xs ++ (x ∷ [])) acc ≡ x ∷ reverse_aux xs acc
aux_onto [] x acc = refl
aux_onto (y ∷ xs) x acc = aux_onto xs x (y ∷ acc)

reverse_onto : {A : Type 0} (xs : List A) (x : A) → reverse (xs ++ (x ∷ [])) ≡ x ∷ reverse xs
reverse_onto xs x = aux_onto xs x []

two_tests : (a b : Bool) (r : Result) → only a (only b r) ≡ only (b && a) r
two_tests true true r = refl
two_tests true false r = refl
two_tests false true r = refl
two_tests false false r = refl

module _ (P : Program) (H : Heap) (w g : List ℕ) (F : ℕ → Desc) where
  locs_last : (b n : ℕ) (acc : List Val) → locs_from w g b n ++ (val_at w g (b + n) ∷ acc) ≡ locs_from w g b (n + 1) ++ acc
  unfolding locs_from
  locs_last b n acc = rw (locs_split w g b n 1) (sym (append_assoc (locs_from w g b n) (val_at w g (b + n) ∷ []) acc))

  pop-all : (left n : ℕ) (acc : List Val) (k : List Val → List Val → Result)
      → pop_arguments P H (reverse (listed F n)) acc (ops_of w g (left + n)) k
      ≡ only (all_of (λ i. value_fits P H (F i) (val_at w g (32 + left + i))) n) (k (locs_from w g (32 + left) n ++ acc) (ops_of w g left))
  unfolding pop_arguments listed ops_of locs_from
  pop-all left zero acc k = rw (all_none (λ i. value_fits P H (F i) (val_at w g (32 + left + i))), add-zero left)
  pop-all left (suc n) acc k =
      let f : ℕ → Bool = λ i. value_fits P H (F i) (val_at w g (32 + left + i)) in
      let e : 32 + (left + n) ≡ 32 + left + n = omega arith in
      rw (reverse_onto (listed F n) (F n), add-suc left n, e, ← add-one n)
      (ap (only (value_fits P H (F n) (val_at w g (32 + left + n)))) (pop-all left n (val_at w g (32 + left + n) ∷ acc) k)
      ∙ two_tests (value_fits P H (F n) (val_at w g (32 + left + n))) (all_of f n) (k (locs_from w g (32 + left) n ++ (val_at w g (32 + left + n) ∷ acc)) (ops_of w g left))
      ∙ rw (← all_more f n, locs_last (32 + left) n acc, add-one n))

module _ (t : List ℕ) (kin : Kin) (cells w g : List ℕ) (e have n : ℕ) (l : n ≡ length (params_in t e)) where
  abbrev at : ℕ → Desc
  at i = desc_of (get_or t (types_of e + 1 + i) 0)

  types : params_in t e ≡ listed at n
  unfolding params_in codes_in
  types = ap (listed at) (sym (l ∙ params-length t e))

  pub pops_few : have < n → Pops t kin cells w g e have (record { ok = false; left = 0; count = n })
  pops_few h = record {
    is = λ P used p k. rw types (pop_few P (heap cells used) w g at have n [] k h);
    count = l;
    all = λ q. absurd (let z : false ≡ true = q in not_so z);
  }

  one-fits : (P : Program) (used left i : ℕ) → Parents P t kin.at kin.count → i < n
      → value_fits P (heap cells used) (at i) (val_at w g (32 + left + i)) ≡ param_fits (lineage t kin.at kin.count) t e cells w g left i
  unfolding param_fits
  one-fits P used left i p h =
      let v = val_at w g (32 + left + i) in
      let z : at i ≡ get_or (params_in t e) i dint = sym (ap (λ (ds : List Desc). get_or ds i dint) types ∙ listed_at at n i dint h) in
      rw z (sym (fits_here cells used (value_fits (lineage t kin.at kin.count) (heap cells 0) (get_or (params_in t e) i dint) v) P t kin.at kin.count p (get_or (params_in t e) i dint) v refl))

  pub pops_all : (ok : Bool) → n ≤ have → ok ≡ all_of (param_fits (lineage t kin.at kin.count) t e cells w g (have - n)) n
      → Pops t kin cells w g e have (record { ok = ok; left = have - n; count = n })
  pops_all ok h q = record {
    is = λ P used p k.
        let z : have ≡ have - n + n = omega arith in
        rw types
        (ap (λ (m : ℕ). pop_arguments P (heap cells used) (reverse (listed at n)) [] (ops_of w g m) k) z
        ∙ pop-all P (heap cells used) w g at (have - n) n [] k
        ∙ rw (
          q,
          all_same (λ i. value_fits P (heap cells used) (at i) (val_at w g (32 + (have - n) + i))) (param_fits (lineage t kin.at kin.count) t e cells w g (have - n)) n (λ i y. one-fits P used (have - n) i p y),
          append-nil (locs_from w g (32 + (have - n)) n),
        ));
    count = l;
    all = λ y. omega arith;
  }

  -- as a refusal is read back
  pub pops_none : Pops t kin cells w g e have (record { ok = false; left = 0; count = n }) → Pops t kin cells w g e have (taking_of (length (params_in t e)) None)
  pops_none z = subst (λ (m : ℕ). Pops t kin cells w g e have (record { ok = false; left = 0; count = m })) l z

  module _ (ok : Bool) (h : n ≤ have) (q : ok ≡ all_of (param_fits (lineage t kin.at kin.count) t e cells w g (have - n)) n) where
    pub pops_unfit : not ok ≡ true → Pops t kin cells w g e have (taking_of (length (params_in t e)) None)
    pops_unfit f =
        let z : Pops t kin cells w g e have (record { ok = false; left = have - n; count = n }) = subst (λ (v : Bool). Pops t kin cells w g e have (record { ok = v; left = have - n; count = n })) (not-true ok f) (pops_all ok h q) in
        pops_none (record {
          is = z.is;
          count = l;
          all = λ y. absurd (let z : false ≡ true = y in not_so z);
        })

    pub pops_fit : not ok ≡ false → Pops t kin cells w g e have (taken_of (record { left = have - n; count = n }))
    pops_fit f = subst (λ (v : Bool). Pops t kin cells w g e have (record { ok = v; left = have - n; count = n })) (not-false ok f) (pops_all ok h q)

-- ---- how many results
module _ (t : List ℕ) (e v : ℕ) (h : result_of v ≡ results_in t e) where
  pub results_none : v ≡ 256 → (0 ≡ length (results_in t e)) × (0 ≤ 1)
  unfolding result_of
  results_none z =
      let q : result_of v ≡ [] = rw (eq-eqb v 256 z) in
      (ap length (sym q ∙ h), omega arith)

  pub results_one : (v ≡ 256 → ⊥) → (1 ≡ length (results_in t e)) × (1 ≤ 1)
  unfolding result_of
  results_one z =
      let q : result_of v ≡ desc_of v ∷ [] = rw (ne_eqb v 256 z) in
      (ap length (sym q ∙ h), omega arith)

-- ---- on a window of the slots
abbrev pub kin_of : ℕ → Kin
kin_of n = record { at = 25728; count = 11 + n }

module _ (l : List ℕ) (d : ℕ) where
  abbrev cut : List ℕ
  cut = take (64 * d + 64 - 64 * d) (drop (64 * d) l)

  part_is : cut ≡ window_at l d
  part_is =
      let z : 64 * d + 64 - 64 * d ≡ 64 = omega arith in
      ap (λ (n : ℕ). take n (drop (64 * d) l)) z

  pub part_long : length l ≡ 4096 → d < 64 → length cut ≡ 64
  part_long h b = ap length part_is ∙ length_part (64 * d) 64 l (omega arith)

pub pops_window : (t : List ℕ) (kin : Kin) (cells s g : List ℕ) (d e have : ℕ) (r : Taking)
    → Pops t kin cells (cut s d) (cut g d) e have r → Pops t kin cells (window_at s d) (window_at g d) e have r
pops_window t kin cells s g d e have r h =
    subst (λ (w : List ℕ). Pops t kin cells w (window_at g d) e have r) (part_is s d) (subst (λ (w : List ℕ). Pops t kin cells (cut s d) w e have r) (part_is g d) h)

pub operand_is : (s g : List ℕ) (d i v k : ℕ) → i < 32 → v ≡ get_or s (64 * d + 32 + i) 0 → k ≡ get_or g (64 * d + 32 + i) 0
    → value_of k v ≡ val_at (window_at s d) (window_at g d) (32 + i)
operand_is s g d i v k h p q =
    let z : 64 * d + (32 + i) ≡ 64 * d + 32 + i = omega arith in
    rw (get_d_part (64 * d) 64 s (32 + i) 0 (omega arith), get_d_part (64 * d) 64 g (32 + i) 0 (omega arith), z, ← p, ← q)
