-- Arguments by the code's test of each. Assumes nothing.
use Rattle.std.specs.Prelude.{◌≡◌, ℕ, zero, suc, ◌+◌, ◌<◌, Bool, true, false, ◌&&◌, List, [], ◌∷◌, ◌++◌, reverse, refl}
use Rattle.std.proofs.Common.{ap, ◌∙◌, sym, append_assoc, append-nil, add-zero, add-suc, add-one, arith}
use mathlib.Core.List.{reverse_aux}
use Rattle.kit.specs.Words.{word}
use Rattle.kit.specs.Scan.{all_of, all_none, all_more, all_same}
use Rattle.classfiles.specs.Blocks.{listed}
use Rattle.classfiles.specs.Descriptors.{Desc}
use Rattle.reader.specs.Program.{Program}
use Rattle.rules.specs.InstructionWords.{desc_of}
use Rattle.rules.specs.Ancestry.{lineage, Parents}
use Rattle.plain.specs.Heap.{Heap, heap, Val, value_fits}
use Rattle.plain.specs.Machine.{stuck, Result, stopped, only, pop_arguments}
use Rattle.plain.specs.Objects.{fits_here}
use Rattle.plain.specs.Windows.{val_at, locs_from, ops_of}
use Rattle.plain.specs.NextWindow.{locs_split}

unfoldable pub arg_fits : Program → List ℕ → ℕ → List ℕ → List ℕ → List ℕ → ℕ → ℕ → Bool
arg_fits L t of cells w g left i = value_fits L (heap cells 0) (desc_of (word t (of + i))) (val_at w g (32 + left + i))

-- the types' words, first to last
abbrev pub types_at : List ℕ → ℕ → ℕ → List Desc
types_at t of n = listed (λ i. desc_of (word t (of + i))) n

aux_onto : {A : Type 0} (xs : List A) (x : A) (acc : List A) → reverse_aux (xs ++ (x ∷ [])) acc ≡ x ∷ reverse_aux xs acc
aux_onto [] x acc = refl
aux_onto (y ∷ xs) x acc = aux_onto xs x (y ∷ acc)

reverse_onto : {A : Type 0} (xs : List A) (x : A) → reverse (xs ++ (x ∷ [])) ≡ x ∷ reverse xs
reverse_onto xs x = aux_onto xs x []

two_tests : (a b : Bool) (r : Result) → only a (only b r) ≡ only (b && a) r
two_tests true true r = refl
two_tests true false r = refl
two_tests false true r = refl
two_tests false false r = refl

stays_stuck : (b : Bool) → only b (stopped stuck) ≡ stopped stuck
stays_stuck true = refl
stays_stuck false = refl

module _ (P : Program) (H : Heap) (w g : List ℕ) (F : ℕ → Desc) where
  locs_last : (b n : ℕ) (acc : List Val) → locs_from w g b n ++ (val_at w g (b + n) ∷ acc) ≡ locs_from w g b (n + 1) ++ acc
  unfolding locs_from
  locs_last b n acc = rw (locs_split w g b n 1) (sym (append_assoc (locs_from w g b n) (val_at w g (b + n) ∷ []) acc))

  pop-all : (left n : ℕ) (acc : List Val) (k : List Val → List Val → Result)
      → pop_arguments P H (reverse (listed F n)) acc (ops_of w g (left + n)) k
      ≡ only (all_of (λ i. value_fits P H (F i) (val_at w g (32 + left + i))) n) (k (locs_from w g (32 + left) n ++ acc) (ops_of w g left))
  unfolding pop_arguments listed ops_of locs_from
  pop-all left zero acc k = rw (all_none (λ i. value_fits P H (F i) (val_at w g (32 + left + i))), add-zero left)
  pop-all left (suc n) acc k =
      let f : ℕ → Bool = λ i. value_fits P H (F i) (val_at w g (32 + left + i)) in
      let e : 32 + (left + n) ≡ 32 + left + n = omega arith in
      rw (reverse_onto (listed F n) (F n), add-suc left n, e, ← add-one n)
      (ap (only (value_fits P H (F n) (val_at w g (32 + left + n)))) (pop-all left n (val_at w g (32 + left + n) ∷ acc) k)
      ∙ two_tests (value_fits P H (F n) (val_at w g (32 + left + n))) (all_of f n) (k (locs_from w g (32 + left) n ++ (val_at w g (32 + left + n) ∷ acc)) (ops_of w g left))
      ∙ rw (← all_more f n, locs_last (32 + left) n acc, add-one n))

  pub pop_few : (m n : ℕ) (acc : List Val) (k : List Val → List Val → Result) → m < n → pop_arguments P H (reverse (listed F n)) acc (ops_of w g m) k ≡ stopped stuck
  unfolding pop_arguments listed ops_of
  pop_few m zero acc k h = absurd (omega arith)
  pop_few zero (suc n) acc k h = rw (reverse_onto (listed F n) (F n))
  pop_few (suc m) (suc n) acc k h =
      rw (reverse_onto (listed F n) (F n))
      (ap (only (value_fits P H (F n) (val_at w g (32 + m)))) (pop_few m n (val_at w g (32 + m) ∷ acc) k (omega arith)) ∙ stays_stuck (value_fits P H (F n) (val_at w g (32 + m))))

-- in every program with these parents: stuck with fewer operands, else stuck unless all fit
module _ (P : Program) (t : List ℕ) (at count : ℕ) (p : Parents P t at count) (cells w g : List ℕ) (used of : ℕ) where
  one-by : (left i : ℕ) → value_fits P (heap cells used) (desc_of (word t (of + i))) (val_at w g (32 + left + i)) ≡ arg_fits (lineage t at count) t of cells w g left i
  unfolding arg_fits
  one-by left i =
      let D = desc_of (word t (of + i)) in
      let v = val_at w g (32 + left + i) in
      sym (fits_here cells used (value_fits (lineage t at count) (heap cells 0) D v) P t at count p D v refl)

  pub pop_by : (left n : ℕ) (k : List Val → List Val → Result)
      → pop_arguments P (heap cells used) (reverse (types_at t of n)) [] (ops_of w g (left + n)) k
      ≡ only (all_of (arg_fits (lineage t at count) t of cells w g left) n) (k (locs_from w g (32 + left) n) (ops_of w g left))
  pop_by left n k =
      pop-all P (heap cells used) w g (λ i. desc_of (word t (of + i))) left n [] k
      ∙ rw (
        all_same (λ i. value_fits P (heap cells used) (desc_of (word t (of + i))) (val_at w g (32 + left + i))) (arg_fits (lineage t at count) t of cells w g left) n (λ i l. one-by left i),
        append-nil (locs_from w g (32 + left) n),
      )
