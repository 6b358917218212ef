-- Laws of type codes: the words that are made of them. Assumes nothing.
use Rattle.std.proofs.Common.{◌∙◌, ℕ, zero, suc, ◌+◌, ◌-◌, ◌*◌, ◌/◌, ◌%◌, ◌<◌, arith, eq-eqb, ne_eqb, eqb-true, ◌≡◌, refl, sym, ap, true, false, eqb}
use Rattle.std.specs.Prelude.{Bool, cond}
use Rattle.std.proofs.lemmas.Bool.{eqb-false}
use Rattle.classfiles.specs.Descriptors.{Ref, cls, arr, Desc, dint, dref}
use Rattle.reader.specs.TypeCodes as code
use Rattle.reader.specs.TypeCodes.{nested, ref_in, ref_of as ref_by, desc_of as code_desc}
use Rattle.rules.specs.Types.{int, ini, ty_of}
use Rattle.rules.specs.TypeWords.{int_base, base_of, nest, type_of}
use Rattle.rules.specs.TypeCodes.{code_base, code_ref}
use Rattle.rules.specs.InstructionWords.{ref_of, desc_of, element_of}

nest_is : (b d : ℕ) → b < 32 → nest (code_base b) d ≡ nested d (code.base_of b)
unfolding nest base_of nested code.base_of
nest_is b zero h = go (eqb b 31)
  where
    go : (t : Bool) → cond (eqb (cond t int_base b) int_base) dint (dref (cls (cond t int_base b))) ≡ cond t dint (dref (cls b))
    go true = refl
    go false = rw (ne_eqb b int_base (λ e. omega arith))
nest_is b (suc d) h = ap (λ (x : Desc). dref (arr x)) (nest_is b d h)

module _ (k : ℕ) (h : k < 256) where
  pub desc_is : code_desc k ≡ nest (code_base (k / 8)) (k % 8)
  unfolding code_desc
  desc_is = sym (nest_is (k / 8) (k % 8) (omega arith))

module _ (k : ℕ) where
  pub ref-class : k % 8 ≡ 0 → code_ref k ≡ cls (k / 8)
  unfolding code_ref
  ref-class z = rw (eq-eqb (k % 8) 0 z)

  pub ref_array : (k % 8 ≡ 0 → ⊥) → code_ref k ≡ arr (nest (code_base (k / 8)) (k % 8 - 1))
  unfolding code_ref
  ref_array n = rw (ne_eqb (k % 8) 0 n)

  pub desc_ref : k < 256 → (k ≡ 248 → ⊥) → code_desc k ≡ dref (code_ref k)
  unfolding nest base_of
  desc_ref l n = go (eqb (k % 8) 0) refl
    where
      go : (t : Bool) → eqb (k % 8) 0 ≡ t → code_desc k ≡ dref (code_ref k)
      go true e =
          let z : k % 8 ≡ 0 = eqb-true (k % 8) 0 e in
          desc_is k l ∙ rw (z, ref-class z, ne_eqb (k / 8) 31 (λ x. n (omega arith)), ne_eqb (k / 8) int_base (λ x. omega arith))
      go false e =
          let z : k % 8 ≡ 0 → ⊥ = eqb-false (k % 8) 0 e in
          let y : k % 8 ≡ suc (k % 8 - 1) = omega arith in
          desc_is k l ∙ ap (nest (code_base (k / 8))) y ∙ rw (ref_array z)

  -- the reader's reading of it
  pub ref_is : k < 256 → (k ≡ 248 → ⊥) → code_ref k ≡ ref_by k
  unfolding ref_by ref_in
  ref_is l n = sym (ap ref_in (desc_ref l n))

-- a word by its parts
module _ (w k d b : ℕ) (e : w ≡ k + 8 * d + 64 * b) (hk : k < 8) (hd : d < 8) where
  kind-of : w % 8 ≡ k
  kind-of = omega arith

  depth-of : w / 8 % 8 ≡ d
  depth-of = omega arith

  number_of : w / 64 ≡ b
  number_of = omega arith

-- a class's, an array's
module _ (w b : ℕ) where
  module _ (e : w ≡ 3 + 64 * b) where
    as_parts : w ≡ 3 + 8 * 0 + 64 * b
    as_parts = omega arith

    pub class-ref : ref_of w ≡ cls b
    class-ref = rw (kind-of w 3 0 b as_parts (omega arith) (omega arith), number_of w 3 0 b as_parts (omega arith) (omega arith))

    pub class-type : type_of w ≡ ini (cls b)
    unfolding type_of
    class-type = rw (kind-of w 3 0 b as_parts (omega arith) (omega arith), number_of w 3 0 b as_parts (omega arith) (omega arith))

  module _ (d : ℕ) (h : d < 8) (e : w ≡ 4 + 8 * d + 64 * b) where
    pub array_element : element_of w ≡ nest b d
    array_element = rw (depth-of w 4 d b e (omega arith) h, number_of w 4 d b e (omega arith) h)

    pub array_ref : ref_of w ≡ arr (nest b d)
    array_ref = rw (kind-of w 4 d b e (omega arith) h) (ap arr array_element)

    pub array_type : type_of w ≡ ini (arr (nest b d))
    unfolding type_of
    array_type = rw (kind-of w 4 d b e (omega arith) h) (ap (λ (x : Desc). ini (arr x)) array_element)

module _ (k w : ℕ) where
  pub code-class : k % 8 ≡ 0 → w ≡ 3 + 64 * (k / 8) → (ref_of w ≡ code_ref k) × (type_of w ≡ ini (code_ref k))
  code-class z e = rw (ref-class k z) (class-ref w (k / 8) e, class-type w (k / 8) e)

  pub code_array : (b : ℕ) → (k % 8 ≡ 0 → ⊥) → b ≡ code_base (k / 8) → w ≡ 4 + 8 * (k % 8 - 1) + 64 * b → (ref_of w ≡ code_ref k) × (type_of w ≡ ini (code_ref k))
  code_array b n q e =
      rw (ref_array k n, ← q) (array_ref w b (k % 8 - 1) (omega arith) e, array_type w b (k % 8 - 1) (omega arith) e)

  pub code_of_class : k < 256 → k % 8 ≡ 0 → w ≡ 4 + 64 * (k / 8) → element_of w ≡ dref (code_ref k)
  unfolding nest base_of
  code_of_class l z e =
      rw (ref-class k z) (array_element w (k / 8) 0 (omega arith) (omega arith) ∙ rw (ne_eqb (k / 8) int_base (λ x. omega arith)))

  pub code_of_array : (b : ℕ) → (k % 8 ≡ 0 → ⊥) → b ≡ code_base (k / 8) → w ≡ 4 + 8 * (k % 8) + 64 * b → element_of w ≡ dref (code_ref k)
  unfolding nest
  code_of_array b n q e =
      let z : k % 8 ≡ suc (k % 8 - 1) = omega arith in
      array_element w b (k % 8) (omega arith) e ∙ ap (nest b) z ∙ rw (ref_array k n, ← q)

  pub code-int : k ≡ 248 → w ≡ 1 → (desc_of w ≡ code_desc k) × (type_of w ≡ ty_of (code_desc k))
  unfolding code_desc nested code.base_of type_of
  code-int z e = rw (z, e) (refl, refl)

  not_int : (r : Ref) → type_of w ≡ ini r → w % 8 ≡ 1 → ⊥
  unfolding type_of
  not_int r e z =
      let p : int ≡ ini r = sym (rw z) ∙ e in
      let q : ◌≡◌ {A = ℕ} 0 1 = cc in
      absurd (omega arith)

  pub code_other : k < 256 → (k ≡ 248 → ⊥) → (ref_of w ≡ code_ref k) × (type_of w ≡ ini (code_ref k)) → (desc_of w ≡ code_desc k) × (type_of w ≡ ty_of (code_desc k))
  code_other l n e =
      rw (desc_ref k l n) (rw (ne_eqb (w % 8) 1 (not_int (code_ref k) e.1)) (ap dref e.0), e.1)
