-- Laws of decoding: opcodes that are not listed, and the instruction of a method at a site. Assumes nothing.
use Rattle.std.specs.Prelude.{◌≡◌, Bool, cond, ◌&&◌, get_or}
use Rattle.std.proofs.Common.{subst, ◌∙◌, ℕ, zero, suc, ◌+◌, ◌-◌, ◌*◌, ◌/◌, ◌%◌, ◌<◌, ◌≤◌, List, [], ◌∷◌, arith, eq-eqb, ne_eqb, eqb-true, lt-ltb, le-ltb, refl, sym, ap, true, false, eqb, ltb}
use Rattle.std.proofs.lemmas.Bool.{eqb-false}
use Rattle.kit.specs.Bools.{both_left, both_right, not_so}
use Rattle.kit.specs.Scan.{first_not, first_before}
use Rattle.classfiles.specs.Descriptors.{Ref, cls, Desc, dint, dref, dimensions, depth_of}
use Rattle.reader.specs.Program.{Program}
use Rattle.rules.specs.Instruction.{Instr, FieldRef, MethodRef, iconst, new, newarray, invokevirtual, invokespecial, invokestatic, illegal, unresolved}
use Rattle.rules.specs.Resolve.{Resolved, nothing, number, type, field, method_of, as_number, as_type, as_field, as_method, new_of, array_of, is_static_call, is_virtual_call, is_init_call}
use Rattle.rules.specs.Opcodes.{Row, row, rows, row_in, row_of, length_of, within}
use Rattle.rules.specs.TypeWords.{int_base, base_of, nest}
use Rattle.rules.specs.CodeLaws.{ref-class, ref_array}
use Rattle.rules.specs.TypeCodes.{code_base, code_ref}
use Rattle.rules.specs.InstructionWords.{instr_of}
use Rattle.texts.specs.Reading.{u4_at}
use Rattle.rules.specs.ResolvedWords.{field_in, method_in, resolved_as, resolved_of, resolved_in, word_of, Flagged}
use Rattle.rules.specs.Decoding.{Refers, CallsBy, made_by, made, DecodedAt}
use Rattle.rules.specs.declared.instruction.Instr as code

-- ---- opcodes that are not listed
-- it is none of them
abbrev pub NoneOf : List ℕ → ℕ → Type 0
NoneOf [] op = Unit {0}
NoneOf (k ∷ ks) op = NoneOf ks op × (op ≡ k → ⊥)

unfoldable pub among : List ℕ → ℕ → Bool
among [] op = false
among (k ∷ ks) op = cond (eqb op k) true (among ks op)

not_among : (ks : List ℕ) (op : ℕ) → NoneOf ks op → among ks op ≡ false
unfolding among
not_among [] op n = refl
not_among (k ∷ ks) op n = rw (ne_eqb op k n.1) (not_among ks op n.0)

-- one of them, or not listed
unfoldable pub known : List ℕ → ℕ → Bool
known ks op = cond (among ks op) true (eqb (length_of (row_of op)) 0)

positive : List Row → Bool
positive [] = true
positive (row a b n t l f ∷ rs) = ltb 0 n && positive rs

all_positive : positive rows ≡ true
unfolding positive rows
all_positive = refl

module _ (P : Program) (pool : ℕ → Resolved) (op a b o : ℕ) where
  short : (rs : List Row) → positive rs ≡ true → length_of (row_in rs op) ≡ 0 → made_by P pool op a b o (row_in rs op) ≡ illegal
  unfolding positive row_in
  short [] e h = refl
  short (row x y n t l f ∷ rs) e h =
      go (within x y op) (both_left (ltb 0 n) (positive rs) e) h (λ z. short rs (both_right (ltb 0 n) (positive rs) e) z)
    where
      go : (u : Bool) → ltb 0 n ≡ true → length_of (cond u (row x y n t l f) (row_in rs op)) ≡ 0
          → (length_of (row_in rs op) ≡ 0 → made_by P pool op a b o (row_in rs op) ≡ illegal)
          → made_by P pool op a b o (cond u (row x y n t l f) (row_in rs op)) ≡ illegal
      go true p z r = absurd (not_so (sym (le-ltb 0 n (omega arith)) ∙ p))
      go false p z r = r z

  -- of k opcodes from lo on the listed ones are ks
  pub unlisted : (ks : List ℕ) (lo k : ℕ) → first_not (known ks) k lo ≡ lo + k → lo ≤ op → op < lo + k → NoneOf ks op → illegal ≡ made P pool op a b o
  unfolding made row_of known
  unlisted ks lo k e l h n =
      let p : known ks op ≡ true = first_before (known ks) k lo op l (omega arith) in
      let q : eqb (length_of (row_of op)) 0 ≡ true = rw (not_among ks op n) at p in
      sym (short rows all_positive (eqb-true (length_of (row_of op)) 0 q))

-- ---- words by their kinds
module _ (v w : ℕ) where
  is_number : w % 8 ≡ 1 → resolved_as v w ≡ number v
  unfolding resolved_as
  is_number e = rw e

  pub is_type : w % 8 ≡ 2 → resolved_as v w ≡ type (code_ref (w / 8 % 256))
  unfolding resolved_as
  is_type e = rw e

  is_field : w % 8 ≡ 3 → resolved_as v w ≡ field (field_in w)
  unfolding resolved_as
  is_field e = rw e

  is_method : w % 8 ≡ 4 → resolved_as v w ≡ method_of (method_in w)
  unfolding resolved_as
  is_method e = rw e

  no_number : (make : ℕ → Instr) → (w % 8 ≡ 1 → ⊥) → as_number make (resolved_as v w) ≡ unresolved
  unfolding resolved_as
  no_number make n = rw (ne_eqb (w % 8) 1 n) (go (eqb (w % 8) 2) (eqb (w % 8) 3) (eqb (w % 8) 4))
    where
      go : (a b d : Bool) → as_number make (cond a (type (code_ref (w / 8 % 256))) (cond b (field (field_in w)) (cond d (method_of (method_in w)) nothing))) ≡ unresolved
      go true b d = refl
      go false true d = refl
      go false false true = refl
      go false false false = refl

  no_type : (make : Ref → Instr) → (w % 8 ≡ 2 → ⊥) → as_type make (resolved_as v w) ≡ unresolved
  unfolding resolved_as
  no_type make n = rw (ne_eqb (w % 8) 2 n) (go (eqb (w % 8) 1) (eqb (w % 8) 3) (eqb (w % 8) 4))
    where
      go : (a b d : Bool) → as_type make (cond a (number v) (cond b (field (field_in w)) (cond d (method_of (method_in w)) nothing))) ≡ unresolved
      go true b d = refl
      go false true d = refl
      go false false true = refl
      go false false false = refl

  no-field : (make : FieldRef → Instr) → (w % 8 ≡ 3 → ⊥) → as_field make (resolved_as v w) ≡ unresolved
  unfolding resolved_as
  no-field make n = rw (ne_eqb (w % 8) 3 n) (go (eqb (w % 8) 1) (eqb (w % 8) 2) (eqb (w % 8) 4))
    where
      go : (a b d : Bool) → as_field make (cond a (number v) (cond b (type (code_ref (w / 8 % 256))) (cond d (method_of (method_in w)) nothing))) ≡ unresolved
      go true b d = refl
      go false true d = refl
      go false false true = refl
      go false false false = refl

  no-method : (fit : MethodRef → Bool) (make : MethodRef → Instr) → (w % 8 ≡ 4 → ⊥) → as_method fit make (resolved_as v w) ≡ unresolved
  unfolding resolved_as
  no-method fit make n = rw (ne_eqb (w % 8) 4 n) (go (eqb (w % 8) 1) (eqb (w % 8) 2) (eqb (w % 8) 3))
    where
      go : (a b d : Bool) → as_method fit make (cond a (number v) (cond b (type (code_ref (w / 8 % 256))) (cond d (field (field_in w)) nothing))) ≡ unresolved
      go true b d = refl
      go false true d = refl
      go false false true = refl
      go false false false = refl

-- ---- what is made of a word
module _ (v w : ℕ) where
  pub number_yes : w % 8 ≡ 1 → iconst v ≡ as_number iconst (resolved_as v w)
  number_yes e = rw (is_number v w e)

  pub number_no : (w % 8 ≡ 1 → ⊥) → unresolved ≡ as_number iconst (resolved_as v w)
  number_no e = sym (no_number v w iconst e)

module _ (w : ℕ) (r : code.Instr) where
  pub field_yes : (make : FieldRef → Instr) (f : FieldRef) → w % 8 ≡ 3 → f ≡ field_in w → instr_of r ≡ make f → Refers (as_field make) w r
  field_yes make f e p h = record { is = λ v. rw (is_field v w e) (h ∙ ap make p) }

  pub field_no : (make : FieldRef → Instr) → (w % 8 ≡ 3 → ⊥) → instr_of r ≡ unresolved → Refers (as_field make) w r
  field_no make e h = record { is = λ v. h ∙ sym (no-field v w make e) }

  pub type_yes : (make : Ref → Instr) → w % 8 ≡ 2 → instr_of r ≡ make (code_ref (w / 8 % 256)) → Refers (as_type make) w r
  type_yes make e h = record { is = λ v. rw (is_type v w e) h }

  pub type_no : (make : Ref → Instr) → (w % 8 ≡ 2 → ⊥) → instr_of r ≡ unresolved → Refers (as_type make) w r
  type_no make e h = record { is = λ v. h ∙ sym (no_type v w make e) }

  pub call_none : (fit : Program → MethodRef → Bool) (make : MethodRef → Instr) → (w % 8 ≡ 4 → ⊥) → instr_of r ≡ unresolved → CallsBy fit make w r
  call_none fit make e h = record { is = λ P v f. h ∙ sym (no-method v w (fit P) make e) }

  call_some : (fit : Program → MethodRef → Bool) (make : MethodRef → Instr) (t : Bool) → w % 8 ≡ 4 → ((P : Program) → Flagged P w → fit P (method_in w) ≡ t)
      → instr_of r ≡ cond t (make (method_in w)) unresolved → CallsBy fit make w r
  call_some fit make t e g h = record { is = λ P v f. rw (is_method v w e, g P f) h }

  pub virtual_init : w % 8 ≡ 4 → w / 1048576 % 2 ≡ 1 → instr_of r ≡ unresolved → CallsBy is_virtual_call invokevirtual w r
  virtual_init e i h = call_some is_virtual_call invokevirtual false e (λ P f. rw (f.init e, eq-eqb (w / 1048576 % 2) 1 i)) h

  pub virtual_static : w % 8 ≡ 4 → (w / 1048576 % 2 ≡ 1 → ⊥) → w / 524288 % 2 ≡ 1 → instr_of r ≡ unresolved → CallsBy is_virtual_call invokevirtual w r
  virtual_static e i s h =
      call_some is_virtual_call invokevirtual false e (λ P f. rw (f.init e, ne_eqb (w / 1048576 % 2) 1 i, f.static e, eq-eqb (w / 524288 % 2) 1 s)) h

  pub virtual_yes : w % 8 ≡ 4 → (w / 1048576 % 2 ≡ 1 → ⊥) → (w / 524288 % 2 ≡ 1 → ⊥) → instr_of r ≡ invokevirtual (method_in w) → CallsBy is_virtual_call invokevirtual w r
  virtual_yes e i s h =
      call_some is_virtual_call invokevirtual true e (λ P f. rw (f.init e, ne_eqb (w / 1048576 % 2) 1 i, f.static e, ne_eqb (w / 524288 % 2) 1 s)) h

  pub special_yes : w % 8 ≡ 4 → w / 1048576 % 2 ≡ 1 → instr_of r ≡ invokespecial (method_in w) → CallsBy is_init_call invokespecial w r
  special_yes e i h = call_some is_init_call invokespecial true e (λ P f. rw (f.init e, eq-eqb (w / 1048576 % 2) 1 i)) h

  pub special_no : w % 8 ≡ 4 → (w / 1048576 % 2 ≡ 1 → ⊥) → instr_of r ≡ unresolved → CallsBy is_init_call invokespecial w r
  special_no e i h = call_some is_init_call invokespecial false e (λ P f. rw (f.init e, ne_eqb (w / 1048576 % 2) 1 i)) h

  pub static-init : w % 8 ≡ 4 → w / 1048576 % 2 ≡ 1 → instr_of r ≡ unresolved → CallsBy is_static_call invokestatic w r
  static-init e i h = call_some is_static_call invokestatic false e (λ P f. rw (f.init e, eq-eqb (w / 1048576 % 2) 1 i)) h

  pub static_yes : w % 8 ≡ 4 → (w / 1048576 % 2 ≡ 1 → ⊥) → w / 524288 % 2 ≡ 1 → instr_of r ≡ invokestatic (method_in w) → CallsBy is_static_call invokestatic w r
  static_yes e i s h =
      call_some is_static_call invokestatic true e (λ P f. rw (f.init e, ne_eqb (w / 1048576 % 2) 1 i, f.static e, eq-eqb (w / 524288 % 2) 1 s)) h

  pub static_no : w % 8 ≡ 4 → (w / 1048576 % 2 ≡ 1 → ⊥) → (w / 524288 % 2 ≡ 1 → ⊥) → instr_of r ≡ unresolved → CallsBy is_static_call invokestatic w r
  static_no e i s h =
      call_some is_static_call invokestatic false e (λ P f. rw (f.init e, ne_eqb (w / 1048576 % 2) 1 i, f.static e, ne_eqb (w / 524288 % 2) 1 s)) h

-- a class, or an array of few enough dimensions
module _ (k : ℕ) where
  pub new-class : k % 8 ≡ 0 → new (k / 8) ≡ new_of (code_ref k)
  new-class e = rw (ref-class k e)

  pub new_none : (k % 8 ≡ 0 → ⊥) → unresolved ≡ new_of (code_ref k)
  new_none e = rw (ref_array k e)

  depth_nest : (b d : ℕ) → depth_of (nest b d) ≡ d
  unfolding depth_of dimensions nest base_of
  depth_nest b zero = go (eqb b int_base)
    where
      go : (t : Bool) → depth_of (cond t dint (dref (cls b))) ≡ 0
      go true = refl
      go false = refl
  depth_nest b (suc d) = ap suc (depth_nest b d)

  depth_code : dimensions (code_ref k) ≡ k % 8
  unfolding dimensions depth_of
  depth_code = go (eqb (k % 8) 0) refl
    where
      go : (t : Bool) → eqb (k % 8) 0 ≡ t → dimensions (code_ref k) ≡ k % 8
      go true e =
          let z : k % 8 ≡ 0 = eqb-true (k % 8) 0 e in
          rw (ref-class k z, z)
      go false e =
          let n : k % 8 ≡ 0 → ⊥ = eqb-false (k % 8) 0 e in
          let z : suc (k % 8 - 1) ≡ k % 8 = omega arith in
          ap dimensions (ref_array k n) ∙ ap suc (depth_nest (code_base (k / 8)) (k % 8 - 1)) ∙ z

  pub array_some : (d : Desc) → k % 8 < 7 → d ≡ dref (code_ref k) → newarray d ≡ array_of (code_ref k)
  array_some d l e = rw (depth_code, lt-ltb (k % 8) 7 l, e)

  pub array_none : 7 ≤ k % 8 → unresolved ≡ array_of (code_ref k)
  array_none l = rw (depth_code, le-ltb (k % 8) 7 l)

-- ---- by the opcode v that stands at o
module _ (s t : List ℕ) (c : ℕ) (bytes : List ℕ) (o v : ℕ) (r : code.Instr) (ev : get_or bytes o 0 ≡ v) where
  pub decoded_bare : ((P : Program) (pool : ℕ → Resolved) (a b : ℕ) → instr_of r ≡ made P pool v a b o) → DecodedAt s t c bytes o r
  decoded_bare m = record { is = λ P f. rw ev (m P (resolved_in s t c) (get_or bytes (o + 1) 0) (get_or bytes (o + 2) 0)) }

  -- a call of what the word w names
  pub decoded_call : (fit : Program → MethodRef → Bool) (make : MethodRef → Instr) (w : ℕ) → w ≡ word_of t c (get_or bytes (o + 1) 0 * 256 + get_or bytes (o + 2) 0)
      → ((P : Program) (pool : ℕ → Resolved) (a b : ℕ) → made P pool v a b o ≡ as_method (fit P) make (pool (a * 256 + b))) → CallsBy fit make w r → DecodedAt s t c bytes o r
  decoded_call fit make w e m h = record {
    is = λ P f.
        h.is P (u4_at s (w / 8 + 1)) (subst (Flagged P) (sym e) (f (get_or bytes (o + 1) 0 * 256 + get_or bytes (o + 2) 0)))
        ∙ ap (λ (u : ℕ). as_method (fit P) make (resolved_of s u)) e ∙ sym (rw ev (m P (resolved_in s t c) (get_or bytes (o + 1) 0) (get_or bytes (o + 2) 0)));
  }
