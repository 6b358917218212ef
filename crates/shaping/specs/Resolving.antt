-- The resolved table as the code fills it: each word, and what it has to stand for. Assumes nothing.
use Rattle.std.specs.Prelude.{ℕ, Option, Some, None, IfSome, zero, suc, ◌+◌, ◌-◌, ◌*◌, ◌/◌, ◌%◌, ◌^◌, ◌<◌, ◌≤◌, ◌≡◌, ◌⊎◌, get_or, take, drop, replicate}
use Rattle.std.proofs.Common.{◌∙◌, inl, inr, length-take, length-drop, take-take, length-take-le, get_or-drop, ext_get_or, refl, sym, ap, subst, List, [], ◌∷◌, ◌++◌, map, Bool, true, false, cond, arith, ltb, eqb, length, eqb-true, ltb-true, eq-eqb, ne_eqb, lt-ltb, le-ltb}
use Rattle.std.proofs.lemmas.List.{length-replicate, take-append-le}
use Rattle.std.proofs.lemmas.Bool.{eqb-false}
use Rattle.kit.specs.Bools.{not_so}
use Rattle.kit.specs.Lists.{eq_list, eq_list_true, drop-take, length_part, length_back, get_or-back-after}
use Rattle.kit.specs.Pick.{side}
use Rattle.kit.specs.Words.{word, put_word, length_put, byte_other, word-take, word_same, word_other, word-zeros, word-back_in}
use Rattle.texts.specs.Reading.{Res, ok, bad, u2_at, u4_at, part}
use Rattle.texts.specs.Names.{Text, is_init}
use Rattle.classfiles.specs.Descriptors.{Ref, cls, arr, Desc, dint, dref, class_type_at, known_ref, known_desc}
use Rattle.classfiles.specs.Pool.{Constant, absent, utf8, integer, class_at, fieldref, methodref, name_and_type, constant_at, entry, text}
use Rattle.classfiles.specs.Table.{constant_of, entry_none, entry_in_lem, entry_past}
use Rattle.classfiles.specs.Tags.{at_class, at_field, at_method}
use Rattle.classfiles.specs.Bundle.{ClassFile}
use Rattle.reader.specs.BuiltIns.{first_class}
use Rattle.reader.specs.Program.{Program, Class, Method, no_field, no_method, Signature, signature, class, method, class_count, number_in, program_of, is_constructor, field_sigs, method_sigs, same_signature, Spot, nowhere, spot, lookup, layout}
use Rattle.classfiles.specs.Blocks.{pool_word, pool_of, classes_in}
use Rattle.classfiles.specs.BlockWords.{take_put}
use Rattle.reader.specs.Linked.{parents_at, files_in, Parents}
use Rattle.reader.specs.MemberRows.{block_at, row_count}
use Rattle.reader.specs.Prints.{Printed, same_back, printed_moved}
use Rattle.reader.specs.Lookup.{hit_of, own_spot, class_past, class-count, built_in_class}
use Rattle.reader.specs.MemberAt.{fields-count, methods-count}
use Rattle.reader.specs.TypeCodes as codes
use Rattle.reader.specs.Access.{Limited, There, lookup_there, own_there, program-names, pool-at, tag_block}
use Rattle.reader.specs.declared.lookup.Hit.{Hit}
use Rattle.classfiles.specs.declared.pool.Entry.{Entry}
use Rattle.classfiles.specs.declared.pool.Entry.TheVariants as held
use Rattle.rules.specs.Instruction.{FieldRef, MethodRef}
use Rattle.rules.specs.Resolve.{Resolved, by, nothing, number, type, field, method_of, number_of, known_type, class_entry, with_class, with_signature, field_found, method_found, own_method, field_in, method_in, resolve_entry, resolve, found}
use Rattle.rules.specs.TypeWords as tywords
use Rattle.rules.specs.TypeCodes.{code_base, code_ref}
use Rattle.rules.specs.ResolvedWords as words
use Rattle.rules.specs.Handlers.{class_in}

-- a word stands for x, and a method's flags are right
pub record Named (s : List ℕ) (P : Program) (x : Resolved) (w : ℕ) : Type 0 where
  pub is : words.resolved_of s w ≡ x
  pub flags : words.Flagged P w

-- every pool entry of the n classes
pub record ResolvedAll (s : List ℕ) (n : ℕ) (t : List ℕ) : Type 0 where
  pub at : (c i : ℕ) → c < n → words.resolved_in s t c i ≡ resolve (program_of (files_in s n t)) (class (program_of (files_in s n t)) (first_class + c)).pool i
  pub flags : (c i : ℕ) → c < n → words.Flagged (program_of (files_in s n t)) (words.word_of t c i)

-- a type's code, where there is one
abbrev pub type_as : Option ℕ → Resolved
type_as (Some k) = type (code_ref k)
type_as None = nothing

abbrev pub member_in : Program → Bool → ℕ → Signature → Resolved
member_in P true c g = method_in P g c
member_in P false c g = field_in P g c

-- a field or method: entry i is its class, entry j its name and descriptor
abbrev pub referred : Program → List Constant → Bool → ℕ → ℕ → Resolved
referred P pool method i j = with_class (class_entry P pool (entry pool i)) λ d. with_signature pool (entry pool j) (member_in P method d)

-- ---- two passes: the first finds what an entry is by itself, a number or a type, the second finds members
abbrev own_entry : Program → List Constant → Constant → Resolved
own_entry P pool absent = nothing
own_entry P pool (utf8 t) = nothing
own_entry P pool (integer v) = number v
own_entry P pool (class_at i) = class_entry P pool (class_at i)
own_entry P pool (fieldref i j) = nothing
own_entry P pool (methodref i j) = nothing
own_entry P pool (name_and_type i j) = nothing

abbrev before : Bool → Program → List Constant → Constant → Resolved
before members P pool x = cond members (own_entry P pool x) nothing

abbrev after : Bool → Program → List Constant → Constant → Resolved
after members P pool x = cond members (resolve_entry P pool x) (own_entry P pool x)

-- what a pass finds of an entry; with 0 the word stays
pub record Fills (s : List ℕ) (P : Program) (pool : List Constant) (members : Bool) (x : Constant) (w : ℕ) : Type 0 where
  pub none : w ≡ 0 → before members P pool x ≡ after members P pool x
  pub some : (w ≡ 0 → ⊥) → Named s P (after members P pool x) w

-- words tell the classes that entries name
pub record Classed (s : List ℕ) (n : ℕ) (t : List ℕ) : Type 0 where
  pub at : (c i : ℕ) → c < n → (k : ℕ → Resolved)
      → with_class (words.resolved_in s t c i) k ≡ with_class (class_entry (program_of (files_in s n t)) (pool_of s (block_at t c)) (entry (pool_of s (block_at t c)) i)) k

abbrev pub type_word : Option ℕ → ℕ
type_word (Some k) = 2 + 8 * k
type_word None = 0

abbrev pub field_word : ℕ → ℕ → ℕ → ℕ → ℕ
field_word code named owner slot = 3 + 8 * code + 2048 * named + 65536 * owner + 2097152 * slot

unfoldable pub flag_of : Bool → ℕ
flag_of b = cond b 1 0

abbrev pub method_word : ℕ → ℕ → ℕ → Bool → Bool → ℕ
method_word named owner index fixed init = 4 + 8 * named + 256 * owner + 8192 * index + 524288 * flag_of fixed + 1048576 * flag_of init

-- ---- codes
nest_is : (b d : ℕ) → b < 32 → tywords.nest (code_base b) d ≡ codes.nested d (codes.base_of b)
unfolding tywords.nest tywords.base_of codes.nested codes.base_of
nest_is b zero h = go (eqb b 31) refl
  where
    go : (e : Bool) → eqb b 31 ≡ e → cond (eqb (cond e 65535 b) 65535) dint (dref (cls (cond e 65535 b))) ≡ cond e dint (dref (cls b))
    go true e = refl
    go false e = rw (ne_eqb b 65535 (λ z. omega arith))
nest_is b (suc d) h = ap (λ (z : Desc). dref (arr z)) (nest_is b d h)

pub code-ref : (k : ℕ) → k < 256 → code_ref k ≡ codes.ref_of k
unfolding code_ref codes.ref_of codes.desc_of codes.ref_in codes.nested codes.base_of
code-ref k h = go (k % 8)
  where
    low : (b : Bool) (c : ℕ) → eqb c 31 ≡ b → cls c ≡ codes.ref_in (cond b dint (dref (cls c)))
    low true c e = ap cls (eqb-true c 31 e)
    low false c e = refl

    go : (d : ℕ) → cond (eqb d 0) (cls (k / 8)) (arr (tywords.nest (code_base (k / 8)) (d - 1))) ≡ codes.ref_in (codes.nested d (cond (eqb (k / 8) 31) dint (dref (cls (k / 8)))))
    go zero = low (eqb (k / 8) 31) (k / 8) refl
    go (suc d) =
        let z : suc d - 1 ≡ d = omega arith in
        rw (ne_eqb (suc d) 0 (λ y. omega arith)) (ap (λ (j : ℕ). arr (tywords.nest (code_base (k / 8)) j)) z ∙ ap arr (nest_is (k / 8) d (omega arith)))

desc_ref : (k : ℕ) → (k ≡ 248 → ⊥) → k < 256 → codes.desc_of k ≡ dref (codes.ref_of k)
unfolding codes.ref_of codes.desc_of codes.ref_in codes.nested codes.base_of
desc_ref k n h = go (k % 8) refl (eqb (k / 8) 31) refl
  where
    go : (d : ℕ) → k % 8 ≡ d → (b : Bool) → eqb (k / 8) 31 ≡ b → codes.nested d (cond b dint (dref (cls (k / 8)))) ≡ dref (codes.ref_in (codes.nested d (cond b dint (dref (cls (k / 8))))))
    go zero e true f = let z : k / 8 ≡ 31 = eqb-true (k / 8) 31 f in absurd (n (omega arith))
    go zero e false f = refl
    go (suc d) e b f = refl

-- ---- words
-- the low part of a number in parts
low2 : (x c k : ℕ) → c < 2 → x ≡ c + 2 * k → x % 2 ≡ c
low2 x c k h e = omega arith

low32 : (x c k : ℕ) → c < 32 → x ≡ c + 32 * k → x % 32 ≡ c
low32 x c k h e = omega arith

low64 : (x c k : ℕ) → c < 64 → x ≡ c + 64 * k → x % 64 ≡ c
low64 x c k h e = omega arith

low256 : (x c k : ℕ) → c < 256 → x ≡ c + 256 * k → x % 256 ≡ c
low256 x c k h e = omega arith

low1024 : (x c : ℕ) → c < 1024 → x ≡ c → x % 1024 ≡ c
low1024 x c h e = omega arith

unflagged : (P : Program) (w : ℕ) → (w % 8 ≡ 4 → ⊥) → words.Flagged P w
unflagged P w n = record { init = λ e. absurd (n e); static = λ e. absurd (n e) }

module _ (s : List ℕ) (P : Program) where
  pub named_as : (x y : Resolved) (w : ℕ) → Named s P x w → x ≡ y → Named s P y w
  named_as x y w h e = record { is = h.is ∙ e; flags = h.flags }

  pub named-word : (x : Resolved) (w v : ℕ) → w ≡ v → Named s P x v → Named s P x w
  named-word x w v e h = subst (Named s P x) (sym e) h

  pub named_none : (x : Resolved) → nothing ≡ x → Named s P x 0
  unfolding words.resolved_as
  named_none x e = record { is = e; flags = unflagged P 0 (λ z. omega arith) }

  pub named-number : (q v : ℕ) → v ≡ u4_at s (q + 1) → Named s P (number v) (1 + 8 * q)
  unfolding words.resolved_as
  named-number q v e =
      let a : (1 + 8 * q) % 8 ≡ 1 = omega arith in
      let b : (1 + 8 * q) / 8 ≡ q = omega arith in
      record {
        is = rw (eq-eqb ((1 + 8 * q) % 8) 1 a) (ap (λ (k : ℕ). number (u4_at s (k + 1))) b ∙ ap number (sym e));
        flags = unflagged P (1 + 8 * q) (λ z. omega (arith, a));
      }

  pub named-type : (d : Option ℕ) (w : ℕ) → w ≡ type_word d → IfSome d (λ k. k < 256) → Named s P (type_as d) w
  unfolding words.resolved_as
  named-type None w e h = named-word nothing w 0 e (named_none nothing refl)
  named-type (Some k) w e h =
      let a : (2 + 8 * k) % 8 ≡ 2 = omega arith in
      let b₀ : (2 + 8 * k) / 8 ≡ k + 256 * 0 = omega arith in
      let b : (2 + 8 * k) / 8 % 256 ≡ k = low256 ((2 + 8 * k) / 8) k 0 h b₀ in
      named-word (type (code_ref k)) w (2 + 8 * k) e (record {
        is = rw (ne_eqb ((2 + 8 * k) % 8) 1 (λ z. omega (arith, a)), eq-eqb ((2 + 8 * k) % 8) 2 a) (ap (λ (j : ℕ). type (code_ref j)) b);
        flags = unflagged P (2 + 8 * k) (λ z. omega (arith, a));
      })

  module _ (code named owner slot : ℕ) (hc : code < 256) (hn : named < 32) (ho : owner < 32) (hs : slot < 1024) where
    abbrev W : ℕ
    W = field_word code named owner slot

    pub named-field : (F : FieldRef) → F.named ≡ named → F.owner ≡ owner → F.slot ≡ slot → F.type ≡ codes.desc_of code → Named s P (field F) (field_word code named owner slot)
    unfolding words.resolved_as
    named-field F en eo es et =
        let r : W % 8 ≡ 3 = omega arith in
        let a : W / 8 ≡ code + 256 * (named + 32 * (owner + 32 * slot)) = omega arith in
        let b : W / 2048 ≡ named + 32 * (owner + 32 * slot) = omega arith in
        let c : W / 65536 ≡ owner + 32 * slot = omega arith in
        let d : W / 2097152 ≡ slot = omega arith in
        let a' : W / 8 % 256 ≡ code = low256 (W / 8) code (named + 32 * (owner + 32 * slot)) hc a in
        let b' : W / 2048 % 32 ≡ named = low32 (W / 2048) named (owner + 32 * slot) hn b in
        let c' : W / 65536 % 32 ≡ owner = low32 (W / 65536) owner slot ho c in
        let d' : W / 2097152 % 1024 ≡ slot = low1024 (W / 2097152) slot hs d in
        let t' : codes.desc_of (W / 8 % 256) ≡ F.type = ap codes.desc_of a' ∙ sym et in
        let z : words.field_in W ≡ record { named = F.named; owner = F.owner; slot = F.slot; type = F.type } = cc (b' ∙ sym en, c' ∙ sym eo, d' ∙ sym es, t') in
        record {
          is = rw (ne_eqb (W % 8) 1 (λ z. omega (arith, r)), ne_eqb (W % 8) 2 (λ z. omega (arith, r)), eq-eqb (W % 8) 3 r) (ap field z);
          flags = unflagged P W (λ z. omega (arith, r));
        }

  module _ (named owner index : ℕ) (fixed init : Bool) (hn : named < 32) (ho : owner < 32) (hi : index < 64) where
    abbrev M : ℕ
    M = method_word named owner index fixed init

    flag-le : (b : Bool) → flag_of b ≤ 1
    unfolding flag_of
    flag-le true = omega arith
    flag-le false = omega arith

    bit_is : (b : Bool) (k : ℕ) → k ≡ flag_of b → eqb k 1 ≡ b
    unfolding flag_of
    bit_is true k e = eq-eqb k 1 e
    bit_is false k e = ne_eqb k 1 (λ z. omega arith)

    pub named-method : is_constructor (method P owner index) ≡ init → fixed ≡ (method P owner index).static → Named s P (method_of (record { named = named; owner = owner; index = index })) (method_word named owner index fixed init)
    unfolding words.resolved_as
    named-method ei ef =
        let f1 : flag_of fixed ≤ 1 = flag-le fixed in
        let f2 : flag_of init ≤ 1 = flag-le init in
        let r : M % 8 ≡ 4 = omega arith in
        let a : M / 8 ≡ named + 32 * (owner + 32 * (index + 64 * (flag_of fixed + 2 * flag_of init))) = omega arith in
        let b : M / 256 ≡ owner + 32 * (index + 64 * (flag_of fixed + 2 * flag_of init)) = omega arith in
        let c : M / 8192 ≡ index + 64 * (flag_of fixed + 2 * flag_of init) = omega arith in
        let d : M / 524288 ≡ flag_of fixed + 2 * flag_of init = omega arith in
        let e : M / 1048576 ≡ flag_of init = omega arith in
        let a' : M / 8 % 32 ≡ named = low32 (M / 8) named (owner + 32 * (index + 64 * (flag_of fixed + 2 * flag_of init))) hn a in
        let b' : M / 256 % 32 ≡ owner = low32 (M / 256) owner (index + 64 * (flag_of fixed + 2 * flag_of init)) ho b in
        let c' : M / 8192 % 64 ≡ index = low64 (M / 8192) index (flag_of fixed + 2 * flag_of init) hi c in
        let d' : M / 524288 % 2 ≡ flag_of fixed = low2 (M / 524288) (flag_of fixed) (flag_of init) (omega (arith, f1)) d in
        let e₀ : M / 1048576 ≡ flag_of init + 2 * 0 = omega (arith, e) in
        let e' : M / 1048576 % 2 ≡ flag_of init = low2 (M / 1048576) (flag_of init) 0 (omega (arith, f2)) e₀ in
        let z : words.method_in M ≡ record { named = named; owner = owner; index = index } = cc (a', b', c') in
        record {
          is = rw (ne_eqb (M % 8) 1 (λ y. omega (arith, r)), ne_eqb (M % 8) 2 (λ y. omega (arith, r)), ne_eqb (M % 8) 3 (λ y. omega (arith, r)), eq-eqb (M % 8) 4 r) (ap method_of z);
          flags = record {
            init = λ y. ap (λ (m : MethodRef). is_constructor (found P m)) z ∙ ei ∙ sym (bit_is init (M / 1048576 % 2) e');
            static = λ y. ap (λ (m : MethodRef). (found P m).static) z ∙ sym ef ∙ sym (bit_is fixed (M / 524288 % 2) d');
          };
        }

-- ---- what a Class names
module _ (s : List ℕ) (n : ℕ) (t : List ℕ) (m : n ≤ 16) (pool : List Constant) (i : ℕ) where
  abbrev P₁ : Program
  P₁ = program_of (files_in s n t)

  class-entry : class_entry P₁ pool (class_at i) ≡ known_type P₁ (class_type_at (codes.number_by s n t) (text pool i) 0)
  class-entry = ap (λ (ns : List Text). known_type P₁ (class_type_at (number_in ns) (text pool i) 0)) (program-names (files_in s n t))

  module _ (p : Text) (hp : p ≡ text pool i) where
    read : (r : Res Ref) → r ≡ class_type_at (codes.number_by s n t) p 0 → r ≡ class_type_at (codes.number_by s n t) (text pool i) 0
    read r k = k ∙ ap (λ (x : Text). class_type_at (codes.number_by s n t) x 0) hp

    pub class_bad : (f q : ℕ) → bad f q ≡ class_type_at (codes.number_by s n t) p 0 → nothing ≡ class_entry P₁ pool (class_at i)
    class_bad f q k = sym (class-entry ∙ sym (ap (known_type P₁) (read (bad f q) k)))

    module _ (v e : ℕ) (l : v < 256) (k : ok (codes.ref_of v) e ≡ class_type_at (codes.number_by s n t) p 0) where
      good : class_entry P₁ pool (class_at i) ≡ cond (known_ref (class_count P₁) (codes.ref_of v)) (type (codes.ref_of v)) nothing
      good = class-entry ∙ sym (ap (known_type P₁) (read (ok (codes.ref_of v) e) k))

      pub class_int : v ≡ 248 → nothing ≡ class_entry P₁ pool (class_at i)
      unfolding known_ref codes.ref_of codes.desc_of codes.ref_in codes.nested codes.base_of
      class_int z = sym (good ∙ ap (λ (v : ℕ). cond (known_ref (class_count P₁) (codes.ref_of v)) (type (codes.ref_of v)) nothing) z ∙ rw (le-ltb 31 (class_count P₁) (rw (class-count s n t m) (omega arith))))

      module _ (f : v ≡ 248 → ⊥) (b : Bool) (g : b ≡ known_desc (first_class + n) (codes.desc_of v)) where
        same_known : known_ref (class_count P₁) (codes.ref_of v) ≡ b
        unfolding known_desc known_ref
        same_known = sym (g ∙ ap (known_desc (first_class + n)) (desc_ref v f l) ∙ ap (λ (c : ℕ). known_ref c (codes.ref_of v)) (sym (class-count s n t m)))

        pub class_known : b ≡ true → type (code_ref v) ≡ class_entry P₁ pool (class_at i)
        class_known y = sym (good ∙ rw (same_known, y) (ap type (sym (code-ref v l))))

        pub class_unknown : b ≡ false → nothing ≡ class_entry P₁ pool (class_at i)
        class_unknown y = sym (good ∙ rw (same_known, y))

-- ---- by the kind of an entry
module _ (s : List ℕ) (e v : Entry) (x : Constant) (p : constant_of e ≡ x) (k : e ≡ v) where
  pub entry_is : constant_of v ≡ x
  entry_is = ap constant_of (sym k) ∙ p

  pub signature_none : (P : Program) (pool : List Constant) (f : Signature → Resolved) → nothing ≡ with_signature pool (constant_of v) f → Named s P (with_signature pool x f) 0
  signature_none P pool f h = named_none s P (with_signature pool x f) (h ∙ ap (λ (y : Constant). with_signature pool y f) entry_is)

  pub signature_some : (P : Program) (pool : List Constant) (f : Signature → Resolved) (w : ℕ) → Named s P (with_signature pool (constant_of v) f) w → Named s P (with_signature pool x f) w
  signature_some P pool f w h = named_as s P _ _ w h (ap (λ (y : Constant). with_signature pool y f) entry_is)

-- the texts of a NameAndType
pub texts_as : (s : List ℕ) (P : Program) (pool : List Constant) (i j : ℕ) (a b : Text) (f : Signature → Resolved) (w : ℕ) → a ≡ text pool i → b ≡ text pool j
    → Named s P (f (signature a b)) w → Named s P (f (signature (text pool i) (text pool j))) w
texts_as s P pool i j a b f w hp hq h = named_as s P _ _ w h (ap (λ (x : Text). f (signature x b)) hp ∙ ap (λ (y : Text). f (signature (text pool i) y)) hq)

-- any but a NameAndType; a NameAndType by its texts
module _ (s : List ℕ) (P : Program) (pool : List Constant) (e : Entry) (x : Constant) (p : constant_of e ≡ x) (f : Signature → Resolved) where
  pub no_signature : ((i j : ℕ) → e ≡ held.NameAndType i j → ⊥) → Named s P (with_signature pool x f) 0
  no_signature h = signature_none s e e x p refl P pool f (by e h)
    where
      by : (v : Entry) → ((i j : ℕ) → v ≡ held.NameAndType i j → ⊥) → nothing ≡ with_signature pool (constant_of v) f
      by held.Absent n = refl
      by (held.Utf8 t) n = refl
      by (held.Integer v) n = refl
      by (held.Class i) n = refl
      by (held.Field i j) n = refl
      by (held.Method i j) n = refl
      by (held.NameAndType i j) n = absurd (n i j refl)

  pub signature_of : (i j w : ℕ) (a b : Text) → e ≡ held.NameAndType i j → a ≡ text pool i → b ≡ text pool j → Named s P (f (signature a b)) w → Named s P (with_signature pool x f) w
  signature_of i j w a b k h g y = signature_some s e (held.NameAndType i j) x p k P pool f w (texts_as s P pool i j a b f w h g y)

module _ (s : List ℕ) (P : Program) (w : ℕ) where
  pub member-method : (m : Bool) (c : ℕ) (g : Signature) → m ≡ true → Named s P (method_in P g c) w → Named s P (member_in P m c g) w
  member-method m c g e h = rw e h

  pub member-field : (m : Bool) (c : ℕ) (g : Signature) → m ≡ false → Named s P (field_in P g c) w → Named s P (member_in P m c g) w
  member-field m c g e h = rw e h

-- ---- an entry by its tag
pub entry_there : (s t : List ℕ) (c i q : ℕ) → 102912 ≤ length t → c < 16 → 0 < i → i < 1024 → i < word t (1608 * c + 1025) → q ≡ word (block_at t c) i → constant_at s q ≡ entry (pool_of s (block_at t c)) i
unfolding pool_of
entry_there s t c i q a m g l h e =
    let b : List ℕ = block_at t c in
    let z : word t (1608 * c + 1025) ≡ word b pool_word = tag_block t c pool_word _ (omega arith) refl in
    let d : length b ≡ 6432 = length_part (6432 * c) 6432 t (omega arith) in
    let x : i < length (take (4 * word b pool_word) b) / 4 = omega (arith, z, d, length-take (4 * word b pool_word) b) in
    entry_in_lem s (take (4 * word b pool_word) b) i (constant_at s q) q (λ y. omega arith) x refl (e ∙ sym (word-take (4 * word b pool_word) b i (omega (arith, z))))

module _ (s : List ℕ) (q : ℕ) (P : Program) (pool : List Constant) (x : Constant) (k : ℕ) (p : constant_at s q ≡ x) (e : k ≡ get_or s q 0) where
  -- the first pass
  fills_own : (w : ℕ) → Named s P (own_entry P pool x) w → Fills s P pool false x w
  unfolding words.resolved_as
  fills_own w h = record { none = λ z. ap (words.resolved_of s) (sym z) ∙ h.is; some = λ n. h }

  pub own_number : k ≡ 3 → Fills s P pool false x (1 + 8 * q)
  unfolding constant_at
  own_number t =
      let z : integer (u4_at s (q + 1)) ≡ x = sym (rw (← e, t)) ∙ p in
      fills_own (1 + 8 * q) (named_as s P _ _ _ (named-number s P q (u4_at s (q + 1)) refl) (ap (own_entry P pool) z))

  pub own_type : (a w : ℕ) → k ≡ 7 → a ≡ u2_at s (q + 1) → (d : Option ℕ) → type_as d ≡ class_entry P pool (class_at a) → IfSome d (λ k. k < 256) → w ≡ type_word d → Fills s P pool false x w
  own_type a w t h d y l z = fills_own w (named_as s P _ _ w (named-type s P d w z l) (y ∙ ap (own_entry P pool) (sym (at_class s q x k p e a t h))))

  pub own_none : (k ≡ 3 → ⊥) → (k ≡ 7 → ⊥) → Fills s P pool false x 0
  unfolding constant_at
  own_none a b = fills_own 0 (named_none s P _ (rw (← e, ne_eqb k 3 a, ne_eqb k 7 b) (go (eqb k 1) (eqb k 9) (eqb k 10) (eqb k 12)) ∙ ap (own_entry P pool) p))
    where
      go : (b c d f : Bool) → nothing ≡ own_entry P pool (cond b (utf8 (part s (q + 3) (u2_at s (q + 1)))) (cond c (fieldref (u2_at s (q + 1)) (u2_at s (q + 3))) (cond d (methodref (u2_at s (q + 1)) (u2_at s (q + 3))) (cond f (name_and_type (u2_at s (q + 1)) (u2_at s (q + 3))) absent))))
      go true c d f = refl
      go false true d f = refl
      go false false true f = refl
      go false false false true = refl
      go false false false false = refl

  -- the second
  fills_reference : (y : Constant) (w : ℕ) → x ≡ y → own_entry P pool y ≡ nothing → Named s P (resolve_entry P pool y) w → Fills s P pool true x w
  unfolding words.resolved_as
  fills_reference y w z o h = rw z (record { none = λ u. o ∙ ap (words.resolved_of s) (sym u) ∙ h.is; some = λ n. h })

  pub refers_field : (w : ℕ) → k ≡ 9 → Named s P (referred P pool false (u2_at s (q + 1)) (u2_at s (q + 3))) w → Fills s P pool true x w
  refers_field w t h = fills_reference (fieldref (u2_at s (q + 1)) (u2_at s (q + 3))) w (at_field s q x k p e _ _ t refl refl) refl h

  pub refers_method : (w : ℕ) → k ≡ 10 → Named s P (referred P pool true (u2_at s (q + 1)) (u2_at s (q + 3))) w → Fills s P pool true x w
  refers_method w t h = fills_reference (methodref (u2_at s (q + 1)) (u2_at s (q + 3))) w (at_method s q x k p e _ _ t refl refl) refl h

  pub refers_none : (k ≡ 9 → ⊥) → (k ≡ 10 → ⊥) → Fills s P pool true x 0
  unfolding constant_at
  refers_none a b = record { none = λ z. same; some = λ n. absurd (n refl) }
    where
      left : Bool → Bool → Bool → Bool → Constant
      left b c d f = cond b (utf8 (part s (q + 3) (u2_at s (q + 1)))) (cond c (integer (u4_at s (q + 1))) (cond d (class_at (u2_at s (q + 1))) (cond f (name_and_type (u2_at s (q + 1)) (u2_at s (q + 3))) absent)))

      go : (b c d f : Bool) → own_entry P pool (left b c d f) ≡ resolve_entry P pool (left b c d f)
      go true c d f = refl
      go false true d f = refl
      go false false true f = refl
      go false false false true = refl
      go false false false false = refl

      same : own_entry P pool x ≡ resolve_entry P pool x
      same = subst (λ (y : Constant). own_entry P pool y ≡ resolve_entry P pool y) (rw (← e, ne_eqb k 9 a, ne_eqb k 10 b) at p) (go (eqb k 1) (eqb k 3) (eqb k 7) (eqb k 12))

pub fills_as : (s : List ℕ) (P : Program) (pool : List Constant) (x : Constant) (w : ℕ) (a b : Bool) → a ≡ b → Fills s P pool b x w → Fills s P pool a x w
fills_as s P pool x w a b e h = subst (λ (z : Bool). Fills s P pool z x w) (sym e) h

-- ---- the class that an entry names, by its word
module _ (k : ℕ → Resolved) where
  -- what names a member names no class
  in-class : (q : Resolved) (f : ℕ → Resolved) → ((d : ℕ) → nothing ≡ with_class (f d) k) → nothing ≡ with_class (with_class q f) k
  in-class nothing f h = refl
  in-class (number v) f h = refl
  in-class (type (cls c)) f h = h c
  in-class (type (arr d)) f h = refl
  in-class (field x) f h = refl
  in-class (method_of x) f h = refl

  in_signature : (pool : List Constant) (y : Constant) (f : Signature → Resolved) → ((g : Signature) → nothing ≡ with_class (f g) k) → nothing ≡ with_class (with_signature pool y f) k
  in_signature pool absent f h = refl
  in_signature pool (utf8 t) f h = refl
  in_signature pool (integer v) f h = refl
  in_signature pool (class_at i) f h = refl
  in_signature pool (fieldref i j) f h = refl
  in_signature pool (methodref i j) f h = refl
  in_signature pool (name_and_type i j) f h = h (signature (text pool i) (text pool j))

  module _ (P : Program) where
    no-field : (g : Signature) (c : ℕ) → nothing ≡ with_class (field_in P g c) k
    unfolding field_in
    no-field g c = go (lookup P field_sigs g c)
      where
        go : (x : Spot) → nothing ≡ with_class (field_found P c x) k
        go nowhere = refl
        go (spot d j) = refl

    no-method : (g : Signature) (c : ℕ) → nothing ≡ with_class (method_in P g c) k
    unfolding method_in
    no-method g c = go (cond (is_init g.name) (own_method P c g) (lookup P method_sigs g c))
      where
        go : (x : Spot) → nothing ≡ with_class (method_found c x) k
        go nowhere = refl
        go (spot d j) = refl

    by_own : (pool : List Constant) (x : Constant) → with_class (own_entry P pool x) k ≡ with_class (class_entry P pool x) k
    by_own pool absent = refl
    by_own pool (utf8 t) = refl
    by_own pool (integer v) = refl
    by_own pool (class_at i) = refl
    by_own pool (fieldref i j) = refl
    by_own pool (methodref i j) = refl
    by_own pool (name_and_type i j) = refl

    by_class : (pool : List Constant) (x : Constant) → with_class (resolve_entry P pool x) k ≡ with_class (class_entry P pool x) k
    by_class pool absent = refl
    by_class pool (utf8 t) = refl
    by_class pool (integer v) = refl
    by_class pool (class_at i) = refl
    by_class pool (fieldref i j) = sym (in-class (class_entry P pool (entry pool i)) _ (λ c. in_signature pool (entry pool j) _ (λ g. no-field g c)))
    by_class pool (methodref i j) = sym (in-class (class_entry P pool (entry pool i)) _ (λ c. in_signature pool (entry pool j) _ (λ g. no-method g c)))
    by_class pool (name_and_type i j) = refl

-- a class that is named is known
module _ (P : Program) (r : ℕ) where
  no_number : number r ≡ nothing → r < class_count P
  no_number h = absurd (not_so (sym (ap (by false (λ v. true) (λ x. false) (λ f. false) (λ m. false)) h)))

  known-type : (q : Res Ref) → number r ≡ with_class (known_type P q) number → r < class_count P
  unfolding known_ref
  known-type (bad n p) h = no_number h
  known-type (ok (arr d) e) h = go (known_desc (class_count P) d) h
    where
      go : (b : Bool) → number r ≡ with_class (cond b (type (arr d)) nothing) number → r < class_count P
      go true x = no_number x
      go false x = no_number x
  known-type (ok (cls c) e) h = go (ltb c (class_count P)) refl h
    where
      go : (b : Bool) → ltb c (class_count P) ≡ b → number r ≡ with_class (cond b (type (cls c)) nothing) number → r < class_count P
      go false y x = no_number x
      go true y x = let z : r ≡ c = ap (by 0 (λ v. v) (λ y. 0) (λ f. 0) (λ m. 0)) x in omega (arith, z, ltb-true c (class_count P) y)

  known_class : (pool : List Constant) (x : Constant) → number r ≡ with_class (class_entry P pool x) number → r < class_count P
  known_class pool absent h = no_number h
  known_class pool (utf8 t) h = no_number h
  known_class pool (integer v) h = no_number h
  known_class pool (class_at i) h = known-type (class_type_at (number_of P) (text pool i) 0) h
  known_class pool (fieldref i j) h = no_number h
  known_class pool (methodref i j) h = no_number h
  known_class pool (name_and_type i j) h = no_number h

-- a type's word, of a class and of another
module _ (v w : ℕ) where
  class-word : w % 64 ≡ 2 → words.resolved_as v w ≡ type (cls (w / 64 % 32))
  unfolding words.resolved_as code_ref
  class-word e =
      let a : w % 8 ≡ 2 = omega arith in
      let b : w / 8 ≡ 8 * (w / 64 % 32) + 256 * (w / 64 / 32) = omega arith in
      let c : w / 8 % 256 ≡ 8 * (w / 64 % 32) = low256 (w / 8) (8 * (w / 64 % 32)) (w / 64 / 32) (omega arith) b in
      rw (ne_eqb (w % 8) 1 (λ z. omega (arith, a)), eq-eqb (w % 8) 2 a, eq-eqb (w / 8 % 256 % 8) 0 (omega (arith, c)))
      (ap (λ (d : ℕ). type (cls d)) (omega (arith, c)))

  other_word_lem : (w % 64 ≡ 2 → ⊥) → (k : ℕ → Resolved) → nothing ≡ with_class (words.resolved_as v w) k
  unfolding words.resolved_as code_ref
  other_word_lem n k = go (eqb (w % 8) 1) (eqb (w % 8) 2) (eqb (w % 8) 3) (eqb (w % 8) 4) (eqb (w / 8 % 256 % 8) 0) refl refl
    where
      go : (a b c d e : Bool) → eqb (w % 8) 2 ≡ b → eqb (w / 8 % 256 % 8) 0 ≡ e
          → nothing ≡ with_class (cond a (number v) (cond b (type (cond e (cls (w / 8 % 256 / 8)) (arr (tywords.nest (code_base (w / 8 % 256 / 8)) (w / 8 % 256 % 8 - 1))))) (cond c (field (words.field_in w)) (cond d (method_of (words.method_in w)) nothing)))) k
      go true b c d e x y = refl
      go false true c d true x y =
          let p : w % 8 ≡ 2 = eqb-true (w % 8) 2 x in
          let q : w / 8 % 256 % 8 ≡ 0 = eqb-true (w / 8 % 256 % 8) 0 y in
          let o : w / 8 % 8 ≡ 0 = omega arith in
          absurd (n (omega (arith, p, o)))
      go false true c d false x y = refl
      go false false true d e x y = refl
      go false false false true e x y = refl
      go false false false false e x y = refl

module _ (w v : ℕ) (e : w ≡ v) where
  pub class_here : w % 64 ≡ 2 → w / 64 % 32 ≡ class_in 31 v
  unfolding class_in
  class_here h = sym (rw (← e, eq-eqb (w % 64) 2 h))

  pub class-nowhere : (w % 64 ≡ 2 → ⊥) → 31 ≡ class_in 31 v
  unfolding class_in
  class-nowhere h = sym (rw (← e, ne_eqb (w % 64) 2 h))

-- the member that entries i and j tell, by the class's number r
module _ (s : List ℕ) (n : ℕ) (t : List ℕ) (m : n ≤ 16) (h : Classed s n t) (c : ℕ) (l : c < n) (method : Bool) (a i j r : ℕ) (e : a ≡ i) (f : r ≡ class_in 31 (words.word_of t c a)) where
  abbrev P₃ : Program
  P₃ = program_of (files_in s n t)

  abbrev pool₃ : List Constant
  pool₃ = pool_of s (block_at t c)

  abbrev W₃ : ℕ
  W₃ = words.word_of t c a

  abbrev member : ℕ → ℕ → Resolved
  member b d = with_signature pool₃ (entry pool₃ b) (member_in P₃ method d)

  its_class : W₃ % 64 ≡ 2 → (k : ℕ → Resolved) → k (W₃ / 64 % 32) ≡ with_class (class_entry P₃ pool₃ (entry pool₃ a)) k
  its_class z k = ap (λ (q : Resolved). with_class q k) (sym (class-word (u4_at s (W₃ / 8 + 1)) W₃ z)) ∙ h.at c a l k

  pub reference_some : (b w : ℕ) → b ≡ j → r < 31 → Named s P₃ (member b r) w → Named s P₃ (referred P₃ pool₃ method i j) w
  unfolding class_in
  reference_some b w g x y =
      subst (λ (u : ℕ). Named s P₃ (referred P₃ pool₃ method i u) w) g
      (subst (λ (u : ℕ). Named s P₃ (referred P₃ pool₃ method u b) w) e (named_as s P₃ (member b r) _ w y (go (eqb (W₃ % 64) 2) refl f)))
    where
      go : (b' : Bool) → eqb (W₃ % 64) 2 ≡ b' → r ≡ cond b' (W₃ / 64 % 32) 31 → member b r ≡ referred P₃ pool₃ method a b
      go true z u = ap (member b) u ∙ its_class (eqb-true (W₃ % 64) 2 z) (member b)
      go false z u = absurd (omega arith)

  pub reference_none : 31 ≤ r → Named s P₃ (referred P₃ pool₃ method i j) 0
  unfolding class_in
  reference_none x = subst (λ (u : ℕ). Named s P₃ (referred P₃ pool₃ method u j) 0) e (named_none s P₃ (referred P₃ pool₃ method a j) (go (eqb (W₃ % 64) 2) refl f))
    where
      go : (b' : Bool) → eqb (W₃ % 64) 2 ≡ b' → r ≡ cond b' (W₃ / 64 % 32) 31 → nothing ≡ referred P₃ pool₃ method a j
      go true z u =
          let y : W₃ / 64 % 32 < class_count P₃ = known_class P₃ (W₃ / 64 % 32) pool₃ (entry pool₃ a) (its_class (eqb-true (W₃ % 64) 2 z) number) in
          absurd (omega (arith, y, class-count s n t m))
      go false z u = other_word_lem (u4_at s (W₃ / 8 + 1)) W₃ (eqb-false (W₃ % 64) 2 z) (member j) ∙ h.at c a l (member j)

-- ---- members that are found
length_sigs : {A : Type 0} (f : A → Signature) (l : List A) → length (map f l) ≡ length l
length_sigs f [] = refl
length_sigs f (x ∷ xs) = ap suc (length_sigs f xs)

module _ (s : List ℕ) (n : ℕ) (t : List ℕ) (m : n ≤ 16) (lim : Limited n t) (g : Signature) where
  abbrev P₂ : Program
  P₂ = program_of (files_in s n t)

  pub record FieldSpot (c j : ℕ) : Type 0 where
    pub low : 11 ≤ c
    pub high : c < 11 + n
    pub row : j < row_count (block_at t (c - 11)) false
    pub small : j < 32

  field-spot : (c j : ℕ) → There P₂ field_sigs g c j → FieldSpot c j
  field-spot c j h = go (side c 11) (side c (11 + n))
    where
      l : j < length (class P₂ c).fields
      l = subst (λ (k : ℕ). j < k) (length_sigs _ (class P₂ c).fields) h.within

      go : (c < 11) ⊎ (11 ≤ c) → (c < 11 + n) ⊎ (11 + n ≤ c) → FieldSpot c j
      go (inl x) y = let z : length (class P₂ c).fields ≡ 0 = ap length (built_in_class (files_in s n t) c x).1 in absurd (omega (arith, l, z))
      go (inr x) (inr y) = let z : length (class P₂ c).fields ≡ 0 = ap (λ (C : Class). length C.fields) (class_past s n t m c y) in absurd (omega (arith, l, z))
      go (inr x) (inl y) =
          let e : first_class + (c - 11) ≡ c = omega arith in
          let z : length (class P₂ c).fields ≡ row_count (block_at t (c - 11)) false = ap (λ (k : ℕ). length (class P₂ k).fields) (sym e) ∙ fields-count s n t m (c - 11) (omega arith) in
          let b : row_count (block_at t (c - 11)) false ≤ 32 = lim.fields (c - 11) (omega arith) in
          record { low = x; high = y; row = omega (arith, l, z); small = omega (arith, l, z, b) }

  method-spot : (c j : ℕ) → There P₂ method_sigs g c j → (c < 32) × (j < 64)
  method-spot c j h = go (side c 11) (side c (11 + n))
    where
      l : j < length (class P₂ c).methods
      l = subst (λ (k : ℕ). j < k) (length_sigs _ (class P₂ c).methods) h.within

      go : (c < 11) ⊎ (11 ≤ c) → (c < 11 + n) ⊎ (11 + n ≤ c) → (c < 32) × (j < 64)
      go (inl x) y = let z : length (class P₂ c).methods ≡ 1 = ap length (built_in_class (files_in s n t) c x).0 in (omega arith, omega (arith, l, z))
      go (inr x) (inr y) = let z : length (class P₂ c).methods ≡ 0 = ap (λ (C : Class). length C.methods) (class_past s n t m c y) in absurd (omega (arith, l, z))
      go (inr x) (inl y) =
          let e : first_class + (c - 11) ≡ c = omega arith in
          let z : length (class P₂ c).methods ≡ row_count (block_at t (c - 11)) true = ap (λ (k : ℕ). length (class P₂ k).methods) (sym e) ∙ methods-count s n t m (c - 11) (omega arith) in
          let b : row_count (block_at t (c - 11)) true ≤ 64 = lim.methods (c - 11) (omega arith) in
          (omega arith, omega (arith, l, z, b))

  sig_at : (l : List Method) (j : ℕ) → j < length l → get_or (map (λ (x : Method). x.sig) l) j g ≡ (get_or l j no_method).sig
  sig_at [] j h = absurd (omega arith)
  sig_at (x ∷ xs) zero h = refl
  sig_at (x ∷ xs) (suc j) h = sig_at xs j (omega arith)

  method-name : (c j : ℕ) → There P₂ method_sigs g c j → is_constructor (method P₂ c j) ≡ is_init g.name
  unfolding same_signature
  method-name c j h = ap is_init (eq_list_true (method P₂ c j).sig.name g.name (left (eq_list (method P₂ c j).sig.name g.name) _ same))
    where
      same : same_signature (method P₂ c j).sig g ≡ true
      same = ap (λ (k : Signature). same_signature k g) (sym (sig_at (class P₂ c).methods j (subst (λ (k : ℕ). j < k) (length_sigs _ (class P₂ c).methods) h.within))) ∙ h.same

      left : (a b : Bool) → cond a b false ≡ true → a ≡ true
      left true b e = refl
      left false b e = e

  -- the code's answer, for fields
  pub field_none : (named : ℕ) → nowhere ≡ lookup P₂ field_sigs g named → Named s P₂ (field_in P₂ g named) 0
  unfolding field_in
  field_none named h = named_none s P₂ (field_in P₂ g named) (ap (field_found P₂ named) h)

  module _ (r : Hit) (named : ℕ) (h : spot r.class r.index ≡ lookup P₂ field_sigs g named) where
    pub field_there : FieldSpot r.class r.index
    field_there = field-spot r.class r.index (lookup_there P₂ field_sigs g named r.class r.index (sym h))

    pub field_some : named < 32 → (code up size : ℕ) → codes.desc_of code ≡ (get_or (class P₂ (first_class + (r.class - 11))).fields r.index no_field).type → code < 256
        → up ≡ (class P₂ r.class).parent → size ≡ length (layout P₂ up) → size ≤ 864 → Named s P₂ (field_in P₂ g named) (field_word code named r.class (size + r.index))
    unfolding field_in
    field_some l code up size ec lc eu es ls =
        let x = field_there in
        let z : first_class + (r.class - 11) ≡ r.class = omega (arith, x.low) in
        let o : r.class < 32 = omega (arith, x.high) in
        let q : size + r.index < 1024 = omega (arith, x.small) in
        let w : length (layout P₂ (class P₂ r.class).parent) + r.index ≡ size + r.index = ap (λ (k : ℕ). k + r.index) (sym (es ∙ ap (λ (k : ℕ). length (layout P₂ k)) eu)) in
        let y : (get_or (class P₂ r.class).fields r.index no_field).type ≡ codes.desc_of code = sym (ec ∙ ap (λ (k : ℕ). (get_or (class P₂ k).fields r.index no_field).type) z) in
        named_as s P₂ _ (field_in P₂ g named) _
        (named-field s P₂ code named r.class (size + r.index) lc l o q
        (record { named = named; owner = r.class; slot = length (layout P₂ (class P₂ r.class).parent) + r.index; type = (get_or (class P₂ r.class).fields r.index no_field).type }) refl refl w y)
        (ap (field_found P₂ named) h)

  -- for methods
  abbrev pub Fits : Bool → Hit → Type 0
  Fits b r = (r.class < 32) × (r.index < 64) × (is_constructor (method P₂ r.class r.index) ≡ b)

  there_fits : (r : Hit) → There P₂ method_sigs g r.class r.index → (b : Bool) → is_init g.name ≡ b → Fits b r
  there_fits r h b e = ((method-spot r.class r.index h).0, (method-spot r.class r.index h).1, method-name r.class r.index h ∙ e)

  pub own_fits : (r : Option Hit) (c : ℕ) (b : Bool) → hit_of r ≡ own_spot P₂ method_sigs g c → is_init g.name ≡ b → IfSome r (Fits b)
  own_fits None c b h e = tt
  own_fits (Some r) c b h e = there_fits r (own_there P₂ method_sigs g c r.class r.index (sym h)) b e

  pub seek-fits : (r : Option Hit) (c : ℕ) (b : Bool) → hit_of r ≡ lookup P₂ method_sigs g c → is_init g.name ≡ b → IfSome r (Fits b)
  seek-fits None c b h e = tt
  seek-fits (Some r) c b h e = there_fits r (lookup_there P₂ method_sigs g c r.class r.index (sym h)) b e

module _ (s : List ℕ) (P : Program) (g : Signature) (named : ℕ) (w : ℕ) (r : Option Hit) (h : Named s P (method_found named (hit_of r)) w) where
  pub method_own : is_init g.name ≡ true → hit_of r ≡ own_spot P method_sigs g named → Named s P (method_in P g named) w
  unfolding method_in own_method own_spot
  method_own e k = named_as s P _ (method_in P g named) w h (sym (rw e (ap (method_found named) (sym k))))

  pub method-seek : is_init g.name ≡ false → hit_of r ≡ lookup P method_sigs g named → Named s P (method_in P g named) w
  unfolding method_in
  method-seek e k = named_as s P _ (method_in P g named) w h (sym (rw e (ap (method_found named) (sym k))))

pub hit_none : (s : List ℕ) (P : Program) (named : ℕ) → Named s P (method_found named nowhere) 0
hit_none s P named = named_none s P (method_found named nowhere) refl

pub hit_some : (s : List ℕ) (P : Program) (named : ℕ) (r : Hit) → named < 32 → (init : Bool) → (r.class < 32) × (r.index < 64) × (is_constructor (method P r.class r.index) ≡ init)
    → (fixed : Bool) → fixed ≡ (method P r.class r.index).static → Named s P (method_found named (spot r.class r.index)) (method_word named r.class r.index fixed init)
hit_some s P named r l init k fixed f = named_as s P _ (method_found named (spot r.class r.index)) _ (named-method s P named r.class r.index fixed init l k.0 k.1 k.2 f) refl

-- ---- the table, word by word; what stands below it does not change
drop_put : (m : ℕ) (b : List ℕ) (k v : ℕ) → k < m → drop (4 * m) (put_word b k v) ≡ drop (4 * m) b
drop_put m b k v h =
    ext_get_or 0 (drop (4 * m) (put_word b k v)) (drop (4 * m) b)
    (length-drop (4 * m) (put_word b k v) ∙ ap (λ (l : ℕ). l - 4 * m) (length_put b k v) ∙ sym (length-drop (4 * m) b))
    (λ i l. get_or-drop (4 * m) (put_word b k v) i 0 ∙ byte_other b k v (4 * m + i) (λ e. omega arith) ∙ sym (get_or-drop (4 * m) b i 0))

module _ (s : List ℕ) (n : ℕ) (t u : List ℕ) (m : n ≤ 16) (e : take 103040 u ≡ take 103040 t) where
  below_same : (k : ℕ) → k ≤ 103040 → take k u ≡ take k t
  below_same k h = sym (take-take k 103040 u h) ∙ ap (take k) e ∙ take-take k 103040 t h

  pub files_same : files_in s n u ≡ files_in s n t
  files_same = ap (λ (l : List ℕ). classes_in s l n) (below_same parents_at (omega arith))

  pub block_same : (c : ℕ) → c < 16 → block_at u c ≡ block_at t c
  block_same c h = sym (part u) ∙ ap (λ (l : List ℕ). take 6432 (drop (6432 * c) l)) e ∙ part t
    where
      part : (l : List ℕ) → take 6432 (drop (6432 * c) (take 103040 l)) ≡ take 6432 (drop (6432 * c) l)
      part l = ap (take 6432) (drop-take (6432 * c) 103040 l) ∙ take-take 6432 (103040 - 6432 * c) (drop (6432 * c) l) (omega arith)

  pub word_below : (k : ℕ) → k < 25760 → word u k ≡ word t k
  word_below k h = sym (word-take 103040 u k (omega arith)) ∙ ap (λ (l : List ℕ). word l k) e ∙ word-take 103040 t k (omega arith)

  pub parents_same : Parents s n t → Parents s n u
  parents_same h = record { at = λ c l. word_below (25728 + c) (omega arith) ∙ h.at c l ∙ ap (λ (fs : List ClassFile). (class (program_of fs) c).parent) (sym files_same) }

  pub limited_same : Limited n t → Limited n u
  limited_same h = record {
    pool = λ c l. subst (λ (b : List ℕ). word b pool_word ≤ 1024) (sym (block_same c (omega arith))) (h.pool c l);
    fields = λ c l. subst (λ (b : List ℕ). row_count b false ≤ 32) (sym (block_same c (omega arith))) (h.fields c l);
    methods = λ c l. subst (λ (b : List ℕ). row_count b true ≤ 64) (sym (block_same c (omega arith))) (h.methods c l);
  }

  -- nor do the prints behind it
  printed_same : drop 168576 u ≡ drop 168576 t → length u ≡ length t → Printed s n t → Printed s n u
  printed_same b l h = printed_moved s n t u m (below_same parents_at (omega arith)) (same_back 168576 187008 t u (omega arith) b) l h

-- around the table u is as t
pub record Around (t u : List ℕ) : Type 0 where
  pub front : take 103040 u ≡ take 103040 t
  pub back : drop 168576 u ≡ drop 168576 t
  pub long : length u ≡ length t

pub around_same : (t : List ℕ) → Around t t
around_same t = record { front = refl; back = refl; long = refl }

pub around_both : (t u v : List ℕ) → Around t u → Around u v → Around t v
around_both t u v a b = record { front = b.front ∙ a.front; back = b.back ∙ a.back; long = b.long ∙ a.long }

pub around_put : (t v : List ℕ) (k w : ℕ) → 25760 ≤ k → k < 42144 → v ≡ put_word t k w → Around t v
around_put t v k w l g e = record {
  front = ap (take 103040) e ∙ take_put 25760 t k w l;
  back = ap (drop 168576) e ∙ drop_put 42144 t k w g;
  long = ap length e ∙ length_put t k w;
}

pub tables_same : (s : List ℕ) (n : ℕ) (t u : List ℕ) → n ≤ 16 → Around t u → Parents s n t → Limited n t → Printed s n t → Parents s n u × Limited n u × Printed s n u
tables_same s n t u m a p l d = (parents_same s n t u m a.front p, limited_same s n t u m a.front l, printed_same s n t u m a.front a.back a.long d)

-- the words of the n classes are clear
pub record Blanked (n : ℕ) (t : List ℕ) : Type 0 where
  pub at : (j : ℕ) → j < 1024 * n → word t (25760 + j) ≡ 0

-- past a pool's end stands no entry
past_at : (s t : List ℕ) (c i e : ℕ) → e ≡ word t (1608 * c + 1025) → e ≤ i → absent ≡ entry (pool_of s (block_at t c)) i
unfolding pool_of
past_at s t c i e z g =
    let b : List ℕ = block_at t c in
    entry_past s (take (4 * word b pool_word) b) i (omega (arith, g, tag_block t c pool_word e (omega arith) z, length-take (4 * word b pool_word) b))

pub count_most : (n : ℕ) (t : List ℕ) → Limited n t → (c e : ℕ) → c < n → e ≡ word t (1608 * c + 1025) → e ≤ 1024
count_most n t lim c e l z = omega (arith, tag_block t c pool_word e (omega arith) z, lim.pool c l)

-- what f says of entry i of class c
abbrev said : List ℕ → ℕ → List ℕ → (Program → List Constant → Constant → Resolved) → ℕ → ℕ → Resolved
said s n t f c i = f (program_of (files_in s n t)) (pool_of s (block_at t c)) (entry (pool_of s (block_at t c)) i)

abbrev Tells : List ℕ → ℕ → List ℕ → (Program → List Constant → Constant → Resolved) → ℕ → ℕ → ℕ → Type 0
Tells s n t f c i w = Named s (program_of (files_in s n t)) (said s n t f c i) w

-- a pass that has come to place k
pub record Filled (s : List ℕ) (n : ℕ) (members : Bool) (k : ℕ) (t : List ℕ) : Type 0 where
  pub done : (c i : ℕ) → c < n → i < 1024 → 1024 * c + i < k → Tells s n t (after members) c i (word t (words.resolved_word c i))
  pub left : (c i : ℕ) → c < n → i < 1024 → k ≤ 1024 * c + i → Tells s n t (before members) c i (word t (words.resolved_word c i))

-- what clearing the words leaves
module _ (t m : List ℕ) (n k : ℕ) (e : k ≡ 4096 * n) (h : n ≤ 16) (l : 168576 ≤ length t) (q : m ≡ replicate (length (take k (drop 103040 t))) 0) where
  abbrev blanked : List ℕ
  blanked = take 103040 t ++ (m ++ drop k (drop 103040 t))

  wide : length m ≡ k
  wide = ap length q ∙ length-replicate (length (take k (drop 103040 t))) 0 ∙ length_part 103040 k t (omega arith)

  room : 103040 + k ≤ length t
  room = omega arith

  blank_long : length blanked ≡ length t
  blank_long = length_back t m 103040 k wide room

  blank_front : take 103040 blanked ≡ take 103040 t
  blank_front =
      take-append-le 103040 (take 103040 t) (m ++ drop k (drop 103040 t)) (rw (length-take-le 103040 t (omega arith)) (omega arith)) ∙ take-take 103040 103040 t (omega arith)

  blank_back : drop 168576 blanked ≡ drop 168576 t
  blank_back =
      ext_get_or 0 (drop 168576 blanked) (drop 168576 t) (length-drop 168576 blanked ∙ ap (λ (j : ℕ). j - 168576) blank_long ∙ sym (length-drop 168576 t))
      (λ i b. get_or-drop 168576 blanked i 0 ∙ get_or-back-after t m 103040 k wide room (168576 + i) 0 (omega arith) ∙ sym (get_or-drop 168576 t i 0))

  blank_at : (j : ℕ) → j < 1024 * n → word blanked (25760 + j) ≡ 0
  blank_at j b = word-back_in t m 25760 k wide room j (omega arith) ∙ ap (λ (z : List ℕ). word z j) q ∙ word-zeros (length (take k (drop 103040 t))) j

  pub blank_is : Around t blanked × Blanked n blanked
  blank_is = (record { front = blank_front; back = blank_back; long = blank_long }, record { at = blank_at })

module _ (s : List ℕ) (n : ℕ) (t : List ℕ) (m : n ≤ 16) where
  abbrev P₄ : Program
  P₄ = program_of (files_in s n t)

  pub filled_blank : Blanked n t → Filled s n false 0 t
  filled_blank b = record { done = λ c i l g h. absurd (omega arith); left = λ c i l g h. subst (Tells s n t (before false) c i) (sym (zero_at c i l g)) (named_none s P₄ nothing refl) }
    where
      zero_at : (c i : ℕ) → c < n → i < 1024 → word t (words.resolved_word c i) ≡ 0
      zero_at c i l g = let y : words.resolved_word c i ≡ 25760 + (1024 * c + i) = omega arith in ap (word t) y ∙ b.at (1024 * c + i) (omega arith)

  pub filled_next : Filled s n false (1024 * n) t → Filled s n true 0 t
  filled_next h = record { done = λ c i l g x. absurd (omega arith); left = λ c i l g x. h.done c i l g (omega arith) }

  module _ (members : Bool) (k : ℕ) (h : Filled s n members k t) where
    -- words that stay
    filled_keep : (r : ℕ) → k ≤ r → ((c i : ℕ) → i < 1024 → k ≤ 1024 * c + i → 1024 * c + i < r → said s n t (before members) c i ≡ said s n t (after members) c i) → Filled s n members r t
    filled_keep r l f = record { done = λ c i a b g. go c i a b g (side (1024 * c + i) k); left = λ c i a b g. h.left c i a b (omega arith) }
      where
        go : (c i : ℕ) → c < n → i < 1024 → 1024 * c + i < r → (1024 * c + i < k) ⊎ (k ≤ 1024 * c + i) → Tells s n t (after members) c i (word t (words.resolved_word c i))
        go c i a b g (inl x) = h.done c i a b x
        go c i a b g (inr x) = named_as s P₄ _ _ _ (h.left c i a b x) (f c i b x g)

    none_there : (c i : ℕ) → absent ≡ entry (pool_of s (block_at t c)) i → said s n t (before members) c i ≡ said s n t (after members) c i
    none_there c i e = subst (λ (y : Constant). before members P₄ (pool_of s (block_at t c)) y ≡ after members P₄ (pool_of s (block_at t c)) y) e (go members)
      where
        go : (b : Bool) → before b P₄ (pool_of s (block_at t c)) absent ≡ after b P₄ (pool_of s (block_at t c)) absent
        go true = refl
        go false = refl

    -- number 0
    pub filled_first : (c : ℕ) → k ≡ 1024 * c → Filled s n members (1024 * c + 1) t
    unfolding pool_of
    filled_first c e = filled_keep (1024 * c + 1) (omega arith) (λ d i b x y. none_there d i (entry_none s _ i (omega arith)))

    pub filled_past : (c i e : ℕ) → k ≡ 1024 * c + i → e ≡ word t (1608 * c + 1025) → e ≤ i → i ≤ 1024 → Filled s n members (1024 * (c + 1)) t
    filled_past c i e z w l g = filled_keep (1024 * (c + 1)) (omega arith) (λ d j b x y.
        let u : c ≡ d = omega arith in
        none_there d j (past_at s t d j e (w ∙ ap (λ (a : ℕ). word t (1608 * a + 1025)) u) (omega (arith, u))))

    module _ (c i w : ℕ) (z : k ≡ 1024 * c + i) (l : c < n) (g : i < 1024) (q : Fills s P₄ (pool_of s (block_at t c)) members (entry (pool_of s (block_at t c)) i) w) where
      -- this entry and no other
      at_entry : (B : ℕ → ℕ → Type 0) → B c i → (d j : ℕ) → j < 1024 → k ≤ 1024 * d + j → 1024 * d + j < 1024 * c + (i + 1) → B d j
      at_entry B b d j y u o =
          let f : c ≡ d = omega arith in
          let p : i ≡ j = omega (arith, f) in
          subst (λ (a : ℕ). B a j) f (subst (B c) p b)

      pub filled_same : w ≡ 0 → Filled s n members (1024 * c + (i + 1)) t
      filled_same e = filled_keep (1024 * c + (i + 1)) (omega arith) (at_entry (λ d j. said s n t (before members) d j ≡ said s n t (after members) d j) (q.none e))

      pub filled_put : (v : List ℕ) → (w ≡ 0 → ⊥) → w < 2 ^ 32 → 168576 ≤ length t → v ≡ put_word t (words.resolved_word c i) w → Filled s n members (1024 * c + (i + 1)) v
      filled_put v x b r e = record { done = λ d j a y u. done d j a y (side (1024 * d + j) k) u; left = λ d j a y u. moved d j a (before members) _ (kept d j (λ p. omega arith)) (h.left d j a y (omega arith)) }
        where
          front : take 103040 v ≡ take 103040 t
          front = (around_put t v (words.resolved_word c i) w (omega arith) (omega arith) e).front

          kept : (d j : ℕ) → (words.resolved_word d j ≡ words.resolved_word c i → ⊥) → word v (words.resolved_word d j) ≡ word t (words.resolved_word d j)
          kept d j y = ap (λ (p : List ℕ). word p (words.resolved_word d j)) e ∙ word_other t (words.resolved_word c i) w (words.resolved_word d j) y

          moved : (d j : ℕ) → d < n → (f : Program → List Constant → Constant → Resolved) (y : ℕ) → word v (words.resolved_word d j) ≡ y → Tells s n t f d j y → Tells s n v f d j (word v (words.resolved_word d j))
          moved d j a f y u p =
              subst (Tells s n v f d j) (sym u)
              (subst (λ (o : List ℕ). Named s (program_of (files_in s n v)) (f (program_of (files_in s n v)) (pool_of s o) (entry (pool_of s o) j)) y) (sym (block_same s n t v m front d (omega arith)))
              (subst (λ (o : List ClassFile). Named s (program_of o) (f (program_of o) (pool_of s (block_at t d)) (entry (pool_of s (block_at t d)) j)) y) (sym (files_same s n t v m front)) p))

          done : (d j : ℕ) → d < n → j < 1024 → (1024 * d + j < k) ⊎ (k ≤ 1024 * d + j) → 1024 * d + j < 1024 * c + (i + 1) → Tells s n v (after members) d j (word v (words.resolved_word d j))
          done d j a y (inl o) u = moved d j a (after members) _ (kept d j (λ p. omega arith)) (h.done d j a y o)
          done d j a y (inr o) u =
              at_entry (λ d' j'. Tells s n v (after members) d' j' (word v (words.resolved_word d' j')))
              (moved c i l (after members) w (ap (λ (p : List ℕ). word p (words.resolved_word c i)) e ∙ word_same t (words.resolved_word c i) w (omega arith) b) (q.some x)) d j y o u

  -- by the table's words, which are 0 past the table
  told : Limited n t → (f : Program → List Constant → Constant → Resolved) (c i : ℕ) → c < n → nothing ≡ f P₄ (pool_of s (block_at t c)) absent
      → (i < 1024 → Tells s n t f c i (word t (words.resolved_word c i))) → Tells s n t f c i (words.word_of t c i)
  unfolding words.word_of
  told lim f c i l e h = let y : c < 16 = omega arith in rw (lt-ltb c 16 y) (go (side i 1024))
    where
      go : (i < 1024) ⊎ (1024 ≤ i) → Tells s n t f c i (cond (ltb i 1024) (word t (words.resolved_word c i)) 0)
      go (inl x) = rw (lt-ltb i 1024 x) (h x)
      go (inr x) = rw (le-ltb i 1024 x) (named_none s P₄ _ (e ∙ ap (f P₄ (pool_of s (block_at t c))) (past_at s t c i _ refl (omega (arith, count_most n t lim c _ l refl)))))

  -- in the second pass every word tells its class
  pub filled_classed : Limited n t → (k : ℕ) → Filled s n true k t → Classed s n t
  filled_classed lim k h = record { at = λ c i l f. go c i l f (side (1024 * c + i) k) }
    where
      go : (c i : ℕ) → c < n → (f : ℕ → Resolved) → (1024 * c + i < k) ⊎ (k ≤ 1024 * c + i)
          → with_class (words.resolved_in s t c i) f ≡ with_class (class_entry P₄ (pool_of s (block_at t c)) (entry (pool_of s (block_at t c)) i)) f
      go c i l f (inl x) = ap (λ (q : Resolved). with_class q f) (told lim resolve_entry c i l refl (λ g. h.done c i l g x)).is ∙ by_class f P₄ (pool_of s (block_at t c)) (entry (pool_of s (block_at t c)) i)
      go c i l f (inr x) = ap (λ (q : Resolved). with_class q f) (told lim own_entry c i l refl (λ g. h.left c i l g x)).is ∙ by_own f P₄ (pool_of s (block_at t c)) (entry (pool_of s (block_at t c)) i)

  pub filled_all : Limited n t → Filled s n true (1024 * n) t → ResolvedAll s n t
  unfolding resolve
  filled_all lim h = record {
    at = λ c i l. (all c i l).is ∙ ap (λ (y : List Constant). resolve_entry P₄ y (entry y i)) (sym (pool-at s n t m c l));
    flags = λ c i l. (all c i l).flags;
  }
    where
      all : (c i : ℕ) → c < n → Tells s n t resolve_entry c i (words.word_of t c i)
      all c i l = told lim resolve_entry c i l refl (λ g. h.done c i l g (omega arith))
