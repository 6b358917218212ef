-- A member's access, name and descriptor as the code reads them, and the member that they and its attributes make. Assumes nothing.
use Rattle.std.specs.Prelude.{ℕ, ◌+◌, ◌<◌, ◌≤◌, ◌≡◌, List, Bool, Result, Ok, Err, length, eqb}
use Rattle.std.proofs.Common.{◌∙◌, refl, sym, ap, true, false, cond, arith, ltb, eq-eqb, ne_eqb, ltb-true, ltb-false, lt-ltb, le-ltb}
use Rattle.classfiles.specs.Limits.{max_parameters}
use Rattle.texts.specs.Reading.{Res, ok, bad, and_then, u2_at, u2}
use Rattle.texts.specs.Answers.{res_as}
use Rattle.texts.specs.Ends.{Holds, then-holds, any-holds, cond-holds, IsU2, u2-holds}
use Rattle.texts.specs.Names.{Text, is_init, unqualified, method_name}
use Rattle.classfiles.specs.Descriptors.{field_type_at, method_type_at}
use Rattle.classfiles.specs.Shapes.{arity, seen, field_shape, method_shape, field-shape, method-shape}
use Rattle.classfiles.specs.Pool.{Constant, text, entry, is_utf8, utf8_index_at}
use Rattle.classfiles.specs.Members.{Found, Body, Member, access_at, name_at, slots, method_type_ok, descriptor_at, attributes_at, member_at}
use Rattle.classfiles.specs.Attributes.{member_of, any-then, same_then}
use Rattle.texts.specs.declared.faults.Got.{Got}
use Rattle.texts.specs.declared.faults.Fault.{Fault}

-- too many parameters, with the receiver
unfoldable pub too_many : ℕ → ℕ → Bool
too_many access n = ltb max_parameters (n + cond (eqb access 9) 0 1)

-- `<init>` has no result
unfoldable pub result_ok : Text → ℕ → Bool
result_ok name n = cond (is_init name) (eqb n 0) true

-- the descriptor t at q, by its form; it ends at a
unfoldable pub field_by : Text → ℕ → ℕ → Res Text
field_by t q a = and_then (field_shape t q) λ v e. ok t a

unfoldable pub method_by : ℕ → Text → Text → ℕ → ℕ → Res Text
method_by access name t q a =
    and_then (method_shape t q) λ m e.
    cond (too_many access m.params) (bad 4 q) (cond (result_ok name m.results) (ok t a) (bad 7 q))

unfoldable pub access_by : List ℕ → Bool → ℕ → Res ℕ
access_by s method q =
    and_then (u2 s q) λ v a. cond (eqb v 1) (ok v a) (cond method (cond (eqb v 9) (ok v a) (bad 6 q)) (bad 6 q))

module _ (s : List ℕ) (pool : List Constant) where
  unfoldable pub descriptor_by : Bool → ℕ → Text → ℕ → Res Text
  descriptor_by method access name q =
      and_then (utf8_index_at s pool q) λ i a. cond method (method_by access name (text pool i) q a) (field_by (text pool i) q a)

  unfoldable pub member_by : Bool → ℕ → Res Member
  member_by method q =
      and_then (access_by s method q) λ access a.
      and_then (name_at s pool method access q a) λ name b.
      and_then (descriptor_at s pool method access name b) λ descriptor c.
      and_then (attributes_at s pool method c) λ body e. ok (member_of s pool q body) e

-- ---- they say what the members' own definitions say
seen-then : {A B C : Type 0} (h : A → B) (x : Res A) (y : Res B) (f : A → ℕ → Res C) (g : B → ℕ → Res C) → seen h x ≡ y → ((v : A) (e : ℕ) → f v e ≡ g (h v) e) → and_then x f ≡ and_then y g
unfolding and_then seen
seen-then h (ok v e) y f g p k = rw (← p) (k v e)
seen-then h (bad n q) y f g p k = rw (← p)

module _ (s : List ℕ) (pool : List Constant) where
  field-by : (t : Text) (q a : ℕ) → (and_then (field_type_at (λ x. 0) t q) λ d e. ok t a) ≡ field_by t q a
  unfolding field_by
  field-by t q a = seen-then (λ d. 0) (field_type_at (λ x. 0) t q) (field_shape t q) _ _ (field-shape (λ x. 0) t q) (λ v e. refl)

  result_by : (name : Text) (n : ℕ) (x y : Res Text) → cond (is_init name) (cond (eqb n 0) x y) x ≡ cond (result_ok name n) x y
  unfolding result_ok
  result_by name n x y = by (is_init name)
    where
      by : (b : Bool) → cond b (cond (eqb n 0) x y) x ≡ cond (cond b (eqb n 0) true) x y
      by true = refl
      by false = refl

  method-by : (access : ℕ) (name t : Text) (q a : ℕ)
      → (and_then (method_type_at (λ x. 0) t q) λ m e. method_type_ok s pool access name q a t m) ≡ method_by access name t q a
  unfolding method_by method_type_ok slots too_many
  method-by access name t q a =
      seen-then (λ m. arity (length m.params) (length m.results)) (method_type_at (λ x. 0) t q) (method_shape t q) _ _ (method-shape (λ x. 0) t q)
      (λ m e. ap (cond (ltb max_parameters (length m.params + cond (eqb access 9) 0 1)) (bad 4 q)) (result_by name (length m.results) (ok t a) (bad 7 q)))

  descriptor-by : (method : Bool) (access : ℕ) (name : Text) (q : ℕ) → descriptor_at s pool method access name q ≡ descriptor_by s pool method access name q
  unfolding descriptor_at descriptor_by
  descriptor-by method access name q = any-then (utf8_index_at s pool q) _ _ (λ i a. by method i a)
    where
      by : (b : Bool) (i a : ℕ)
          → cond b (and_then (method_type_at (λ x. 0) (text pool i) q) λ m e. method_type_ok s pool access name q a (text pool i) m) (and_then (field_type_at (λ x. 0) (text pool i) q) λ d e. ok (text pool i) a)
          ≡ cond b (method_by access name (text pool i) q a) (field_by (text pool i) q a)
      by true i a = method-by access name (text pool i) q a
      by false i a = field-by (text pool i) q a

  pub descriptor_via : (r : Res Text) (method : Bool) (access : ℕ) (name : Text) (q : ℕ) → r ≡ descriptor_by s pool method access name q → r ≡ descriptor_at s pool method access name q
  descriptor_via r method access name q h = h ∙ sym (descriptor-by method access name q)

  -- ---- what is read stands where it is read again
  access-holds : (method : Bool) (q : ℕ) → Holds (IsU2 s (length s) q) (access_at s pool method q)
  unfolding access_at
  access-holds method q =
      let P = IsU2 s (length s) q in
      then-holds P P (u2 s q) _ (u2-holds s q)
      (λ v a h. cond-holds P (eqb v 1) _ _ h (cond-holds P method _ _ (cond-holds P (eqb v 9) _ _ h tt) tt))

  utf8-holds : (q : ℕ) → Holds (IsU2 s (length s) q) (utf8_index_at s pool q)
  unfolding utf8_index_at
  utf8-holds q =
      let P = IsU2 s (length s) q in
      then-holds P P (u2 s q) _ (u2-holds s q) (λ v a h. cond-holds P (is_utf8 (entry pool v)) _ _ h tt)

  -- the text that the index at q names
  abbrev NamedAt : ℕ → Text → ℕ → Type 0
  NamedAt q t e = (t ≡ text pool (u2_at s q)) × (e ≡ q + 2) × (e ≤ length s)

  is_text : (q i a : ℕ) → IsU2 s (length s) q i a → NamedAt q (text pool i) a
  is_text q i a h = (ap (text pool) h.0, h.1, h.2)

  name-holds : (method : Bool) (access p q : ℕ) → Holds (NamedAt q) (name_at s pool method access p q)
  unfolding name_at
  name-holds method access p q =
      then-holds (IsU2 s (length s) q) (NamedAt q) (utf8_index_at s pool q) _ (utf8-holds q)
      (λ i a h. cond-holds (NamedAt q) (cond method (method_name (text pool i)) (unqualified (text pool i))) _ _
      (cond-holds (NamedAt q) (is_init (text pool i)) _ _ (cond-holds (NamedAt q) (eqb access 9) _ _ tt (is_text q i a h)) (is_text q i a h)) tt)

  descriptor-holds : (method : Bool) (access : ℕ) (name : Text) (q : ℕ) → Holds (NamedAt q) (descriptor_at s pool method access name q)
  unfolding descriptor_at method_type_ok
  descriptor-holds method access name q =
      then-holds (IsU2 s (length s) q) (NamedAt q) (utf8_index_at s pool q) _ (utf8-holds q)
      (λ i a h. cond-holds (NamedAt q) method _ _
      (any-holds (NamedAt q) (method_type_at (λ x. 0) (text pool i) q) _ (λ m e. cond-holds (NamedAt q) (ltb max_parameters (slots s pool access m.params)) _ _ tt
      (cond-holds (NamedAt q) (is_init name) _ _ (cond-holds (NamedAt q) (eqb (length m.results) 0) _ _ (is_text q i a h) tt) (is_text q i a h))))
      (any-holds (NamedAt q) (field_type_at (λ x. 0) (text pool i) q) _ (λ d e. is_text q i a h)))

  member_same : (q access a : ℕ) (name : Text) (b : ℕ) (descriptor : Text) (body : Found Body) → access ≡ u2_at s q → a ≡ q + 2 → name ≡ text pool (u2_at s a) → b ≡ a + 2
      → descriptor ≡ text pool (u2_at s b) → record { start = q; access = access; name = name; descriptor = descriptor; body = body } ≡ member_of s pool q body
  unfolding member_of
  member_same q access a name b descriptor body h k l m n =
      let z : b ≡ q + 4 = omega arith in
      rw (h, l, k, n, z)

  member-by : (method : Bool) (q : ℕ) → member_at s pool method q ≡ member_by s pool method q
  unfolding member_at member_by access_at access_by
  member-by method q =
      same_then (IsU2 s (length s) q) (access_at s pool method q) _ _ (access-holds method q)
      (λ access a h. same_then (NamedAt a) (name_at s pool method access q a) _ _ (name-holds method access q a)
      (λ name b k. same_then (NamedAt b) (descriptor_at s pool method access name b) _ _ (descriptor-holds method access name b)
      (λ descriptor c l. any-then (attributes_at s pool method c) _ _
      (λ body e. ap (λ (m : Member). ok m e) (member_same q access a name b descriptor body h.0 h.1 k.0 k.1 l.0)))))

  pub member_via : (r : Res Member) (method : Bool) (q : ℕ) → r ≡ member_by s pool method q → r ≡ member_at s pool method q
  member_via r method q h = h ∙ sym (member-by method q)

  -- the attributes' answer, as the member's
  pub member_last : {T : Type 0} (q : ℕ) (x : Res (Found Body)) (F : T → Found Body) (r : Result (Got T) Fault) → res_as F r ≡ x
      → res_as (λ c. member_of s pool q (F c)) r ≡ and_then x λ body e. ok (member_of s pool q body) e
  unfolding and_then
  member_last q x F (Ok g) h = rw (← h)
  member_last q x F (Err e) h = rw (← h)

-- ---- for the code: without a sum that could wrap
module _ (access n : ℕ) where
  pub many-static : access ≡ 9 → ltb 16 n ≡ too_many access n
  unfolding too_many
  many-static e = let z : n ≡ n + 0 = omega arith in rw (eq-eqb access 9 e) (ap (ltb 16) z)

  pub many-received : (access ≡ 9 → ⊥) → ltb 15 n ≡ too_many access n
  unfolding too_many
  many-received e = rw (ne_eqb access 9 e) (by (ltb 15 n) refl)
    where
      by : (t : Bool) → ltb 15 n ≡ t → t ≡ ltb 16 (n + 1)
      by true h = let l : 15 < n = ltb-true 15 n h in sym (lt-ltb 16 (n + 1) (omega arith))
      by false h = let l : n ≤ 15 = ltb-false 15 n h in sym (le-ltb 16 (n + 1) (omega arith))
