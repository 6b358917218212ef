-- A pool entry asked by its tag: what x is where the tag k stands, at q. Assumes nothing.
use Rattle.std.specs.Prelude.{ℕ, ◌+◌, ◌/◌, ◌^◌, ◌<◌, ◌≤◌, ◌≡◌, List, Bool, cond, eqb, get_or}
use Rattle.std.proofs.Common.{◌∙◌, ⊎_elim, refl, sym, ap, true, false, arith, length, ne_eqb, eqb-true}
use Rattle.std.proofs.Math.ListN.{get_or-eq_default}
use Rattle.std.proofs.lemmas.Bool.{eqb-false}
use Rattle.kit.specs.Pick.{side}
use Rattle.kit.specs.Words.{word}
use Rattle.texts.specs.Reading.{u2_at, u4_at, part}
use Rattle.classfiles.specs.Pool.{Constant, absent, utf8, integer, class_at, fieldref, methodref, name_and_type, constant_at, entry, is_utf8, is_class, is_name_and_type, text_of, text, name_index}
use Rattle.classfiles.specs.Table.{pool_in, entry_none, entry_past, entry_in_lem}

-- past every byte stands no entry
module _ (t : List ℕ) (i : ℕ) (s : List ℕ) (h : length s < 2 ^ 64) where
  past : constant_at s 18446744073709551615 ≡ absent
  unfolding constant_at
  past =
      let l : length s ≤ 18446744073709551615 = omega arith in
      rw (get_or-eq_default s 0 l)

  pub place_none : i ≡ 0 → constant_at s 18446744073709551615 ≡ entry (pool_in s t) i
  place_none e = past ∙ entry_none s t i e

  pub place_past : length t / 4 ≤ i → constant_at s 18446744073709551615 ≡ entry (pool_in s t) i
  place_past l = past ∙ entry_past s t i l

pub place_in : (t : List ℕ) (i w : ℕ) → (i ≡ 0 → ⊥) → i < length t / 4 → w ≡ word t i → (s : List ℕ) → length s < 2 ^ 64 → constant_at s w ≡ entry (pool_in s t) i
place_in t i w n l e s h = entry_in_lem s t i (constant_at s w) w n l refl e

-- a tag other than 0 stands within the bytes
pub tag_there : (s : List ℕ) (q k : ℕ) → k ≡ get_or s q 0 → 0 < k → q < length s
tag_there s q k e h =
    ⊎_elim (λ l. l) (λ l. let z : get_or s q 0 ≡ 0 = get_or-eq_default s 0 l in absurd (omega arith)) (side q (length s))

module _ (s : List ℕ) (q : ℕ) (x : Constant) (k : ℕ) (p : constant_at s q ≡ x) (e : k ≡ get_or s q 0) where
  module _ (a : ℕ) where
    pub at_utf8 : k ≡ 1 → a ≡ u2_at s (q + 1) → x ≡ utf8 (part s (q + 3) a)
    unfolding constant_at
    at_utf8 t h = sym p ∙ rw (← e, t, h)

    pub at_class : k ≡ 7 → a ≡ u2_at s (q + 1) → x ≡ class_at a
    unfolding constant_at
    at_class t h = sym p ∙ rw (← e, t, h)

    pub at_name : k ≡ 7 → a ≡ u2_at s (q + 1) → name_index x ≡ a
    at_name t h = ap name_index (at_class t h)

    module _ (b : ℕ) where
      pub at_field : k ≡ 9 → a ≡ u2_at s (q + 1) → b ≡ u2_at s (q + 3) → x ≡ fieldref a b
      unfolding constant_at
      at_field t h g = sym p ∙ rw (← e, t, h, g)

      pub at_method : k ≡ 10 → a ≡ u2_at s (q + 1) → b ≡ u2_at s (q + 3) → x ≡ methodref a b
      unfolding constant_at
      at_method t h g = sym p ∙ rw (← e, t, h, g)

      pub at_pair : k ≡ 12 → a ≡ u2_at s (q + 1) → b ≡ u2_at s (q + 3) → x ≡ name_and_type a b
      unfolding constant_at
      at_pair t h g = sym p ∙ rw (← e, t, h, g)

  pub no_utf8 : (k ≡ 1 → ⊥) → false ≡ is_utf8 x
  unfolding constant_at
  no_utf8 n = (rw (← e, ne_eqb k 1 n) (go (eqb k 3) (eqb k 7) (eqb k 9) (eqb k 10) (eqb k 12))) ∙ ap is_utf8 p
    where
      go : (b c d f g : Bool) → false ≡ is_utf8 (cond b (integer (u4_at s (q + 1))) (cond c (class_at (u2_at s (q + 1))) (cond d (fieldref (u2_at s (q + 1)) (u2_at s (q + 3))) (cond f (methodref (u2_at s (q + 1)) (u2_at s (q + 3))) (cond g (name_and_type (u2_at s (q + 1)) (u2_at s (q + 3))) absent)))))
      go true c d f g = refl
      go false true d f g = refl
      go false false true f g = refl
      go false false false true g = refl
      go false false false false true = refl
      go false false false false false = refl

  pub no-class : (k ≡ 7 → ⊥) → false ≡ is_class x
  unfolding constant_at
  no-class n = (rw (← e, ne_eqb k 7 n) (go (eqb k 1) (eqb k 3) (eqb k 9) (eqb k 10) (eqb k 12))) ∙ ap is_class p
    where
      go : (a b d f g : Bool) → false ≡ is_class (cond a (utf8 (part s (q + 3) (u2_at s (q + 1)))) (cond b (integer (u4_at s (q + 1))) (cond d (fieldref (u2_at s (q + 1)) (u2_at s (q + 3))) (cond f (methodref (u2_at s (q + 1)) (u2_at s (q + 3))) (cond g (name_and_type (u2_at s (q + 1)) (u2_at s (q + 3))) absent)))))
      go true b d f g = refl
      go false true d f g = refl
      go false false true f g = refl
      go false false false true g = refl
      go false false false false true = refl
      go false false false false false = refl

  pub no_pair : (k ≡ 12 → ⊥) → false ≡ is_name_and_type x
  unfolding constant_at
  no_pair n = (rw (← e, ne_eqb k 12 n) (go (eqb k 1) (eqb k 3) (eqb k 7) (eqb k 9) (eqb k 10))) ∙ ap is_name_and_type p
    where
      go : (a b c d f : Bool) → false ≡ is_name_and_type (cond a (utf8 (part s (q + 3) (u2_at s (q + 1)))) (cond b (integer (u4_at s (q + 1))) (cond c (class_at (u2_at s (q + 1))) (cond d (fieldref (u2_at s (q + 1)) (u2_at s (q + 3))) (cond f (methodref (u2_at s (q + 1)) (u2_at s (q + 3))) absent)))))
      go true b c d f = refl
      go false true c d f = refl
      go false false true d f = refl
      go false false false true f = refl
      go false false false false true = refl
      go false false false false false = refl

  -- the kinds as tests of the tag
  pub utf8_test : eqb k 1 ≡ is_utf8 x
  utf8_test = by (eqb k 1) refl
    where
      by : (b : Bool) → eqb k 1 ≡ b → b ≡ is_utf8 x
      by true t = sym (ap is_utf8 (at_utf8 (u2_at s (q + 1)) (eqb-true k 1 t) refl))
      by false t = no_utf8 (eqb-false k 1 t)

  pub class_test : eqb k 7 ≡ is_class x
  class_test = by (eqb k 7) refl
    where
      by : (b : Bool) → eqb k 7 ≡ b → b ≡ is_class x
      by true t = sym (ap is_class (at_class (u2_at s (q + 1)) (eqb-true k 7 t) refl))
      by false t = no-class (eqb-false k 7 t)

  pub pair_test : eqb k 12 ≡ is_name_and_type x
  pair_test = by (eqb k 12) refl
    where
      by : (b : Bool) → eqb k 12 ≡ b → b ≡ is_name_and_type x
      by true t = sym (ap is_name_and_type (at_pair (u2_at s (q + 1)) (u2_at s (q + 3)) (eqb-true k 12 t) refl refl))
      by false t = no_pair (eqb-false k 12 t)

-- the text of a Utf8
pub text_some : (s : List ℕ) (pool : List Constant) (i q k a : ℕ) → constant_at s q ≡ entry pool i → k ≡ get_or s q 0 → k ≡ 1 → a ≡ u2_at s (q + 1)
    → part s (q + 3) a ≡ text pool i
unfolding text
text_some s pool i q k a p e t h = sym (ap text_of (at_utf8 s q (entry pool i) k p e a t h))
