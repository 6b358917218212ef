-- Supers as numbers and chains of parents, as the code follows them. Assumes nothing.
use Rattle.std.specs.Prelude.{Option, Some, None, IfSome, unwrap_or, ℕ, zero, suc, ◌+◌, ◌-◌, ◌*◌, ◌<◌, ◌≤◌, ◌≡◌, refl, Bool, true, cond, ltb, eqb, length, get_or, take, drop}
use Rattle.std.proofs.Common.{◌∙◌, sym, ap, List, [], ◌∷◌, ◌++◌, arith, eq-eqb, ne_eqb}
use Rattle.kit.specs.Lists.{get_d_append_right}
use Rattle.kit.specs.Words.{word}
use Rattle.texts.specs.Reading.{u2_at}
use Rattle.texts.specs.Names.{Text}
use Rattle.classfiles.specs.Pool.{class_text}
use Rattle.classfiles.specs.Bundle.{ClassFile, Super, zero', named}
use Rattle.reader.specs.BuiltIns.{built_ins, first_class}
use Rattle.reader.specs.Program.{Program, Class, no_class, class, number_in, class_names, parent_number, class_of, classes_from, built_ins_from, program_of, up_to}
use Rattle.classfiles.specs.Blocks.{block_size, this_word, pool_of, super_in, class_in, classes_in}
use Rattle.classfiles.specs.BlockWords.{length-listed}
use Rattle.reader.specs.Numbers.{class_at, listed_at}

-- the number that a super has, `none` where there is no super
abbrev pub super_or : (Text → ℕ) → ℕ → Super → ℕ
super_or number none zero' = none
super_or number none (named t) = number t

module _ (s t : List ℕ) (n : ℕ) where
  abbrev pub number_of : Text → ℕ
  number_of x = number_in (class_names (classes_in s t n)) x

  unfoldable pub super_as : ℕ → ℕ → ℕ
  super_as none c = super_or number_of none (class_at s t c).super

  -- the tests of class c
  unfoldable pub unique_at : ℕ → Bool
  unique_at c = eqb (number_of (class_at s t c).name) (first_class + c)

  unfoldable pub known_at : ℕ → Bool
  known_at c = ltb (super_as 27 c) (first_class + n)

unfoldable pub built_in_parent : ℕ → ℕ
built_in_parent c = cond (ltb c 2) 0 (cond (eqb c 2) 1 (cond (eqb c 3) 2 (cond (eqb c 8) 7 3)))

-- whether 0 is reached from c by at most n parents, which stand in u, a word a class
unfoldable pub reach_in : List ℕ → ℕ → ℕ → Bool
reach_in u zero c = eqb c 0
reach_in u (suc n) c = cond (eqb c 0) true (reach_in u n (word u c))

unfoldable pub rooted_at : List ℕ → ℕ → ℕ → Bool
rooted_at u n c = reach_in u (first_class + n) (first_class + c)

-- ---- laws
pub unique_as : (s t : List ℕ) (n c r : ℕ) (p : Text) → p ≡ (class_at s t c).name
    → r ≡ number_of s t n p → eqb r (11 + c) ≡ unique_at s t n c
unfolding unique_at
unique_as s t n c r p h e =
    ap (λ (k : ℕ). eqb k (11 + c)) (e ∙ ap (number_of s t n) h)

-- a super as its block has it
module _ (s t : List ℕ) (n none c i : ℕ) (h : i ≡ u2_at s (word (take block_size (drop (block_size * c) t)) this_word + 2)) where
  pub no_super : i ≡ 0 → none ≡ super_as s t n none c
  unfolding super_as class_in super_in
  no_super z = rw (← h, z)

  pub a_super : (i ≡ 0 → ⊥) → (r : ℕ) (p : Text) → p ≡ class_text (pool_of s (take block_size (drop (block_size * c) t))) i
      → r ≡ number_of s t n p → r ≡ super_as s t n none c
  unfolding super_as class_in super_in
  a_super z r p x e =
      rw (← h, ne_eqb i 0 z)
      (e ∙ ap (number_of s t n) x)

pub or_object : (o : Option ℕ) → IfSome o (λ k. k ≤ 27) → unwrap_or o 0 ≤ 27
or_object (Some k) h = h
or_object None h = omega arith

-- parents of the program's classes
pub counted : (s t : List ℕ) (n : ℕ) → length (classes_in s t n) ≡ n
unfolding classes_in
counted s t n = length-listed (λ i. class_at s t i) n

pub there : (s t : List ℕ) (n i : ℕ) (d : ClassFile) → i < n → get_or (classes_in s t n) i d ≡ class_at s t i
unfolding classes_in
there s t n i d h = listed_at (λ i. class_at s t i) n i d h

built_in_at : (xs : List Class) (c : ℕ) → c < 11 → built_in_parent c ≡ (get_or (built_ins_from 0 built_ins ++ xs) c no_class).parent
unfolding built_in_parent built_ins_from built_ins
built_in_at xs zero h = refl
built_in_at xs (suc zero) h = refl
built_in_at xs (suc (suc zero)) h = refl
built_in_at xs (suc (suc (suc zero))) h = refl
built_in_at xs (suc (suc (suc (suc zero)))) h = refl
built_in_at xs (suc (suc (suc (suc (suc zero))))) h = refl
built_in_at xs (suc (suc (suc (suc (suc (suc zero)))))) h = refl
built_in_at xs (suc (suc (suc (suc (suc (suc (suc zero))))))) h = refl
built_in_at xs (suc (suc (suc (suc (suc (suc (suc (suc zero)))))))) h = refl
built_in_at xs (suc (suc (suc (suc (suc (suc (suc (suc (suc zero))))))))) h = refl
built_in_at xs (suc (suc (suc (suc (suc (suc (suc (suc (suc (suc zero)))))))))) h = refl
built_in_at xs (suc (suc (suc (suc (suc (suc (suc (suc (suc (suc (suc c))))))))))) h = absurd (omega arith)

pub parent_low : (fs : List ClassFile) (c r : ℕ) → r ≡ built_in_parent c → c < 11 → r ≡ (class (program_of fs) c).parent
unfolding program_of
parent_low fs c r e h = e ∙ built_in_at (classes_from (number_in (class_names fs)) first_class fs) c h

from_at : (number : Text → ℕ) (k : ℕ) (fs : List ClassFile) (i : ℕ) (d : ClassFile) → i < length fs
    → (get_or (classes_from number k fs) i no_class).parent ≡ parent_number number (get_or fs i d).super
unfolding classes_from class_of
from_at number k [] i d h = absurd (omega arith)
from_at number k (f ∷ fs) zero d h = refl
from_at number k (f ∷ fs) (suc i) d h = from_at number (suc k) fs i d (omega arith)

or-zero : (number : Text → ℕ) (x : Super) → super_or number 0 x ≡ parent_number number x
or-zero number zero' = refl
or-zero number (named t) = refl

pub parent_high : (s t : List ℕ) (n c r : ℕ) → r ≡ super_as s t n 0 (c - 11) → 11 ≤ c → c < first_class + n → r ≡ (class (program_of (classes_in s t n)) c).parent
unfolding program_of super_as built_ins_from built_ins
parent_high s t n c r e l h =
    let len : length (classes_in s t n) ≡ n = count in
    e ∙ or-zero (number_of s t n) (class_at s t (c - 11)).super
    ∙ ap (λ (f : ClassFile). parent_number (number_of s t n) f.super) (sym at)
    ∙ sym (from_at (number_of s t n) first_class (classes_in s t n) (c - 11) (class_at s t (c - 11)) (omega arith))
    ∙ ap (λ (k : Class). k.parent) (sym (get_d_append_right (built_ins_from 0 built_ins) (classes_from (number_of s t n) first_class (classes_in s t n)) c no_class l))
  where
    count : length (classes_in s t n) ≡ n
    count = counted s t n

    at : get_or (classes_in s t n) (c - 11) (class_at s t (c - 11)) ≡ class_at s t (c - 11)
    at = there s t n (c - 11) (class_at s t (c - 11)) (omega arith)

-- ---- a chain, as a loop follows it
one_less : (n : ℕ) → 0 < n → n ≡ suc (n - 1)
one_less n h = omega arith

less_one : (k : ℕ) → suc k - 1 ≡ k
less_one k = omega arith

module _ (u : List ℕ) (left c : ℕ) (x : Bool) (i : reach_in u left c ≡ x) where
  pub reach_done : left ≤ 0 → eqb c 0 ≡ x
  unfolding reach_in
  reach_done h = let z : left ≡ 0 = omega arith in sym (rw z) ∙ i

  pub reach_yes : 0 < left → c ≡ 0 → true ≡ x
  unfolding reach_in
  reach_yes h e = sym (rw (one_less left h) (simp (reach_in, eq-eqb c 0 e))) ∙ i

  pub reach_up : 0 < left → (c ≡ 0 → ⊥) → (k : ℕ) → k ≡ word u c → reach_in u (left - 1) k ≡ x
  unfolding reach_in
  reach_up h e k y = sym (rw (one_less left h) (simp (reach_in, less_one, ne_eqb c 0 e) (ap (reach_in u (left - 1)) (sym y)))) ∙ i

-- the parents of P in u
pub reach_is : (P : Program) (u : List ℕ) → ((c : ℕ) → word u c ≡ (class P c).parent) → (n c : ℕ) → reach_in u n c ≡ up_to P n c 0
unfolding reach_in up_to
reach_is P u h zero c = refl
reach_is P u h (suc n) c = ap (λ (b : Bool). cond (eqb c 0) true b) (ap (reach_in u n) (h c) ∙ reach_is P u h n (class P c).parent)
