-- Phase B's rulings on classes, as the code finds them: the first class whose test fails. Assumes nothing.
use Rattle.std.specs.Prelude.{Result, Ok, Err, OnOk, IsErrAnd, ◌≡◌, Bool, true, false, cond, ◌⊎◌, ltb, length, get_or, take, drop}
use Rattle.std.proofs.Common.{subst, ◌∙◌, inl, inr, zero-add, length-append, length-take, lt-ltb, le-ltb, take-take, ℕ, suc, ◌+◌, ◌-◌, ◌*◌, ◌^◌, ◌<◌, ◌≤◌, refl, sym, ap, List, [], ◌∷◌, ◌++◌, map, arith}
use Rattle.std.proofs.Math.ListN.{get_or-eq_default}
use Rattle.kit.specs.Lists.{drop-take}
use Rattle.kit.specs.Claims.{Claim, claim, pass, fail, verdict, then, pass_then, fail_then}
use Rattle.kit.specs.Pick.{side}
use Rattle.kit.specs.Scan.{first_not}
use Rattle.texts.specs.Faults.{number}
use Rattle.texts.specs.declared.faults.Refusal as faults
use Rattle.texts.specs.declared.faults.Refusal.TheVariants.{Twice, Missing}
use Rattle.kit.specs.Words.{word, put_word, word-part, word_out, word_same, word_other, word-take}
use Rattle.reader.specs.Verdicts.{fault, Refusal, in_class, Verdict, each}
use Rattle.classfiles.specs.Bundle.{ClassFile, Super, zero', named}
use Rattle.reader.specs.BuiltIns.{BuiltIn, built_ins, first_class, object}
use Rattle.reader.specs.Program.{Program, Class, no_class, class, class_names, number_in, classes_from, built_ins_from, program_of, up_to, below}
use Rattle.reader.specs.Link.{unique_class, super_known, super_claims, chain_claims}
use Rattle.classfiles.specs.Blocks.{block_size, start_word, class_in, classes_in}
use Rattle.classfiles.specs.BlockWords.{take_put, listed_same}
use Rattle.reader.specs.Numbers.{class_at}
use Rattle.reader.specs.Chains.{super_or, super_as, unique_at, known_at, rooted_at, reach_is, counted, there}
use Rattle.reader.specs.declared.link.Refused.{Refused}

-- behind 16 blocks: a word a class, the built-in ones first
abbrev pub parents_at : ℕ
parents_at = 102912

abbrev pub parents_word : ℕ
parents_word = 25728

abbrev pub parents_end : ℕ
parents_end = 103020

-- the class files of the blocks
abbrev pub files_in : List ℕ → ℕ → List ℕ → List ClassFile
files_in s n t = classes_in s (take parents_at t) n

pub record Parents (s : List ℕ) (n : ℕ) (t : List ℕ) : Type 0 where
  pub at : (c : ℕ) → c < first_class + n → word t (parents_word + c) ≡ (class (program_of (files_in s n t)) c).parent

-- what the code's answer says
abbrev pub refused_as : Refused → Refusal
refused_as e = in_class e.class (fault (number e.refusal) e.place)

abbrev pub ruling_of : Result (Unit {0}) Refused → Verdict
ruling_of (Ok u) = pass
ruling_of (Err e) = fail (refused_as e)

pub on_ok : {A E P Q : Type 0} (r : Result A E) → (P → Q) → OnOk r P → OnOk r Q
on_ok (Ok u) f h = f h
on_ok (Err e) f h = tt

-- what `?` hands on
pub handed_on : {A E : Type 0} (r : Result A E) (e : E) → IsErrAnd r (λ z. z ≡ e) → r ≡ Err e
handed_on (Ok u) e h = absurd h
handed_on (Err z) e h = ap Err h

-- names, supers, chains
unfoldable pub class_ruling : List ClassFile → Verdict
class_ruling fs =
    then (verdict (each (unique_class fs) 0 fs)) (then (verdict (each (super_claims fs) 0 fs)) (verdict (each (chain_claims (program_of fs)) 0 fs)))

pub record ClassesLinked (s : List ℕ) (n : ℕ) (r : Result (Unit {0}) Refused) (t u : List ℕ) : Type 0 where
  pub is : ruling_of r ≡ class_ruling (files_in s n t)
  pub blocks : take parents_at u ≡ take parents_at t
  pub parents : OnOk r (Parents s n u)

-- ---- the first of a list of tests that fails
module _ {A K : Type 0} (d : A) (c : ℕ → A → List (Claim K)) (lab : ℕ → K) (test : ℕ → Bool) where
  each_first : (fs : List A) (k : ℕ) → ((i : ℕ) → i < length fs → c (k + i) (get_or fs i d) ≡ claim (lab (k + i)) (test (k + i)) ∷ [])
      → verdict (each c k fs) ≡ cond (ltb (first_not test (length fs) k) (k + length fs)) (fail (lab (first_not test (length fs) k))) pass
  unfolding each first_not verdict
  each_first [] k h = let z : k + 0 ≤ k = omega arith in rw (le-ltb k (k + 0) z)
  each_first (f ∷ fs) k h =
      go (test k) refl (each_first fs (suc k) (λ i l. next i (h (suc i) (omega arith))))
    where
      next : (i : ℕ) → c (k + suc i) (get_or fs i d) ≡ claim (lab (k + suc i)) (test (k + suc i)) ∷ [] → c (suc k + i) (get_or fs i d) ≡ claim (lab (suc k + i)) (test (suc k + i)) ∷ []
      next i e = let z : suc k + i ≡ k + suc i = omega arith in rw z e

      here : c k f ≡ claim (lab k) (test k) ∷ []
      here = let z : k + 0 ≡ k = omega arith in subst (λ (m : ℕ). c m f ≡ claim (lab m) (test m) ∷ []) z (h 0 (omega arith))

      go : (b : Bool) → test k ≡ b
          → verdict (each c (suc k) fs) ≡ cond (ltb (first_not test (length fs) (suc k)) (suc k + length fs)) (fail (lab (first_not test (length fs) (suc k)))) pass
          → verdict (c k f ++ each c (suc k) fs) ≡ cond (ltb (cond (test k) (first_not test (length fs) (suc k)) k) (k + suc (length fs))) (fail (lab (cond (test k) (first_not test (length fs) (suc k)) k))) pass
      go true e r = let z : k + suc (length fs) ≡ suc k + length fs = omega arith in rw (here, e, z) r
      go false e r = let z : k < k + suc (length fs) = omega arith in rw (here, e, lt-ltb k (k + suc (length fs)) z)

  module _ (fs : List A) (n : ℕ) (l : length fs ≡ n) (h : (i : ℕ) → i < n → c i (get_or fs i d) ≡ claim (lab i) (test i) ∷ []) (k : ℕ) (e : k ≡ first_not test n 0) where
    ruled : verdict (each c 0 fs) ≡ cond (ltb k n) (fail (lab k)) pass
    ruled =
        each_first fs 0 (λ i g. let z : i < n = omega (arith, l) in subst (λ (m : ℕ). c m (get_or fs i d) ≡ claim (lab m) (test m) ∷ []) (sym (zero-add i)) (h i z))
        ∙ (let z : 0 + length fs ≡ n = zero-add (length fs) ∙ l in rw (z, l, ← e))

    pub ruled_fail : k < n → verdict (each c 0 fs) ≡ fail (lab k)
    ruled_fail g = ruled ∙ rw (lt-ltb k n g)

    pub ruled_pass : n ≤ k → verdict (each c 0 fs) ≡ pass
    ruled_pass g = ruled ∙ rw (le-ltb k n g)

-- ---- lengths
length_from : (number : List ℕ → ℕ) (k : ℕ) (fs : List ClassFile) → length (classes_from number k fs) ≡ length fs
unfolding classes_from
length_from number k [] = refl
length_from number k (f ∷ fs) = ap suc (length_from number (suc k) fs)

pub length-program : (fs : List ClassFile) → length (program_of fs).classes ≡ first_class + length fs
unfolding program_of built_ins_from built_ins
length-program fs =
    length-append (built_ins_from 0 built_ins) (classes_from (number_in (class_names fs)) first_class fs)
    ∙ ap (λ (m : ℕ). first_class + m) (length_from (number_in (class_names fs)) first_class fs)

length-named : (fs : List ClassFile) → length (map (λ (f : ClassFile). f.name) fs) ≡ length fs
length-named [] = refl
length-named (f ∷ fs) = ap suc (length-named fs)

length-names : (fs : List ClassFile) → length (class_names fs) ≡ first_class + length fs
unfolding class_names built_ins
length-names fs = length-append (map (λ (b : BuiltIn). b.name) built_ins) (map (λ (f : ClassFile). f.name) fs) ∙ ap (λ (m : ℕ). first_class + m) (length-named fs)

-- ---- the tests of class i, and where it starts
module _ (s : List ℕ) (n : ℕ) (t : List ℕ) (m : n ≤ 16) where
  abbrev T : List ℕ
  T = take parents_at t

  abbrev placed : ℕ → ℕ → Refusal
  placed k i = in_class i (fault k (class_at s T i).start)

  nth : (i : ℕ) → i < n → get_or (files_in s n t) i (class_at s T i) ≡ class_at s T i
  nth i h = there s T n i (class_at s T i) h

  known_as : (x : Super) → super_known (files_in s n t) x ≡ ltb (super_or (number_in (class_names (files_in s n t))) 27 x) (first_class + n)
  known_as zero' = sym (le-ltb 27 (first_class + n) (omega arith))
  known_as (named y) = ap (ltb (number_in (class_names (files_in s n t)) y)) (length-names (files_in s n t) ∙ ap (λ (k : ℕ). first_class + k) (counted s T n))

  module _ (d : ClassFile) where
    at : (i : ℕ) → i < n → get_or (files_in s n t) i d ≡ class_at s T i
    at i h = there s T n i d h

    unique_claim : (i : ℕ) → i < n → unique_class (files_in s n t) i (get_or (files_in s n t) i d) ≡ claim (placed 8 i) (unique_at s T n i) ∷ []
    unfolding unique_class unique_at
    unique_claim i h = ap (unique_class (files_in s n t) i) (at i h)

    super_claim : (i : ℕ) → i < n → super_claims (files_in s n t) i (get_or (files_in s n t) i d) ≡ claim (placed 9 i) (known_at s T n i) ∷ []
    unfolding super_claims known_at super_as
    super_claim i h =
        ap (super_claims (files_in s n t) i) (at i h) ∙ ap (λ (b : Bool). claim (placed 9 i) b ∷ []) (known_as (class_at s T i).super)

    chain_claim : (u : List ℕ) → ((c : ℕ) → word u c ≡ (class (program_of (files_in s n t)) c).parent) → (i : ℕ) → i < n
        → chain_claims (program_of (files_in s n t)) i (get_or (files_in s n t) i d) ≡ claim (placed 9 i) (rooted_at u n i) ∷ []
    unfolding chain_claims below rooted_at
    chain_claim u p i h =
        ap (chain_claims (program_of (files_in s n t)) i) (at i h)
        ∙ ap (λ (b : Bool). claim (placed 9 i) b ∷ [])
        (ap (λ (k : ℕ). up_to (program_of (files_in s n t)) k (first_class + i) object) (length-program (files_in s n t) ∙ ap (λ (k : ℕ). first_class + k) (counted s T n))
        ∙ sym (reach_is (program_of (files_in s n t)) u p (first_class + n) (first_class + i)))

  start_as : (i : ℕ) → i < 16 → word t (1608 * i + start_word) ≡ (class_at s T i).start
  unfolding class_in
  start_as i h =
      let z : 4 * (1608 * i) ≡ block_size * i = omega arith in
      sym (word-take parents_at t (1608 * i + start_word) (omega arith))
      ∙ sym (word-part (1608 * i) block_size T start_word (omega arith))
      ∙ ap (λ (k : ℕ). word (take block_size (drop k T)) start_word) z

  refused_at : (k : faults.Refusal) (i : ℕ) (u : List ℕ) (r : Refused) → i < 16 → take parents_at u ≡ T → (r.refusal ≡ k) × (r.class ≡ i) × (r.place ≡ word u (1608 * i + start_word))
      → fail (refused_as r) ≡ fail (placed (number k) i)
  refused_at k i u r h e f =
      let p : r.place ≡ (class_at s T i).start = f.2 ∙ sym (word-take parents_at u (1608 * i + start_word) (omega arith)) ∙ ap (λ (l : List ℕ). word l (1608 * i + start_word)) e ∙ word-take parents_at t (1608 * i + start_word) (omega arith) ∙ start_as i h in
      rw (f.0, f.1, p)

-- ---- the parents' words
-- one more of them
pub parents_more : (P : Program) (t u : List ℕ) (c p : ℕ) → ((j : ℕ) → j < c → word t (parents_word + j) ≡ (class P j).parent) → u ≡ put_word t (parents_word + c) p → p ≡ (class P c).parent
    → p < 2 ^ 32 → 4 * (parents_word + c) + 4 ≤ length t → (j : ℕ) → j < c + 1 → word u (parents_word + j) ≡ (class P j).parent
parents_more P t u c p h e q b l j g = go (side j c)
  where
    go : (j < c) ⊎ (c ≤ j) → word u (parents_word + j) ≡ (class P j).parent
    go (inl x) =
        ap (λ (z : List ℕ). word z (parents_word + j)) e ∙ word_other t (parents_word + c) p (parents_word + j) (λ z. omega arith) ∙ h j x
    go (inr x) =
        let y : c ≡ j = omega arith in
        ap (λ (z : List ℕ). word z (parents_word + j)) e ∙ ap (λ (k : ℕ). word (put_word t (parents_word + c) p) (parents_word + k)) (sym y)
        ∙ word_same t (parents_word + c) p (omega arith) b ∙ q ∙ ap (λ (k : ℕ). (class P k).parent) y

-- the part that is lent has them all, and 0 past them
module _ (s : List ℕ) (n : ℕ) (t : List ℕ) (h : Parents s n t) (l : parents_end ≤ length t) (m : n ≤ 16) where
  abbrev U : List ℕ
  U = take (parents_at + 4 * (first_class + n) - parents_at) (drop parents_at t)

  table-word : (c : ℕ) → word U c ≡ (class (program_of (files_in s n t)) c).parent
  table-word c = go (side c (first_class + n))
    where
      count : length (program_of (files_in s n t)).classes ≡ first_class + n
      count = length-program (files_in s n t) ∙ ap (λ (k : ℕ). first_class + k) (counted s (take parents_at t) n)

      go : (c < first_class + n) ⊎ (first_class + n ≤ c) → word U c ≡ (class (program_of (files_in s n t)) c).parent
      go (inl x) = word-part parents_word (parents_at + 4 * (first_class + n) - parents_at) t c (omega arith) ∙ h.at c x
      go (inr x) =
          word_out U c (omega (arith, length-take (parents_at + 4 * (first_class + n) - parents_at) (drop parents_at t)))
          ∙ ap (λ (k : Class). k.parent) (sym (get_or-eq_default (program_of (files_in s n t)).classes no_class (rw count x)))

-- ---- the three steps; d is any class file
pub any_class : ClassFile
any_class = record { start = 0; pool = []; name = []; super = zero'; fields = []; methods = [] }

module _ (s : List ℕ) (n : ℕ) (t : List ℕ) (m : n ≤ 16) (i : ℕ) (ei : i ≡ first_not (unique_at s (take parents_at t) n) n 0) where
  abbrev T₀ : List ℕ
  T₀ = take parents_at t

  pub linked_double : i < n → (r : Refused) → (r.refusal ≡ Twice) × (r.class ≡ i) × (r.place ≡ word t (1608 * i + start_word)) → ClassesLinked s n (Err r) t t
  unfolding class_ruling
  linked_double h r f = record {
    is =
        refused_at s n t m Twice i t r (omega arith) refl f
        ∙ sym (fail_then _ _ _ (ruled_fail any_class (unique_class (files_in s n t)) (placed s n t m 8) (unique_at s T₀ n) (files_in s n t) n (counted s T₀ n) (unique_claim s n t m any_class) i ei h));
    blocks = refl;
    parents = tt;
  }

  module _ (hi : n ≤ i) (j : ℕ) (ej : j ≡ first_not (known_at s T₀ n) n 0) where
    names_pass : verdict (each (unique_class (files_in s n t)) 0 (files_in s n t)) ≡ pass
    names_pass = ruled_pass any_class (unique_class (files_in s n t)) (placed s n t m 8) (unique_at s T₀ n) (files_in s n t) n (counted s T₀ n) (unique_claim s n t m any_class) i ei hi

    pub linked_unknown : j < n → (r : Refused) → (r.refusal ≡ Missing) × (r.class ≡ j) × (r.place ≡ word t (1608 * j + start_word)) → ClassesLinked s n (Err r) t t
    unfolding class_ruling
    linked_unknown h r f = record {
      is =
          refused_at s n t m Missing j t r (omega arith) refl f
          ∙ sym (pass_then _ _ names_pass
          ∙ fail_then _ _ _ (ruled_fail any_class (super_claims (files_in s n t)) (placed s n t m 9) (known_at s T₀ n) (files_in s n t) n (counted s T₀ n) (super_claim s n t m any_class) j ej h));
      blocks = refl;
      parents = tt;
    }

    module _ (hj : n ≤ j) (u : List ℕ) (eu : take parents_at u ≡ T₀) (hu : Parents s n u) (l : parents_end ≤ length u) (k : ℕ) (ek : k ≡ first_not (rooted_at (U s n u hu l m) n) n 0) where
      supers_pass : verdict (each (super_claims (files_in s n t)) 0 (files_in s n t)) ≡ pass
      supers_pass = ruled_pass any_class (super_claims (files_in s n t)) (placed s n t m 9) (known_at s T₀ n) (files_in s n t) n (counted s T₀ n) (super_claim s n t m any_class) j ej hj

      words_are : (c : ℕ) → word (U s n u hu l m) c ≡ (class (program_of (files_in s n t)) c).parent
      words_are c = table-word s n u hu l m c ∙ ap (λ (z : List ℕ). (class (program_of (classes_in s z n)) c).parent) eu

      pub linked-cut : k < n → (r : Refused) → (r.refusal ≡ Missing) × (r.class ≡ k) × (r.place ≡ word u (1608 * k + start_word)) → ClassesLinked s n (Err r) t u
      unfolding class_ruling
      linked-cut h r f = record {
        is =
            refused_at s n t m Missing k u r (omega arith) eu f
            ∙ sym (pass_then _ _ names_pass ∙ pass_then _ _ supers_pass
            ∙ ruled_fail any_class (chain_claims (program_of (files_in s n t))) (placed s n t m 9) (rooted_at (U s n u hu l m) n) (files_in s n t) n (counted s T₀ n) (chain_claim s n t m any_class (U s n u hu l m) words_are) k ek h);
        blocks = eu;
        parents = tt;
      }

      pub linked_pass : n ≤ k → (v : Unit {0}) → ClassesLinked s n (Ok v) t u
      unfolding class_ruling
      linked_pass h v = record {
        is =
            (sym (pass_then _ _ names_pass ∙ pass_then _ _ supers_pass
            ∙ ruled_pass any_class (chain_claims (program_of (files_in s n t))) (placed s n t m 9) (rooted_at (U s n u hu l m) n) (files_in s n t) n (counted s T₀ n) (chain_claim s n t m any_class (U s n u hu l m) words_are) k ek h));
        blocks = eu;
        parents = hu;
      }

-- ---- the loop that writes the parents
pub front_length : (t : List ℕ) → parents_end ≤ length t → 16 * block_size ≤ length (take parents_at t)
front_length t h = omega (arith, length-take parents_at t)

module _ (s : List ℕ) (n : ℕ) (t₀ t : List ℕ) (e : take parents_at t ≡ take parents_at t₀) where
  pub parent_is : (c p : ℕ) → p ≡ (class (program_of (files_in s n t)) c).parent → p ≡ (class (program_of (files_in s n t₀)) c).parent
  parent_is c p h = h ∙ ap (λ (z : List ℕ). (class (program_of (classes_in s z n)) c).parent) e

  pub parents_done : (c : ℕ) → first_class + n ≤ c → ((j : ℕ) → j < c → word t (parents_word + j) ≡ (class (program_of (files_in s n t₀)) j).parent) → Parents s n t
  parents_done c l h = record { at = λ j g. h j (omega arith) ∙ sym (ap (λ (z : List ℕ). (class (program_of (classes_in s z n)) j).parent) e) }

  pub blocks_kept : (u : List ℕ) (c p : ℕ) → u ≡ put_word t (parents_word + c) p → take parents_at u ≡ take parents_at t₀
  blocks_kept u c p z = ap (take parents_at) z ∙ take_put parents_word t (parents_word + c) p (omega arith) ∙ e

pub under : (i n : ℕ) → i < n → n ≤ 16 → i < 16
under i n h l = omega arith

-- what phase A left in the whole scratch is what linking reads in its front
pub files_front : (s t : List ℕ) (n : ℕ) → n ≤ 16 → files_in s n t ≡ classes_in s t n
unfolding classes_in
files_front s t n h = listed_same (class_at s (take parents_at t)) (class_at s t) n (λ i l. ap (class_in s) (block i (omega arith)))
  where
    block : (i : ℕ) → i < 16 → take block_size (drop (block_size * i) (take parents_at t)) ≡ take block_size (drop (block_size * i) t)
    block i l =
        ap (take block_size) (drop-take (block_size * i) parents_at t) ∙ take-take block_size (parents_at - block_size * i) (drop (block_size * i) t) (omega arith)
