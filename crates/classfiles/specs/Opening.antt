-- Laws of what stands before a class's members, as the code reads it. Assumes nothing.
use Rattle.std.specs.Prelude.{ℕ, ◌+◌, ◌-◌, ◌*◌, ◌^◌, ◌<◌, ◌≤◌, ◌≡◌, refl, List, Result, Ok, Err, IsErrAnd, IfOk, length, take, drop, eqb}
use Rattle.std.proofs.Common.{sym, ap, ◌∙◌, arith, eq-eqb, ne_eqb}
use Rattle.kit.specs.Words.{word}
use Rattle.kit.specs.Pick.{if_eq, if_ne}
use Rattle.texts.specs.Reading.{Res, ok, bad, and_then, u2_at, u2}
use Rattle.texts.specs.Faults.{number}
use Rattle.texts.specs.Answers.{res, res_as, t_ok, t_bad, same_ok}
use Rattle.texts.specs.Ends.{Holds, holds_of, then-holds, cond-holds, Ends, ends_of, then_ends, IsU2, u2-holds, u2_val}
use Rattle.texts.specs.Names.{Text}
use Rattle.texts.specs.declared.faults.Got.{Got}
use Rattle.texts.specs.declared.faults.Fault.{Fault}
use Rattle.classfiles.specs.Past.{res_err, no_value}
use Rattle.classfiles.specs.Pool.{Constant, entry, is_class, is_array_name, class_text, class_index_at}
use Rattle.classfiles.specs.PoolEnds.{class-index_val, pool_ends}
use Rattle.classfiles.specs.Table.{pool_in}
use Rattle.classfiles.specs.Bundle.{named, class_access_at, this_at, super_at, interfaces_at}
use Rattle.classfiles.specs.Blocks.{block_size, put3, start_word, pool_word, this_word, pool_of, super_in, names_in, Head, head, start_at, open_at, names_at, head_at}
use Rattle.classfiles.specs.BlockWords.{put3_0, put3_1, put3_2, take-put3}

-- the last part's answer, handed on with the value that the whole stands for
pub as_value : {T A B : Type 0} (x : Res A) (g : A → B) (r : Result (Got T) Fault) (u : T → A) (v : T → B) → res_as u r ≡ x → IfOk r (λ z. v z.val ≡ g (u z.val))
    → res_as v r ≡ and_then x (λ j e. ok (g j) e)
as_value x g (Ok z) u v h k = t_ok _ x _ (u z.val) z.at h (same_ok _ _ z.at k)
as_value x g (Err f) u v h k = t_bad _ x _ (number f.0) f.1 h refl

-- this_class and super_class, whose number i the code has read up to a
module _ (s : List ℕ) (pool : List Constant) (q i a : ℕ) (hi : ok i a ≡ u2 s q) where
  pub super_none : i ≡ 0 → ok (super_in s pool q) a ≡ super_at s pool q
  unfolding super_at super_in
  super_none z =
      t_ok _ _ _ i a hi (if_eq _ _ _ i 0 z
      (same_ok _ _ a (rw (eq-eqb (u2_at s q) 0 (sym (u2_val s q i a hi).0 ∙ z)))))

  module _ (j e : ℕ) (hj : ok j e ≡ class_index_at s pool q i a) where
    named_as : class_text pool (u2_at s q) ≡ class_text pool j
    named_as = ap (class_text pool) (sym (u2_val s q i a hi).0 ∙ sym (class-index_val s pool q i a j e hj).0)

    pub this_ok : ok (class_text pool (u2_at s q)) e ≡ this_at s pool q
    unfolding this_at
    this_ok = t_ok _ _ _ i a hi (t_ok _ _ _ j e hj (same_ok _ _ e named_as))

    pub super_ok : (i ≡ 0 → ⊥) → ok (super_in s pool q) e ≡ super_at s pool q
    unfolding super_at super_in
    super_ok n =
        t_ok _ _ _ i a hi (if_ne _ _ _ i 0 n (t_ok _ _ _ j e hj
        (same_ok _ _ e (rw (ne_eqb (u2_at s q) 0 (λ z. n ((u2_val s q i a hi).0 ∙ z))) (ap named named_as)))))

  pub this_value : (r : Result (Got ℕ) Fault) → res r ≡ class_index_at s pool q i a
      → res_as (λ j. class_text pool (u2_at s q)) r ≡ and_then (class_index_at s pool q i a) (λ j e. ok (class_text pool j) e)
  this_value (Ok z) h = as_value _ (class_text pool) (Ok z) (λ j. j) (λ j. class_text pool (u2_at s q)) h (named_as z.val z.at h)
  this_value (Err f) h = as_value _ (class_text pool) (Err f) (λ j. j) (λ j. class_text pool (u2_at s q)) h tt

  pub super_value : (i ≡ 0 → ⊥) → (r : Result (Got ℕ) Fault) → res r ≡ class_index_at s pool q i a
      → res_as (λ j. super_in s pool q) r ≡ and_then (class_index_at s pool q i a) (λ j e. ok (named (class_text pool j)) e)
  unfolding super_in
  super_value n (Ok z) h =
      let k : super_in s pool q ≡ named (class_text pool z.val) = rw (ne_eqb (u2_at s q) 0 (λ e. n ((u2_val s q i a hi).0 ∙ e))) (ap named (named_as z.val z.at h)) in
      as_value _ (λ j. named (class_text pool j)) (Ok z) (λ j. j) (λ j. super_in s pool q) h k
  super_value n (Err f) h = as_value _ (λ j. named (class_text pool j)) (Err f) (λ j. j) (λ j. super_in s pool q) h tt

-- ---- where they end
abbrev Two : {A : Type 0} → List ℕ → ℕ → A → ℕ → Type 0
Two s q v e = (e ≡ q + 2) × (e ≤ length s)

module _ (s : List ℕ) (q : ℕ) where
  access_two : Holds (Two s q) (class_access_at s q)
  unfolding class_access_at
  access_two =
      then-holds (IsU2 s (length s) q) (Two s q) (u2 s q) _ (u2-holds s q)
      (λ v a h. cond-holds (Two s q) (eqb v 32) _ _ (h.1, h.2) (cond-holds (Two s q) (eqb v 33) _ _ (h.1, h.2) tt))

  pub access_end : (v a : ℕ) → ok v a ≡ class_access_at s q → a ≡ q + 2
  access_end v a h = (holds_of (Two s q) (class_access_at s q) v a access_two (sym h)).0

module _ (s : List ℕ) (pool : List Constant) (q : ℕ) where
  index_two : (i e : ℕ) → IsU2 s (length s) q i e → Holds (Two s q) (class_index_at s pool q i e)
  unfolding class_index_at
  index_two i e h =
      cond-holds (Two s q) (is_class (entry pool i)) _ _ (cond-holds (Two s q) (is_array_name (class_text pool i)) _ _ tt (h.1, h.2)) tt

  this_two : Holds (Two s q) (this_at s pool q)
  unfolding this_at
  this_two =
      then-holds (IsU2 s (length s) q) (Two s q) (u2 s q) _ (u2-holds s q)
      (λ i a h. then-holds (Two s q) (Two s q) (class_index_at s pool q i a) _ (index_two i a h) (λ j e k. k))

  pub this_end : (v : Text) (a : ℕ) → ok v a ≡ this_at s pool q → a ≡ q + 2
  this_end v a h = (holds_of (Two s q) (this_at s pool q) v a this_two (sym h)).0

  pub names_as : (d e : ℕ) → d ≡ q + 2 → e ≡ d + 2 → names_in s pool (q + 2) ≡ record { name = class_text pool (u2_at s d); super = super_in s pool e }
  names_as d e x y = rw (y, x)

-- the names, part for part
module _ (s : List ℕ) (pool : List Constant) (q v d e f n g : ℕ) where
  pub names_whole : ok v d ≡ class_access_at s q → ok (class_text pool (u2_at s d)) e ≡ this_at s pool d → ok (super_in s pool e) f ≡ super_at s pool e
      → ok n g ≡ interfaces_at s f → ok (names_in s pool (q + 2)) g ≡ names_at s pool q
  unfolding names_at
  names_whole hv ht hs hn =
      t_ok _ _ _ _ _ hv (t_ok _ _ _ _ _ ht (t_ok _ _ _ _ _ hs (t_ok _ _ _ _ _ hn
      (same_ok _ _ g (names_as s pool q d e (access_end s q v d hv) (this_end s pool d _ e ht))))))

-- ---- the head in the block
abbrev pub head_of : List ℕ → List ℕ → Head
head_of s b = head (pool_of s b) (names_in s (pool_of s b) (word b this_word))

-- the block's first words: the class starts at q and has n tags
pub record HeadWords (b : List ℕ) (q n : ℕ) : Type 0 where
  pub start : word b start_word ≡ q
  pub count : word b pool_word ≡ n
  pub most : n ≤ 1024

pub record Headed (s : List ℕ) (q : ℕ) (r : Result (Got ℕ) Fault) (b : List ℕ) : Type 0 where
  pub is : res_as (λ n. head_of s b) r ≡ head_at s q
  pub words : IfOk r (λ g. HeadWords b q g.val)

pub headed_bad : (s : List ℕ) (q : ℕ) (r : Result (Got ℕ) Fault) (b : List ℕ) (f : Fault) → IsErrAnd r (λ z. z ≡ f) → bad (number f.0) f.1 ≡ head_at s q → Headed s q r b
headed_bad s q r b f p h = record { is = res_err f (λ n. head_of s b) r p ∙ h; words = no_value _ r f p }

-- the pool's fault is the head's
pub opening_bad : (s : List ℕ) (q n p : ℕ) → bad n p ≡ open_at s q → bad n p ≡ head_at s q
unfolding head_at
opening_bad s q n p h = t_bad _ _ _ n p h cc

-- the part of the block that the tags are lent as
pub part-front : (n : ℕ) (b : List ℕ) → take (4 * n - 0) (drop 0 b) ≡ take (4 * n) b
part-front n b = let z : 4 * n - 0 ≡ 4 * n = omega arith in ap (λ (m : ℕ). take m b) z

open_ends : (s : List ℕ) (q : ℕ) → Ends (length s) (open_at s q)
unfolding open_at
open_ends s q = then_ends (length s) (start_at s q) _ (λ v a. pool_ends s a)

pub open_end : (s : List ℕ) (q : ℕ) (p : List Constant) (a : ℕ) → ok p a ≡ open_at s q → a ≤ length s
open_end s q p a h = ends_of (length s) (open_at s q) p a (open_ends s q) (sym h)

-- the names, read with the n tags that stand in the block's front; the pool ends at a
module _ (s : List ℕ) (q : ℕ) (b : List ℕ) (n a : ℕ) (hp : ok (pool_in s (take (4 * n) b)) a ≡ open_at s q) where
  pub names_bad : (m p : ℕ) → bad m p ≡ names_at s (pool_in s (take (4 * n) b)) a → bad m p ≡ head_at s q
  unfolding head_at
  names_bad m p h = t_ok _ _ _ _ _ hp (t_bad _ _ _ m p h cc)

  module _ (g : ℕ) (hn : ok (names_in s (pool_in s (take (4 * n) b)) (a + 2)) g ≡ names_at s (pool_in s (take (4 * n) b)) a)
      (f : length b ≡ block_size) (m : n ≤ 1024) (bq : q < 2 ^ 32) (ba : a + 2 < 2 ^ 32) (c : List ℕ) (e : c ≡ put3 b start_word q n (a + 2)) where
    count_is : word c pool_word ≡ n
    count_is = ap (λ (l : List ℕ). word l pool_word) e ∙ put3_1 b start_word q n (a + 2) (omega arith) (omega arith)

    this_is : word c this_word ≡ a + 2
    this_is = ap (λ (l : List ℕ). word l this_word) e ∙ put3_2 b start_word q n (a + 2) (omega arith) ba

    pool_is : pool_of s c ≡ pool_in s (take (4 * n) b)
    unfolding pool_of
    pool_is =
        ap (λ (k : ℕ). pool_in s (take (4 * k) c)) count_is
        ∙ ap (λ (l : List ℕ). pool_in s (take (4 * n) l)) e
        ∙ ap (pool_in s) (take-put3 b start_word q n (a + 2) n m)

    head_as : head_of s c ≡ head (pool_in s (take (4 * n) b)) (names_in s (pool_in s (take (4 * n) b)) (a + 2))
    head_as = rw (pool_is, this_is)

    pub names_ok : Headed s q (Ok (record { val = n; at = g })) c
    unfolding head_at
    names_ok = record {
      is = t_ok _ _ _ _ _ hp (t_ok _ _ _ _ _ hn (same_ok _ _ g head_as));
      words = record {
        start = ap (λ (l : List ℕ). word l start_word) e ∙ put3_0 b start_word q n (a + 2) (omega arith) bq;
        count = count_is;
        most = m;
      };
    }
