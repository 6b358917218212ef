-- A class file in its block, and the blocks one after the other. Assumes nothing.
use Rattle.std.specs.Prelude.{ℕ, suc, ◌+◌, ◌-◌, ◌*◌, ◌<◌, ◌≤◌, ◌≡◌, refl, List, [], ◌∷◌, ◌++◌, true, false, cond, Ok, Err, length, take, drop, eqb}
use Rattle.std.proofs.Common.{sym, ap, subst, ◌∙◌, arith, append-nil, length-drop, take_at, drop_at, take-take, length-take-le, eq-eqb, ne_eqb}
use Rattle.std.proofs.lemmas.List.{take-append-le, drop-append-le}
use Rattle.kit.specs.Words.{word, put_word, word_other}
use Rattle.kit.specs.Lists.{drop-take, length_part, length_back}
use Rattle.classfiles.specs.Limits.{max_fields, max_methods}
use Rattle.texts.specs.Reading.{Res, ok, bad, and_then, pre}
use Rattle.texts.specs.Faults.{number}
use Rattle.texts.specs.Answers.{t_ok, t_bad, same_ok}
use Rattle.texts.specs.Ends.{Ends, ends_of, then_ends, kept_ends}
use Rattle.texts.specs.declared.faults.Fault.{Fault}
use Rattle.classfiles.specs.Loops.{pre_nil, pre-pre}
use Rattle.classfiles.specs.Pool.{Constant, pool_at}
use Rattle.classfiles.specs.Table.{pool_in}
use Rattle.classfiles.specs.Members.{Found, Body, attributes_at}
use Rattle.classfiles.specs.Bundle.{ClassFile, magic_at, version_at, class_access_at, this_at, super_at, interfaces_at, members_at, class_file_at, class_files_at}
use Rattle.classfiles.specs.Blocks.{block_size, start_word, pool_word, this_word, field_count, method_count, field_rows, method_rows, listed, pool_of, rows_in, class_in, classes_in, Head, head, start_at, open_at, names_at, head_at, tail_at}
use Rattle.classfiles.specs.BlockWords.{listed_same, listed_next, take_put, kept_word, kept_take, rows_by}
use Rattle.classfiles.specs.Opening.{head_of, HeadWords}
use Rattle.classfiles.specs.Sections.{tagged, IsSection}
use Rattle.classfiles.specs.MemberEnds.{attributes_ends}

-- ---- a class file is read as its head and its tail
then_as : {A B C : Type 0} (x : Res A) (f : A → ℕ → Res C) (g : A → ℕ → Res B) (k : B → ℕ → Res C) → ((v : A) (e : ℕ) → f v e ≡ and_then (g v e) k)
    → and_then x f ≡ and_then (and_then x g) k
unfolding and_then
then_as (ok v e) f g k h = h v e
then_as (bad n p) f g k h = refl

module _ (s : List ℕ) (q : ℕ) where
  named_tail : (pool : List Constant) (c : ℕ)
      → and_then (class_access_at s c) (λ _ d. and_then (this_at s pool d) (λ name e. and_then (super_at s pool e) (λ super f. and_then (interfaces_at s f) (λ _ g. tail_at s q (head pool (record { name = name; super = super })) g))))
      ≡ and_then (and_then (names_at s pool c) (λ h g. ok (head pool h) g)) (tail_at s q)
  unfolding names_at and_then
  named_tail pool c =
      then_as (class_access_at s c) _ _ (λ h g. tail_at s q (head pool h) g) (λ _ d. then_as (this_at s pool d) _ _ (λ h g. tail_at s q (head pool h) g)
      (λ name e. then_as (super_at s pool e) _ _ (λ h g. tail_at s q (head pool h) g) (λ super f. then_as (interfaces_at s f) _ _ (λ h g. tail_at s q (head pool h) g) (λ _ g. refl))))
      ∙ then_as (names_at s pool c) (λ h g. tail_at s q (head pool h) g) (λ h g. ok (head pool h) g) (tail_at s q) (λ h g. refl)

  class_by : class_file_at s q ≡ and_then (head_at s q) (tail_at s q)
  unfolding class_file_at head_at open_at start_at tail_at
  class_by =
      then_as (magic_at s q) _ (λ _ a. version_at s a) _ (λ _ a. refl)
      ∙ then_as (start_at s q) _ (λ _ a. pool_at s a) _ (λ _ a. refl)
      ∙ then_as (open_at s q) _ (λ pool c. and_then (names_at s pool c) (λ h g. ok (head pool h) g)) (tail_at s q) (λ pool c. named_tail pool c)

  class_ends : Ends (length s) (class_file_at s q)
  unfolding tail_at
  class_ends = subst (Ends (length s)) (sym class_by) (then_ends (length s) (head_at s q) (tail_at s q) (λ h g. tail_ends h g))
    where
      tail_ends : (h : Head) (g : ℕ) → Ends (length s) (tail_at s q h g)
      tail_ends h g =
          then_ends (length s) (members_at s h.pool false max_fields g) _ (λ fs i.
          then_ends (length s) (members_at s h.pool true max_methods i) _ (λ ms j.
          kept_ends (length s) (attributes_at s h.pool false j) _ (attributes_ends s h.pool false j) (λ v e l. l)))

  pub class_end : (v : ClassFile) (a : ℕ) → ok v a ≡ class_file_at s q → a ≤ length s
  class_end v a h = ends_of (length s) (class_file_at s q) v a class_ends (sym h)

-- ---- the head is in the block b₁, n tags in front, the fields in b₂, the methods in b₃
module _ (s : List ℕ) (q : ℕ) where
  pub head_bad : (m p : ℕ) → bad m p ≡ head_at s q → bad m p ≡ class_file_at s q
  head_bad m p h = t_bad _ _ (tail_at s q) m p h (cc) ∙ sym (class_by s q)

  module _ (n g : ℕ) (b₁ : List ℕ) (hi : ok (head_of s b₁) g ≡ head_at s q) (hw : HeadWords b₁ q n) where
    pool_1 : tagged s n b₁ ≡ pool_of s b₁
    unfolding pool_of
    pool_1 = ap (λ (k : ℕ). pool_in s (take (4 * k) b₁)) (sym hw.count)

    pub fields_bad : (b₂ : List ℕ) (f : Fault) → IsSection s n false field_count field_rows max_fields g (Err f) b₁ b₂ → bad (number f.0) f.1 ≡ class_file_at s q
    unfolding tail_at
    fields_bad b₂ f h =
        t_ok _ _ (tail_at s q) _ _ hi (t_bad _ _ _ _ _ (h.is ∙ ap (λ (p : List Constant). members_at s p false max_fields g) pool_1) cc) ∙ sym (class_by s q)

    module _ (b₂ : List ℕ) (i : ℕ) (hf : IsSection s n false field_count field_rows max_fields g (Ok i) b₁ b₂) where
      fields_is : ok (rows_in s (pool_of s b₁) b₂ field_rows (word b₂ field_count)) i ≡ members_at s (pool_of s b₁) false max_fields g
      fields_is =
          subst (λ (p : List Constant). ok (rows_in s p b₂ field_rows (word b₂ field_count)) i ≡ members_at s p false max_fields g) pool_1 hf.is

      below_2 : take (4 * field_rows) b₂ ≡ take (4 * field_rows) (put_word b₁ field_count (word b₂ field_count))
      below_2 = hf.below

      few_tags : n ≤ 1024
      few_tags = hw.most

      tags_2 : take (4 * n) b₂ ≡ take (4 * n) b₁
      tags_2 =
          kept_take field_rows (put_word b₁ field_count (word b₂ field_count)) b₂ below_2 n (omega (arith, few_tags))
          ∙ take_put n b₁ field_count (word b₂ field_count) (omega (arith, few_tags))

      pool_2 : tagged s n b₂ ≡ pool_of s b₁
      pool_2 = ap (pool_in s) tags_2 ∙ pool_1

      pub methods_bad : (b₃ : List ℕ) (f : Fault) → IsSection s n true method_count method_rows max_methods i (Err f) b₂ b₃ → bad (number f.0) f.1 ≡ class_file_at s q
      unfolding tail_at
      methods_bad b₃ f h =
          t_ok _ _ (tail_at s q) _ _ hi (t_ok _ _ _ _ _ fields_is (t_bad _ _ _ _ _ (h.is ∙ ap (λ (p : List Constant). members_at s p true max_methods i) pool_2) cc))
          ∙ sym (class_by s q)

      module _ (b₃ : List ℕ) (j : ℕ) (hm : IsSection s n true method_count method_rows max_methods i (Ok j) b₂ b₃) where
        methods_is : ok (rows_in s (pool_of s b₁) b₃ method_rows (word b₃ method_count)) j ≡ members_at s (pool_of s b₁) true max_methods i
        methods_is =
            subst (λ (p : List Constant). ok (rows_in s p b₃ method_rows (word b₃ method_count)) j ≡ members_at s p true max_methods i) pool_2 hm.is

        below_3 : take (4 * method_rows) b₃ ≡ take (4 * method_rows) (put_word b₂ method_count (word b₃ method_count))
        below_3 = hm.below

        word_3 : (k : ℕ) → k < method_rows → (k ≡ method_count → ⊥) → word b₃ k ≡ word b₂ k
        word_3 k l z =
            kept_word method_rows (put_word b₂ method_count (word b₃ method_count)) b₃ below_3 k l ∙ word_other b₂ method_count (word b₃ method_count) k z

        word_2 : (j : ℕ) → j < field_count → word b₃ j ≡ word b₁ j
        word_2 j l =
            word_3 j (omega arith) (λ e. omega arith) ∙ kept_word field_rows (put_word b₁ field_count (word b₂ field_count)) b₂ below_2 j (omega arith)
            ∙ word_other b₁ field_count (word b₂ field_count) j (λ e. omega arith)

        tags_3 : take (4 * n) b₃ ≡ take (4 * n) b₁
        tags_3 =
            kept_take method_rows (put_word b₂ method_count (word b₃ method_count)) b₃ below_3 n (omega (arith, few_tags))
            ∙ take_put n b₂ method_count (word b₃ method_count) (omega (arith, few_tags)) ∙ tags_2

        pool_3 : pool_of s b₃ ≡ pool_of s b₁
        unfolding pool_of
        pool_3 = ap (λ (n : ℕ). pool_in s (take (4 * n) b₃)) (word_2 pool_word (omega arith) ∙ hw.count) ∙ ap (pool_in s) tags_3 ∙ pool_1

        few_fields : word b₂ field_count ≤ max_fields
        few_fields = hf.few

        fields_3 : rows_in s (pool_of s b₁) b₃ field_rows (word b₃ field_count) ≡ rows_in s (pool_of s b₁) b₂ field_rows (word b₂ field_count)
        fields_3 =
            ap (rows_in s (pool_of s b₁) b₃ field_rows) (word_3 field_count (omega arith) (λ e. omega arith))
            ∙ rows_by s (pool_of s b₁) b₂ b₃ field_rows (word b₂ field_count) (λ j x y. word_3 j (omega (arith, few_fields)) (λ e. omega arith))

        class_is : class_in s b₃
            ≡ record { start = q; pool = pool_of s b₁; name = (head_of s b₁).names.name; super = (head_of s b₁).names.super; fields = rows_in s (pool_of s b₁) b₂ field_rows (word b₂ field_count); methods = rows_in s (pool_of s b₁) b₃ method_rows (word b₃ method_count) }
        unfolding class_in
        class_is = rw (pool_3, word_2 start_word (omega arith), hw.start, word_2 this_word (omega arith), fields_3)

        lent : attributes_at s (pool_in s (take (4 * n) b₃)) false j ≡ attributes_at s (pool_of s b₁) false j
        lent = ap (λ (p : List Constant). attributes_at s p false j) (ap (pool_in s) tags_3 ∙ pool_1)

        pub attributes_bad : (m p : ℕ) → bad m p ≡ attributes_at s (pool_in s (take (4 * n) b₃)) false j → bad m p ≡ class_file_at s q
        unfolding tail_at
        attributes_bad m p h =
            t_ok _ _ (tail_at s q) _ _ hi (t_ok _ _ _ _ _ fields_is (t_ok _ _ _ _ _ methods_is (t_bad _ _ _ m p (h ∙ lent) cc))) ∙ sym (class_by s q)

        pub class-whole : (v : Found Body) (a : ℕ) → ok v a ≡ attributes_at s (pool_in s (take (4 * n) b₃)) false j → ok (class_in s b₃) a ≡ class_file_at s q
        unfolding tail_at
        class-whole v a h =
            t_ok _ _ (tail_at s q) _ _ hi (t_ok _ _ _ _ _ fields_is (t_ok _ _ _ _ _ methods_is (t_ok _ _ _ v a (h ∙ lent) (same_ok _ _ a class_is))))
            ∙ sym (class_by s q)

-- ---- the blocks one after the other: P is the new one behind k of them
module _ (s t P R : List ℕ) (k : ℕ) (l : block_size * k ≤ length t) where
  front : length (take (block_size * k) t) ≡ block_size * k
  front = length-take-le (block_size * k) t l

  block_kept : (i : ℕ) → i < k → take block_size (drop (block_size * i) (take (block_size * k) t ++ (P ++ R))) ≡ take block_size (drop (block_size * i) t)
  block_kept i h =
      ap (take block_size) (drop-append-le (block_size * i) (take (block_size * k) t) (P ++ R) (omega (arith, front)))
      ∙ take-append-le block_size (drop (block_size * i) (take (block_size * k) t)) (P ++ R) (omega (arith, length-drop (block_size * i) (take (block_size * k) t), front))
      ∙ ap (take block_size) (drop-take (block_size * i) (block_size * k) t)
      ∙ take-take block_size (block_size * k - block_size * i) (drop (block_size * i) t) (omega arith)

  block_new : length P ≡ block_size → take block_size (drop (block_size * k) (take (block_size * k) t ++ (P ++ R))) ≡ P
  block_new h = ap (take block_size) (drop_at (take (block_size * k) t) (P ++ R) (block_size * k) front) ∙ take_at P R block_size h

  classes_next : length P ≡ block_size → classes_in s (take (block_size * k) t ++ (P ++ R)) (k + 1) ≡ classes_in s t k ++ (class_in s P ∷ [])
  unfolding classes_in
  classes_next h =
      let p : classes_in s (take (block_size * k) t ++ (P ++ R)) k ≡ classes_in s t k =
      listed_same (λ i. class_in s (take block_size (drop (block_size * i) (take (block_size * k) t ++ (P ++ R))))) (λ i. class_in s (take block_size (drop (block_size * i) t))) k (λ i g. ap (class_in s) (block_kept i g)) in
      let q : class_in s (take block_size (drop (block_size * k) (take (block_size * k) t ++ (P ++ R)))) ≡ class_in s P = ap (class_in s) (block_new h) in
      listed_next (λ i. class_in s (take block_size (drop (block_size * i) (take (block_size * k) t ++ (P ++ R))))) k ∙ cc

-- a loop over at most 16 class files, of which k are read: fs are those, x is what is to be read
module _ (s : List ℕ) (k q : ℕ) (h : k < 16) where
  files_step : class_files_at s (16 - k) q
      ≡ cond (eqb q (length s)) (ok [] q) (and_then (class_file_at s q) (λ f e. pre (f ∷ []) (class_files_at s (16 - (k + 1)) e)))
  unfolding class_files_at
  files_step = let z : 16 - k ≡ suc (16 - (k + 1)) = omega arith in ap (λ (n : ℕ). class_files_at s n q) z

  files_end : q ≡ length s → class_files_at s (16 - k) q ≡ ok [] q
  files_end e = rw (files_step, eq-eqb q (length s) e)

  files_go : (q ≡ length s → ⊥) → class_files_at s (16 - k) q ≡ and_then (class_file_at s q) (λ f e. pre (f ∷ []) (class_files_at s (16 - (k + 1)) e))
  files_go n = rw (files_step, ne_eqb q (length s) n)

  module _ (fs : List ClassFile) (x : Res (List ClassFile)) (i : pre fs (class_files_at s (16 - k) q) ≡ x) where
    pub files_done : q ≡ length s → ok fs q ≡ x
    unfolding pre
    files_done e = sym (rw (files_end e) (ap (λ (l : List ClassFile). ok l q) (append-nil fs))) ∙ i

    module _ (n : q ≡ length s → ⊥) where
      pub files_stop : (m p : ℕ) → bad m p ≡ class_file_at s q → bad m p ≡ x
      unfolding pre and_then
      files_stop m p e = sym (rw (files_go n, sym e)) ∙ i

      files_more : (v : ClassFile) (a : ℕ) → ok v a ≡ class_file_at s q → pre (fs ++ (v ∷ [])) (class_files_at s (16 - (k + 1)) a) ≡ x
      unfolding and_then
      files_more v a e = sym (rw (files_go n, sym e) (pre-pre fs (v ∷ []) (class_files_at s (16 - (k + 1)) a))) ∙ i

-- a turn: the part that was lent is the checker's
module _ (s t P : List ℕ) (k q g : ℕ) (x : Res (List ClassFile)) (h : k < 16) (l : 16 * block_size ≤ length t) (lp : length P ≡ block_size) where
  pub files_turn : pre (classes_in s t k) (class_files_at s (16 - k) q) ≡ x → (q ≡ length s → ⊥) → ok (class_in s P) g ≡ class_file_at s q
      → pre (classes_in s (take (6432 * k) t ++ (P ++ drop (6432 * k + 6432 - 6432 * k) (drop (6432 * k) t))) (k + 1)) (class_files_at s (16 - (k + 1)) g) ≡ x
  files_turn i n e =
      ap (λ (fs : List ClassFile). pre fs (class_files_at s (16 - (k + 1)) g)) (classes_next s t P (drop (6432 * k + 6432 - 6432 * k) (drop (6432 * k) t)) k (omega arith) lp)
      ∙ files_more s k q h (classes_in s t k) x i n (class_in s P) g e

  pub turn-length : length (take (6432 * k) t ++ (P ++ drop (6432 * k + 6432 - 6432 * k) (drop (6432 * k) t))) ≡ length t
  turn-length =
      let z : 6432 * k + 6432 - 6432 * k ≡ 6432 = omega arith in
      rw z (length_back t P (6432 * k) 6432 lp (omega arith))

pub block-length : (t : List ℕ) (k : ℕ) → k < 16 → 16 * block_size ≤ length t → length (take (6432 * k + 6432 - 6432 * k) (drop (6432 * k) t)) ≡ block_size
block-length t k h l =
    let z : 6432 * k + 6432 - 6432 * k ≡ 6432 = omega arith in
    rw z (length_part (6432 * k) 6432 t (omega arith))

pub files_start : (s t : List ℕ) → pre (classes_in s t 0) (class_files_at s (16 - 0) 0) ≡ class_files_at s 16 0
unfolding classes_in listed
files_start s t = pre_nil (class_files_at s 16 0)

-- after the last that is allowed
module _ (s t : List ℕ) (k q : ℕ) (x : Res (List ClassFile)) (i : pre (classes_in s t k) (class_files_at s (16 - k) q) ≡ x) (h : 16 ≤ k) (l : k ≤ 16) where
  last : pre (classes_in s t 16) (class_files_at s 0 q) ≡ x
  last = let y : k ≡ 16 = omega arith in rw y at i

  pub last_bad : (m p : ℕ) → bad m p ≡ class_files_at s 0 q → bad m p ≡ x
  unfolding pre
  last_bad m p e = sym (rw (sym e)) ∙ last

  pub last_ok : (a : ℕ) → ok [] a ≡ class_files_at s 0 q → ok (classes_in s t 16) a ≡ x
  unfolding pre
  last_ok a e = sym (rw (sym e) (ap (λ (m : List ClassFile). ok m a) (append-nil (classes_in s t 16)))) ∙ last
