-- Members as a class's block holds them, row after row. Assumes nothing.
use Rattle.std.specs.Prelude.{ℕ, ◌+◌, ◌-◌, ◌*◌, ◌^◌, ◌<◌, ◌≤◌, ◌≡◌, refl, List, Bool, Result, Ok, Err, IsErrAnd, IfOk, ltb, length, take}
use Rattle.std.proofs.Common.{sym, ap, subst, ◌∙◌, arith}
use Rattle.kit.specs.Words.{word, put_word, word_same}
use Rattle.texts.specs.Reading.{Res, ok, bad, pre, many, num2_at, short_at, part}
use Rattle.texts.specs.Faults.{number}
use Rattle.texts.specs.Answers.{t_ok, t_bad}
use Rattle.texts.specs.Ends.{Ends, ends_of, kept_ends, cond_ends, num2_ends}
use Rattle.texts.specs.declared.faults.Fault.{Fault}
use Rattle.classfiles.specs.Past.{past, past_err, no_value}
use Rattle.classfiles.specs.Loops.{pre_nil, many_done, many_next}
use Rattle.classfiles.specs.Pool.{Constant}
use Rattle.classfiles.specs.Table.{pool_in}
use Rattle.classfiles.specs.Members.{Body, Member, member_at}
use Rattle.classfiles.specs.Members as meant
use Rattle.classfiles.specs.Attributes.{found_of, body_of, member_of, short_val}
use Rattle.classfiles.specs.Bundle.{members_at}
use Rattle.classfiles.specs.Contents.{content_in, code_in}
use Rattle.classfiles.specs.Blocks.{listed, put3, row_in, rows_in}
use Rattle.classfiles.specs.BlockWords.{put3_0, put3_1, put3_2, take-put3, length-put3, take_put, kept_word, kept_take, rows_next}
use Rattle.classfiles.specs.declared.members.Found.{Found}
use Rattle.classfiles.specs.declared.members.Found.TheVariants.{None, Once, Twice}
use Rattle.classfiles.specs.declared.members.Part.{Part}
use Rattle.classfiles.specs.declared.members.Code.{Code}

-- the three words from w on in the block c are this content's, and what stands below is as in b
pub record IsContent (b c : List ℕ) (w : ℕ) (f : Found Part) : Type 0 where
  pub below : take (4 * w) c ≡ take (4 * w) b
  pub reads : (s : List ℕ) → found_of (word c w) (part s (word c (w + 1)) (word c (w + 2))) ≡ content_in s f

content_put : (b c : List ℕ) (w : ℕ) (f : Found Part) (k from len : ℕ) → 4 * (w + 3) ≤ length b → k < 2 ^ 32 → from < 2 ^ 32 → len < 2 ^ 32
    → c ≡ put3 b w k from len → ((s : List ℕ) → found_of k (part s from len) ≡ content_in s f) → IsContent b c w f
content_put b c w f k from len l b0 b1 b2 e h = record {
  below = ap (take (4 * w)) e ∙ take-put3 b w k from len w (omega arith);
  reads = λ s. rw (e, put3_0 b w k from len l b0, put3_1 b w k from len l b1, put3_2 b w k from len l b2) (h s);
}

module _ (b c : List ℕ) (w : ℕ) (f : Found Part) (l : 4 * (w + 3) ≤ length b) where
  pub content_none : f ≡ None → c ≡ put3 b w 0 0 0 → IsContent b c w f
  unfolding found_of
  content_none z e = content_put b c w f 0 0 0 l (omega arith) (omega arith) (omega arith) e (λ s. rw z refl)

  pub content_once : (p : Part) → f ≡ Once p → p.from < 2 ^ 32 → p.len < 2 ^ 32 → c ≡ put3 b w 1 p.from p.len → IsContent b c w f
  unfolding found_of
  content_once p z b1 b2 e = content_put b c w f 1 p.from p.len l (omega arith) b1 b2 e (λ s. rw z refl)

  pub content_twice : f ≡ Twice → c ≡ put3 b w 2 0 0 → IsContent b c w f
  unfolding found_of
  content_twice z e = content_put b c w f 2 0 0 l (omega arith) (omega arith) (omega arith) e (λ s. rw z refl)

-- the row at word w of the block c is this member's, and what stands below is as in b
pub record IsRow (b c : List ℕ) (w q : ℕ) (k : Found Code) : Type 0 where
  pub below : take (4 * w) c ≡ take (4 * w) b
  pub row : (s : List ℕ) (pool : List Constant) → row_in s pool c w ≡ member_of s pool q (code_in s k)

module _ (b d c : List ℕ) (w q : ℕ) (k : Found Code) (n start : ℕ) (f : Found Part) (l : 4 * (w + 6) ≤ length b) (b0 : q < 2 ^ 32) (b1 : n < 2 ^ 32) (b2 : start < 2 ^ 32)
    (e : d ≡ put3 b w q n start) (h : IsContent d c (w + 3) f) (z : (s : List ℕ) → found_of n (body_of s start (content_in s f)) ≡ code_in s k) where
  low : (i v : ℕ) → i < w + 3 → word (put3 b w q n start) i ≡ v → word c i ≡ v
  low i v g x = kept_word (w + 3) d c h.below i g ∙ (ap (λ (y : List ℕ). word y i) e ∙ x)

  w0 : word c w ≡ q
  w0 = low w q (omega arith) (put3_0 b w q n start (omega arith) b0)

  w1 : word c (w + 1) ≡ n
  w1 = low (w + 1) n (omega arith) (put3_1 b w q n start (omega arith) b1)

  w2 : word c (w + 2) ≡ start
  w2 = low (w + 2) start (omega arith) (put3_2 b w q n start (omega arith) b2)

  reads : (s : List ℕ) → found_of (word c (w + 3)) (part s (word c (w + 4)) (word c (w + 5))) ≡ content_in s f
  reads s =
      let x : w + 4 ≡ w + 3 + 1 = omega arith in
      let y : w + 5 ≡ w + 3 + 2 = omega arith in
      rw (x, y) (h.reads s)

  row_is : IsRow b c w q k
  unfolding row_in
  row_is = record {
    below = kept_take (w + 3) d c h.below w (omega arith) ∙ (ap (take (4 * w)) e ∙ take-put3 b w q n start w (omega arith));
    row = λ s pool. rw (w0, w1, w2, reads s) (ap (member_of s pool q) (z s));
  }

-- the row's six words: n and start are what v is kept as, k, from and len what f is
pub row_put : (b d c : List ℕ) (w q n start k from len : ℕ) (v : Found Code) (f : Found Part) → 4 * (w + 6) ≤ length b → q < 2 ^ 32 → n < 2 ^ 32 → start < 2 ^ 32
    → k < 2 ^ 32 → from < 2 ^ 32 → len < 2 ^ 32 → d ≡ put3 b w q n start → c ≡ put3 d (w + 3) k from len
    → ((s : List ℕ) → found_of k (part s from len) ≡ content_in s f) → ((s : List ℕ) → found_of n (body_of s start (content_in s f)) ≡ code_in s v) → IsRow b c w q v
row_put b d c w q n start k from len v f l b0 b1 b2 b3 b4 b5 e g hf hv =
    let m : length d ≡ length b = ap length e ∙ length-put3 b w q n start in
    row_is b d c w q v n start f l b0 b1 b2 e (content_put d c (w + 3) f k from len (omega (arith, m)) b3 b4 b5 g hf) hv

module _ (b d c : List ℕ) (w q : ℕ) (k : Found Code) (l : 4 * (w + 6) ≤ length b) (b0 : q < 2 ^ 32) where
  pub row_none : k ≡ None → d ≡ put3 b w q 0 0 → IsContent d c (w + 3) None → IsRow b c w q k
  unfolding found_of
  row_none x e h = row_is b d c w q k 0 0 None l b0 (omega arith) (omega arith) e h (λ s. rw x refl)

  pub row_once : (v : Code) → k ≡ Once v → v.start < 2 ^ 32 → d ≡ put3 b w q 1 v.start → IsContent d c (w + 3) v.frames → IsRow b c w q k
  unfolding found_of
  row_once v x b2 e h = row_is b d c w q k 1 v.start v.frames l b0 (omega arith) b2 e h (λ s. rw x refl)

  pub row_twice : k ≡ Twice → d ≡ put3 b w q 2 0 → IsContent d c (w + 3) None → IsRow b c w q k
  unfolding found_of
  row_twice x e h = row_is b d c w q k 2 0 None l b0 (omega arith) (omega arith) e h (λ s. rw x refl)

-- ---- the loop over n members, of which i are in the block b: their pool's tags are the first k words
module _ (s b₀ b : List ℕ) (k w : ℕ) (m : Bool) (q : ℕ) (l : k ≤ w) (f : take (4 * w) b ≡ take (4 * w) b₀) where
  lent : take (4 * k) b ≡ take (4 * k) b₀
  lent = kept_take w b₀ b f k l

  pub member_bad : (n p : ℕ) → bad n p ≡ member_at s (pool_in s (take (4 * k) b)) m q → bad n p ≡ member_at s (pool_in s (take (4 * k) b₀)) m q
  member_bad n p e = e ∙ ap (λ (z : List ℕ). member_at s (pool_in s z) m q) lent

  pub member_is : (v : meant.Found Body) (a : ℕ) → ok (member_of s (pool_in s (take (4 * k) b)) q v) a ≡ member_at s (pool_in s (take (4 * k) b)) m q
      → ok (member_of s (pool_in s (take (4 * k) b₀)) q v) a ≡ member_at s (pool_in s (take (4 * k) b₀)) m q
  member_is v a e = subst (λ (z : List ℕ). ok (member_of s (pool_in s z) q v) a ≡ member_at s (pool_in s z) m q) lent e

module _ (s : List ℕ) (pool : List Constant) (b : List ℕ) (w : ℕ) (m : Bool) (n i q : ℕ) (x : Res (List Member))
    (z : pre (rows_in s pool b w i) (many (member_at s pool m) (n - i) q) ≡ x) where
  pub rows_done : n ≤ i → i ≤ n → ok (rows_in s pool b w n) q ≡ x
  rows_done h l =
      let y : n ≡ i = omega arith in
      ap (λ (j : ℕ). ok (rows_in s pool b w j) q) y ∙ many_done (member_at s pool m) n i q (rows_in s pool b w i) x z h

  pub rows_more : (v : Found Code) (a : ℕ) → i < n → ok (member_of s pool q (code_in s v)) a ≡ member_at s pool m q → (c : List ℕ) → IsRow b c (w + 6 * i) q v
      → pre (rows_in s pool c w (i + 1)) (many (member_at s pool m) (n - (i + 1)) a) ≡ x
  rows_more v a h e c r =
      ap (λ (l : List Member). pre l (many (member_at s pool m) (n - (i + 1)) a)) (rows_next s pool b c w i _ r.below (r.row s pool))
      ∙ many_next (member_at s pool m) n i q (rows_in s pool b w i) x z h (member_of s pool q (code_in s v)) a e

pub rows_start : (s : List ℕ) (pool : List Constant) (b : List ℕ) (w : ℕ) (f : ℕ → Res Member) (n q : ℕ)
    → pre (rows_in s pool b w 0) (many f (n - 0) q) ≡ many f n q
unfolding rows_in listed
rows_start s pool b w f n q = let y : n - 0 ≡ n = omega arith in pre_nil (many f (n - 0) q) ∙ ap (λ (j : ℕ). many f j q) y

pub rows_below : (b c : List ℕ) (w i q : ℕ) (k : Found Code) → IsRow b c (w + 6 * i) q k → take (4 * w) c ≡ take (4 * w) b
rows_below b c w i q k r = kept_take (w + 6 * i) b c r.below w (omega arith)

-- ---- u2 count; members[count]: b is the block before, d after, r the answer
abbrev pub tagged : List ℕ → ℕ → List ℕ → List Constant
tagged s k b = pool_in s (take (4 * k) b)

pub record IsSection (s : List ℕ) (k : ℕ) (m : Bool) (c w most q : ℕ) (r : Result ℕ Fault) (b d : List ℕ) : Type 0 where
  pub is : past (rows_in s (tagged s k b) d w (word d c)) r ≡ members_at s (tagged s k b) m most q
  pub below : IfOk r (λ e. take (4 * w) d ≡ take (4 * w) (put_word b c (word d c)))
  pub few : IfOk r (λ e. word d c ≤ most)

pub short_end : (s : List ℕ) (n p most q v a : ℕ) → ok v a ≡ short_at s (length s) n p most q → a ≤ length s
unfolding short_at
short_end s n p most q v a h = ends_of (length s) (short_at s (length s) n p most q) v a ends (sym h)
  where
    ends : Ends (length s) (short_at s (length s) n p most q)
    ends =
        kept_ends (length s) (num2_at s (length s) n p q) _ (num2_ends s (length s) n p q)
        (λ v a h. cond_ends (length s) (ltb most v) _ _ tt h)

pub section_bad : (s : List ℕ) (k : ℕ) (m : Bool) (c w most q : ℕ) (r : Result ℕ Fault) (b d : List ℕ) (f : Fault) → IsErrAnd r (λ z. z ≡ f)
    → bad (number f.0) f.1 ≡ short_at s (length s) 2 q most q → IsSection s k m c w most q r b d
unfolding members_at
section_bad s k m c w most q r b d f p h = record { is = past_err f _ r p ∙ t_bad _ _ _ _ _ h cc; below = no_value _ r f p; few = no_value _ r f p }

whatever : {P : Type 0} (r : Result ℕ Fault) → P → IfOk r (λ e. P)
whatever (Ok e) p = p
whatever (Err f) p = tt

module _ (s : List ℕ) (k : ℕ) (m : Bool) (c w most q n a : ℕ) (r : Result ℕ Fault) (b b₁ d : List ℕ) (hn : ok n a ≡ short_at s (length s) 2 q most q)
    (e : b₁ ≡ put_word b c n) (f : n < 2 ^ 32) (kc : k ≤ c) (cw : c < w) (l : 4 * w ≤ length b)
    (hr : past (rows_in s (tagged s k b₁) d w n) r ≡ many (member_at s (tagged s k b₁) m) n a) (hd : take (4 * w) d ≡ take (4 * w) b₁) where
  pool_as : tagged s k b₁ ≡ tagged s k b
  pool_as = ap (tagged s k) e ∙ ap (pool_in s) (take_put k b c n kc)

  count_as : word d c ≡ n
  count_as = kept_word w b₁ d hd c cw ∙ ap (λ (z : List ℕ). word z c) e ∙ word_same b c n (omega arith) f

  rows_as : past (rows_in s (tagged s k b) d w (word d c)) r ≡ many (member_at s (tagged s k b) m) n a
  rows_as =
      ap (λ (j : ℕ). past (rows_in s (tagged s k b) d w j) r) count_as
      ∙ subst (λ (p : List Constant). past (rows_in s p d w n) r ≡ many (member_at s p m) n a) pool_as hr

  pub section_is : IsSection s k m c w most q r b d
  unfolding members_at
  section_is = record {
    is = t_ok _ _ _ n a hn rows_as;
    below = whatever r (hd ∙ ap (take (4 * w)) (e ∙ ap (put_word b c) (sym count_as)));
    few = whatever r (omega (arith, count_as, short_val s (length s) 2 q most q n a hn));
  }
