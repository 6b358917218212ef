-- Attributes, bodies and members as the code keeps them: how often something stands (2 for more than once) and where. Assumes nothing.
use Rattle.std.specs.Prelude.{◌≡◌, Bool, ltb, leb, eqb}
use Rattle.std.proofs.Common.{sym, ◌∙◌, ℕ, zero, suc, ◌+◌, ◌*◌, ◌≤◌, refl, ap, subst, List, [], ◌∷◌, true, false, cond, arith, ne_eqb, ltb-false}
use Rattle.kit.specs.Lists.{eq_list}
use Rattle.classfiles.specs.Limits.{max_stack_limit, max_locals_limit, max_code, max_table_entries}
use Rattle.texts.specs.Reading.{Res, ok, bad, and_then, pre, many, u2_at, u4_at, num2_at, num4_at, skip_at, short_at, part}
use Rattle.texts.specs.Answers.{same_bad}
use Rattle.texts.specs.Ends.{Holds, holds_of, then-holds, cond-holds, IsU2, num2_holds, skip_holds}
use Rattle.texts.specs.Names.{StackMapTable}
use Rattle.classfiles.specs.Pool.{Constant, text}
use Rattle.classfiles.specs.Members.{Found, none, once, twice, another, Handler, Body, Member, inners_at, code_at, handler_at, table_at, body_at}

-- ---- what is kept, read back
unfoldable pub found_of : {A : Type 0} → ℕ → A → Found A
found_of k v = cond (eqb k 0) none (cond (eqb k 1) (once v) twice)

-- n handlers from q on
unfoldable pub handlers_from : List ℕ → ℕ → ℕ → List Handler
handlers_from s zero q = []
handlers_from s (suc n) q =
    record { start = u2_at s q; end = u2_at s (q + 2); target = u2_at s (q + 4); catch = u2_at s (q + 6) } ∷ handlers_from s n (q + 8)

-- where the exception table of the Code whose content starts at q has its length
unfoldable pub table_from : List ℕ → ℕ → ℕ
table_from s q = q + 8 + u4_at s (q + 4)

-- the Code whose content starts at q
unfoldable pub body_of : List ℕ → ℕ → Found (List ℕ) → Body
body_of s q frames = record {
  max_stack = u2_at s q;
  max_locals = u2_at s (q + 2);
  code = part s (q + 8) (u4_at s (q + 4));
  table = handlers_from s (u2_at s (table_from s q)) (table_from s q + 2);
  frames = frames;
}

-- the member that starts at q
unfoldable pub member_of : List ℕ → List Constant → ℕ → Found Body → Member
member_of s pool q body = record {
  start = q;
  access = u2_at s q;
  name = text pool (u2_at s (q + 2));
  descriptor = text pool (u2_at s (q + 4));
  body = body;
}

-- an attribute inside Code, named by entry i: its length at a, and its content
unfoldable pub content_by : List ℕ → List Constant → ℕ → ℕ → ℕ → ℕ → Res (Found (List ℕ))
content_by s pool e p i a =
    and_then (num4_at s e 7 p a) λ n b.
    and_then (skip_at e 7 p n b) λ c d. ok (cond (eq_list (text pool i) StackMapTable) (once (part s c n)) none) d

-- ---- Code's parts as the code reads them: each by its length alone
module _ (s : List ℕ) (e p : ℕ) where
  unfoldable pub code_by : ℕ → Res ℕ
  code_by q =
      and_then (num4_at s e 7 p q) λ n a.
      cond (eqb n 0) (bad 4 q) (cond (ltb max_code n) (bad 4 q) (and_then (skip_at e 7 p n a) λ b d. ok n d))

  unfoldable pub table_by : ℕ → Res ℕ
  table_by q = and_then (short_at s e 7 p max_table_entries q) λ n a. and_then (skip_at e 7 p (8 * n) a) λ b d. ok n d

  -- the table at c and what follows it
  unfoldable pub rest_by : List Constant → ℕ → ℕ → Res (Found Body)
  rest_by pool q c =
      and_then (table_by c) λ n d.
      and_then (inners_at s pool e p d) λ frames f. cond (eqb f e) (ok (once (body_of s q frames)) f) (bad 7 p)

  unfoldable pub body_by : List Constant → ℕ → Res (Found Body)
  body_by pool q =
      and_then (short_at s e 7 p max_stack_limit q) λ stack a.
      and_then (short_at s e 7 p max_locals_limit a) λ locals b. and_then (code_by b) λ n c. rest_by pool q c

-- ---- laws: two readings of one thing
module _ {A C : Type 0} where
  pub any-then : (x : Res A) (f g : A → ℕ → Res C) → ((v : A) (e : ℕ) → f v e ≡ g v e) → and_then x f ≡ and_then x g
  unfolding and_then
  any-then (ok v e) f g k = k v e
  any-then (bad n p) f g k = refl

  pub same_then : (P : A → ℕ → Type 0) (x : Res A) (f g : A → ℕ → Res C) → Holds P x → ((v : A) (e : ℕ) → P v e → f v e ≡ g v e) → and_then x f ≡ and_then x g
  unfolding and_then
  same_then P (ok v e) f g h k = k v e h
  same_then P (bad n p) f g h k = refl

-- both fail alike, or both end at one place and P holds of the first's value and that place
abbrev Both : {A B : Type 0} → (A → ℕ → Type 0) → Res A → Res B → Type 0
Both P (ok v e) (ok w d) = (d ≡ e) × P v e
Both P (ok v e) (bad n p) = ⊥
Both P (bad n p) (ok w d) = ⊥
Both P (bad n p) (bad m q) = (n ≡ m) × (p ≡ q)

both-then : {A B C : Type 0} (P : A → ℕ → Type 0) (x : Res A) (y : Res B) (f : A → ℕ → Res C) (g : ℕ → Res C) → Both P x y → ((v : A) (e : ℕ) → P v e → f v e ≡ g e)
    → and_then x f ≡ and_then y λ w d. g d
unfolding and_then
both-then P (ok v e) (ok w d) f g h k = k v e h.1 ∙ ap g (sym h.0)
both-then P (ok v e) (bad n p) f g h k = absurd h
both-then P (bad n p) (ok w d) f g h k = absurd h
both-then P (bad n p) (bad m q) f g h k = same_bad n m p q h.0 h.1

same_both : {A C D : Type 0} (P : A → ℕ → Type 0) (Q : C → ℕ → Type 0) (x : Res A) (f : A → ℕ → Res C) (g : A → ℕ → Res D) → Holds P x
    → ((v : A) (e : ℕ) → P v e → Both Q (f v e) (g v e)) → Both Q (and_then x f) (and_then x g)
unfolding and_then
same_both P Q (ok v e) f g h k = k v e h
same_both P Q (bad n p) f g h k = (refl, refl)

cond_both : {A B : Type 0} (P : A → ℕ → Type 0) (b : Bool) (x y : Res A) (z w : Res B) → Both P x z → Both P y w → Both P (cond b x y) (cond b z w)
cond_both P true x y z w h k = h
cond_both P false x y z w h k = k

module _ (s : List ℕ) (pool : List Constant) (e p : ℕ) where
  num4_holds : (q : ℕ) → Holds (λ v a. (v ≡ u4_at s q) × (a ≡ q + 4)) (num4_at s e 7 p q)
  unfolding num4_at
  num4_holds q = cond-holds (λ v a. (v ≡ u4_at s q) × (a ≡ q + 4)) (leb (q + 4) e) _ _ (refl, refl) tt

  short_holds : (most q : ℕ) → Holds (IsU2 s e q) (short_at s e 7 p most q)
  unfolding short_at
  short_holds most q =
      then-holds (IsU2 s e q) (IsU2 s e q) (num2_at s e 7 p q) _ (num2_holds s e 7 p q) (λ v a h. cond-holds (IsU2 s e q) (ltb most v) _ _ tt h)

  -- what code_at gives, and where it ends
  abbrev IsCode : ℕ → List ℕ → ℕ → Type 0
  IsCode q code c = (code ≡ part s (q + 4) (u4_at s q)) × (c ≡ q + 4 + u4_at s q)

  code-both : (q : ℕ) → Both (IsCode q) (code_at s pool e p q) (code_by s e p q)
  unfolding code_at code_by
  code-both q =
      same_both (λ v a. (v ≡ u4_at s q) × (a ≡ q + 4)) (IsCode q) (num4_at s e 7 p q) _ _ (num4_holds q)
      (λ n a h. cond_both (IsCode q) (eqb n 0) _ _ _ _ (refl, refl)
      (cond_both (IsCode q) (ltb max_code n) _ _ _ _ (refl, refl)
      (same_both (λ v d. (v ≡ a) × (d ≡ a + n) × (d ≤ e)) (IsCode q) (skip_at e 7 p n a) _ _ (skip_holds e 7 p n a)
      (λ b d k. (refl, (there n a b h.0 h.1 k.0, omega (arith, h.0, h.1, k.1)))))))
    where
      there : (n a b : ℕ) → n ≡ u4_at s q → a ≡ q + 4 → b ≡ a → part s b n ≡ part s (q + 4) (u4_at s q)
      there n a b x y z = cc

  handlers : (n q : ℕ) → many (handler_at s pool e p) n q ≡ ok (handlers_from s n q) (q + 8 * n)
  unfolding many pre and_then handler_at handlers_from
  handlers zero q = let z : q ≡ q + 8 * 0 = omega arith in ap (λ (k : ℕ). ok [] k) z
  handlers (suc n) q =
      let z : q + 8 + 8 * n ≡ q + 8 * suc n = omega arith in
      ap (λ (x : Res (List Handler)). pre (record { start = u2_at s q; end = u2_at s (q + 2); target = u2_at s (q + 4); catch = u2_at s (q + 6) } ∷ []) x) (handlers n (q + 8))
      ∙ ap (λ (k : ℕ). ok (handlers_from s (suc n) q) k) z

  abbrev IsTable : ℕ → List Handler → ℕ → Type 0
  IsTable q t d = t ≡ handlers_from s (u2_at s q) (q + 2)

  table-both : (q : ℕ) → Both (IsTable q) (table_at s pool e p q) (table_by s e p q)
  unfolding table_at table_by
  table-both q =
      same_both (IsU2 s e q) (IsTable q) (short_at s e 7 p max_table_entries q) _ _ (short_holds max_table_entries q)
      (λ n a h. same_both (λ v d. (v ≡ a) × (d ≡ a + 8 * n) × (d ≤ e)) (IsTable q) (skip_at e 7 p (8 * n) a) _ _ (skip_holds e 7 p (8 * n) a)
      (λ b d k. subst (λ (x : Res (List Handler)). Both (IsTable q) x (ok n d)) (sym (handlers n b)) (omega (arith, k.0, k.1), there n a b h.0 h.1 k.0)))
    where
      there : (n a b : ℕ) → n ≡ u2_at s q → a ≡ q + 2 → b ≡ a → handlers_from s n b ≡ handlers_from s (u2_at s q) (q + 2)
      there n a b x y z = cc

  body_same : (q st a lo b : ℕ) (code : List ℕ) (c : ℕ) (t : List Handler) (frames : Found (List ℕ)) → st ≡ u2_at s q → a ≡ q + 2 → lo ≡ u2_at s a → b ≡ a + 2 → IsCode b code c → IsTable c t 0
      → record { max_stack = st; max_locals = lo; code = code; table = t; frames = frames } ≡ body_of s q frames
  unfolding body_of table_from
  body_same q st a lo b code c t frames h k l m x y =
      let b' : b ≡ q + 4 = omega arith in
      let c' : c ≡ q + 8 + u4_at s (q + 4) = omega (arith, x.1, ap (u4_at s) b') in
      let f : b + 4 ≡ q + 8 = omega arith in
      rw (h, l, k, x.0, f, b', y, c')

  body-by : (q : ℕ) → body_at s pool e p q ≡ body_by s e p pool q
  unfolding body_at body_by rest_by
  body-by q =
      same_then (IsU2 s e q) (short_at s e 7 p max_stack_limit q) _ _ (short_holds max_stack_limit q)
      (λ st a h. same_then (IsU2 s e a) (short_at s e 7 p max_locals_limit a) _ _ (short_holds max_locals_limit a)
      (λ lo b k. both-then (IsCode b) (code_at s pool e p b) (code_by s e p b) _ _ (code-both b)
      (λ code c x. both-then (IsTable c) (table_at s pool e p c) (table_by s e p c) _ _ (table-both c)
      (λ t d y. any-then (inners_at s pool e p d) _ _
      (λ frames f. ap (λ (body : Body). cond (eqb f e) (ok (once body) f) (bad 7 p)) (body_same q st a lo b code c t frames h.0 h.1 k.0 k.1 x y))))))

  pub body_via : (r : Res (Found Body)) (q : ℕ) → r ≡ body_by s e p pool q → r ≡ body_at s pool e p q
  body_via r q h = h ∙ sym (body-by q)

-- a short number is at most what it may be, and ends in time
short_most : (s : List ℕ) (e n p most q : ℕ) → Holds (λ v a. (v ≤ most) × (a ≤ e)) (short_at s e n p most q)
unfolding short_at
short_most s e n p most q =
    then-holds (IsU2 s e q) (λ v a. (v ≤ most) × (a ≤ e)) (num2_at s e n p q) _ (num2_holds s e n p q) (λ v a h. by v a h.2 (ltb most v) refl)
  where
    by : (v a : ℕ) → a ≤ e → (t : Bool) → ltb most v ≡ t → Holds (λ w z. (w ≤ most) × (z ≤ e)) (cond t (bad 4 q) (ok v a))
    by v a l true h = tt
    by v a l false h = (ltb-false most v h, l)

pub short_val : (s : List ℕ) (e n p most q v a : ℕ) → ok v a ≡ short_at s e n p most q → (v ≤ most) × (a ≤ e)
short_val s e n p most q v a h =
    holds_of (λ v z. (v ≤ most) × (z ≤ e)) (short_at s e n p most q) v a (short_most s e n p most q) (sym h)

-- one more: another one is more
module _ {A : Type 0} (k : ℕ) (v : A) (j : ℕ) (w : A) where
  pub not_another : j ≡ 0 → another (found_of k v) (found_of j w) ≡ found_of k v
  unfolding another found_of
  not_another e = rw e

  pub first_one : k ≡ 0 → another (found_of k v) (found_of j w) ≡ found_of j w
  unfolding another found_of
  first_one e = rw e (by (eqb j 0) (eqb j 1))
    where
      by : (x y : Bool) → another none (cond x none (cond y (once w) twice)) ≡ cond x none (cond y (once w) twice)
      by true y = refl
      by false true = refl
      by false false = refl

  pub one_more : (k ≡ 0 → ⊥) → (j ≡ 0 → ⊥) → another (found_of k v) (found_of j w) ≡ found_of 2 v
  unfolding another found_of
  one_more f g = rw (ne_eqb k 0 f, ne_eqb j 0 g) (by (eqb k 1) (eqb j 1))
    where
      by : (x y : Bool) → another (cond x (once v) twice) (cond y (once w) twice) ≡ twice
      by true true = refl
      by true false = refl
      by false true = refl
      by false false = refl

pub found_none : {A : Type 0} (k : ℕ) (v : A) → k ≡ 0 → found_of k v ≡ none
unfolding found_of
found_none k v e = rw e
