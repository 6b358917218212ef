-- Where the readings of attributes and members end. Assumes nothing.
use Rattle.std.specs.Prelude.{ℕ, zero, suc, ◌≤◌, ◌≡◌, refl, List, Bool, cond}
use Rattle.std.proofs.Common.{sym, eqb-true, subst, true, false, length, eqb}
use Rattle.kit.specs.Lists.{eq_list}
use Rattle.classfiles.specs.Limits.{max_stack_limit, max_locals_limit}
use Rattle.texts.specs.Reading.{Res, ok, bad, sum_at, num2_at, skip_at, short_at, u2, u4}
use Rattle.texts.specs.Ends.{Ends, ends_of, then_ends, kept_ends, cond_ends, num2_ends, skip_ends}
use Rattle.texts.specs.Names.{Code}
use Rattle.classfiles.specs.Pool.{Constant, text, utf8_index_at}
use Rattle.classfiles.specs.Members.{Found, none, another, Body, Member, code_at, table_at, inners_at, body_at, attribute_at, attributes_at, access_at, name_at, descriptor_at, member_at}

sum_ends : {A B : Type 0} (n : ℕ) (f : ℕ → Res A) (g : B → A → B) → ((q : ℕ) → Ends n (f q)) → (k : ℕ) (b : B) (q : ℕ) → q ≤ n → Ends n (sum_at f g k b q)
unfolding sum_at
sum_ends n f g h zero b q l = l
sum_ends n f g h (suc k) b q l = kept_ends n (f q) _ (h q) (λ v e m. sum_ends n f g h k (g b v) e m)

module _ (s : List ℕ) (pool : List Constant) where
  -- Code ends where its attribute does
  body_ends : (L e p q : ℕ) → e ≤ L → Ends L (body_at s pool e p q)
  unfolding body_at
  body_ends L e p q l =
      then_ends L (short_at s e 7 p max_stack_limit q) _ (λ stack a. then_ends L (short_at s e 7 p max_locals_limit a) _
      (λ locals b. then_ends L (code_at s pool e p b) _ (λ code c. then_ends L (table_at s pool e p c) _
      (λ table d. then_ends L (inners_at s pool e p d) _ (λ frames f. at f _ (eqb f e) refl)))))
    where
      at : (f : ℕ) (v : Found Body) (t : Bool) → eqb f e ≡ t → Ends L (cond t (ok v f) (bad 7 p))
      at f v true z = subst (λ (n : ℕ). n ≤ L) (sym (eqb-true f e z)) l
      at f v false z = tt

  attribute_ends : (method : Bool) (q : ℕ) → Ends (length s) (attribute_at s pool method q)
  unfolding attribute_at
  attribute_ends method q =
      let L = length s in
      then_ends L (utf8_index_at s pool q) _ (λ i a. then_ends L (u4 s a) _ (λ n b. kept_ends L (skip_at L 2 b n b) _ (skip_ends L 2 b n b)
      (λ c d l. cond_ends L method _ _ (cond_ends L (eq_list (text pool i) Code) _ _ (body_ends L d q c l) l) l)))

  pub attributes_ends : (method : Bool) (q : ℕ) → Ends (length s) (attributes_at s pool method q)
  unfolding attributes_at u2
  attributes_ends method q =
      kept_ends (length s) (num2_at s (length s) 2 q q) _ (num2_ends s (length s) 2 q q)
      (λ n a l. sum_ends (length s) (attribute_at s pool method) another (attribute_ends method) n none a l)

  member_ends : (method : Bool) (q : ℕ) → Ends (length s) (member_at s pool method q)
  unfolding member_at
  member_ends method q =
      let L = length s in
      then_ends L (access_at s pool method q) _ (λ access a. then_ends L (name_at s pool method access q a) _
      (λ name b. then_ends L (descriptor_at s pool method access name b) _
      (λ descriptor c. kept_ends L (attributes_at s pool method c) _ (attributes_ends method c) (λ body e l. l))))

  -- the code's answer
  pub member_end : (method : Bool) (q : ℕ) (m : Member) (a : ℕ) → ok m a ≡ member_at s pool method q → a ≤ length s
  member_end method q m a h = ends_of (length s) (member_at s pool method q) m a (member_ends method q) (sym h)
