-- A list of labelled claims and its ruling, the first that fails; and the code's number for it, 0 where none does.
-- Assumes nothing.
use Prim.Native.Nat.{ℕ, zero, suc, ◌<◌}
use Rattle.std.specs.Prelude.{◌≡◌, Result, Ok, Err, IsErrAnd, Bool, cond, not, eqb, T, length, get_or}
use Rattle.std.proofs.Math.Path.{refl, ap}
use Rattle.std.proofs.Common.{sym, ◌∙◌, le_of_suc-le-suc, arith, eq-eqb, ne_eqb, eqb-true, lt-ltb, le-ltb, le-leb}
use Rattle.std.proofs.Math.Bool.{true, false}
use mathlib.Core.List.{List, [], ◌∷◌, ◌++◌}
use Rattle.std.proofs.lemmas.Bool.{not-true, not-false, lt-leb}
use Rattle.kit.specs.Pick.{same}

-- A claim asks something under a label (a verdict's number, or number and place, or all four numbers).
pub data Claim (K : Type 0) : Type 0 where
  claim : K → Bool → Claim K

-- What a list of claims comes to: it passes, or the label of the first that fails.
pub data Ruling (K : Type 0) : Type 0 where
  pass : Ruling K
  fail : K → Ruling K

unfoldable pub verdict : {K : Type 0} → List (Claim K) → Ruling K
verdict [] = pass
verdict (claim k b ∷ cs) = cond b (verdict cs) (fail k)

-- the first failure wins
unfoldable pub then : {K : Type 0} → Ruling K → Ruling K → Ruling K
then pass r = r
then (fail k) r = fail k

unfoldable pub relabel : {K L : Type 0} → (K → L) → Ruling K → Ruling L
relabel f pass = pass
relabel f (fail k) = fail (f k)

-- the same claims under other labels
unfoldable pub label : {K L : Type 0} → (K → L) → List (Claim K) → List (Claim L)
label f [] = []
label f (claim k b ∷ cs) = claim (f k) b ∷ label f cs

-- first failure of a list of rulings
unfoldable pub first_of : {K : Type 0} → List (Ruling K) → Ruling K
first_of [] = pass
first_of (r ∷ rs) = then r (first_of rs)

abbrev pub AllT : {K : Type 0} → List (Claim K) → Type 0
AllT [] = Unit {0}
AllT (claim k b ∷ cs) = T b × AllT cs

-- what the code's number says
unfoldable pub is : ℕ → Ruling ℕ
is r = cond (eqb r 0) pass (fail r)

module _ {K : Type 0} where
  pub fail_pass : (k : K) → fail k ≡ pass → ⊥
  fail_pass k e = let z : ◌≡◌ {A = ℕ} 0 1 = cc in absurd (omega arith)

  pub then_assoc : (u v w : Ruling K) → then (then u v) w ≡ then u (then v w)
  unfolding then
  then_assoc pass v w = refl
  then_assoc (fail k) v w = refl

  pub then_pass : (u : Ruling K) → then u pass ≡ u
  unfolding then
  then_pass pass = refl
  then_pass (fail k) = refl

  pub pass_then : (u v : Ruling K) → u ≡ pass → then u v ≡ v
  unfolding then
  pass_then u v e = rw e

  pub fail_then : (u v : Ruling K) (k : K) → u ≡ fail k → then u v ≡ fail k
  unfolding then
  fail_then u v k e = rw e

  pub then_pass_left : (u v : Ruling K) → then u v ≡ pass → u ≡ pass
  unfolding then
  then_pass_left pass v e = refl
  then_pass_left (fail k) v e = e

  pub then_pass_right : (u v : Ruling K) → then u v ≡ pass → v ≡ pass
  unfolding then
  then_pass_right pass v e = e
  then_pass_right (fail k) v e = absurd (fail_pass k e)

  pub verdict_none : verdict {K = K} [] ≡ pass
  unfolding verdict
  verdict_none = refl

  pub verdict_yes : (k : K) (b : Bool) (cs : List (Claim K)) → b ≡ true → verdict (claim k b ∷ cs) ≡ verdict cs
  unfolding verdict
  verdict_yes k b cs e = rw e

  pub verdict_no : (k : K) (b : Bool) (cs : List (Claim K)) → b ≡ false → verdict (claim k b ∷ cs) ≡ fail k
  unfolding verdict
  verdict_no k b cs e = rw e

  pub verdict-append : (cs ds : List (Claim K)) → verdict (cs ++ ds) ≡ then (verdict cs) (verdict ds)
  unfolding verdict then
  verdict-append [] ds = refl
  verdict-append (claim k true ∷ cs) ds = verdict-append cs ds
  verdict-append (claim k false ∷ cs) ds = refl

  pub pass_all : (cs : List (Claim K)) → verdict cs ≡ pass → AllT cs
  unfolding verdict
  pass_all [] e = tt
  pass_all (claim k true ∷ cs) e = (tt, pass_all cs e)
  pass_all (claim k false ∷ cs) e = absurd (fail_pass k e)

  pub all_pass : (cs : List (Claim K)) → AllT cs → verdict cs ≡ pass
  unfolding verdict
  all_pass [] a = refl
  all_pass (claim k true ∷ cs) a = all_pass cs a.1
  all_pass (claim k false ∷ cs) a = absurd a.0

  pub all_append : (cs ds : List (Claim K)) → AllT cs → AllT ds → AllT (cs ++ ds)
  all_append [] ds a b = b
  all_append (claim k t ∷ cs) ds a b = (a.0, all_append cs ds a.1 b)

  pub all_split : (cs ds : List (Claim K)) → AllT (cs ++ ds) → AllT cs × AllT ds
  all_split [] ds a = (tt, a)
  all_split (claim k t ∷ cs) ds a = let r = all_split cs ds a.1 in ((a.0, r.0), r.1)

  pub first_of_none : first_of {K = K} [] ≡ pass
  unfolding first_of
  first_of_none = refl

  pub first_of_cons : (r : Ruling K) (rs : List (Ruling K)) → first_of (r ∷ rs) ≡ then r (first_of rs)
  unfolding first_of
  first_of_cons r rs = refl

  pub first_of-append : (rs qs : List (Ruling K)) → first_of (rs ++ qs) ≡ then (first_of rs) (first_of qs)
  unfolding first_of then
  first_of-append [] qs = refl
  first_of-append (pass ∷ rs) qs = first_of-append rs qs
  first_of-append (fail k ∷ rs) qs = refl

  -- where the first failure is none, each of them passes
  pub first_of_pass : (rs : List (Ruling K)) → first_of rs ≡ pass → (i : ℕ) → i < length rs → get_or rs i pass ≡ pass
  unfolding first_of
  first_of_pass [] e i h = refl
  first_of_pass (r ∷ rs) e zero h = then_pass_left r (first_of rs) e
  first_of_pass (r ∷ rs) e (suc i) h = first_of_pass rs (then_pass_right r (first_of rs) e) i (le_of_suc-le-suc h)

  pub pass_first_of : (rs : List (Ruling K)) → ((i : ℕ) → i < length rs → get_or rs i pass ≡ pass) → first_of rs ≡ pass
  unfolding first_of
  pass_first_of [] h = refl
  pass_first_of (r ∷ rs) h =
      pass_then r (first_of rs) (h 0 (omega arith)) ∙ pass_first_of rs (λ i l. h (suc i) (omega arith))

module _ {K L : Type 0} (f : K → L) where
  pub relabel-then : (u v : Ruling K) → relabel f (then u v) ≡ then (relabel f u) (relabel f v)
  unfolding relabel then
  relabel-then pass v = refl
  relabel-then (fail k) v = refl

  pub relabel_pass : (u : Ruling K) → relabel f u ≡ pass → u ≡ pass
  unfolding relabel
  relabel_pass pass e = refl
  relabel_pass (fail k) e = absurd (fail_pass (f k) e)

  pub verdict-label : (cs : List (Claim K)) → verdict (label f cs) ≡ relabel f (verdict cs)
  unfolding verdict label relabel
  verdict-label [] = refl
  verdict-label (claim k true ∷ cs) = verdict-label cs
  verdict-label (claim k false ∷ cs) = refl

  pub label-append : (cs ds : List (Claim K)) → label f (cs ++ ds) ≡ label f cs ++ label f ds
  unfolding label
  label-append [] ds = refl
  label-append (claim k b ∷ cs) ds = ap (λ (r : List (Claim L)). claim (f k) b ∷ r) (label-append cs ds)

  pub all-label : (cs : List (Claim K)) → AllT cs → AllT (label f cs)
  unfolding label
  all-label [] a = tt
  all-label (claim k b ∷ cs) a = (a.0, all-label cs a.1)

  pub label-all : (cs : List (Claim K)) → AllT (label f cs) → AllT cs
  unfolding label
  label-all [] a = tt
  label-all (claim k b ∷ cs) a = (a.0, label-all cs a.1)

pub relabel-relabel : {K L M : Type 0} (f : K → L) (g : L → M) (u : Ruling K) → relabel g (relabel f u) ≡ relabel (λ k. g (f k)) u
unfolding relabel
relabel-relabel f g pass = refl
relabel-relabel f g (fail k) = refl

pub is_zero : (a : ℕ) → a ≡ 0 → is a ≡ pass
unfolding is
is_zero a e = simp (eq-eqb a 0 e)

pub is_not : (a : ℕ) → (a ≡ 0 → ⊥) → is a ≡ fail a
unfolding is
is_not a e = simp (ne_eqb a 0 e)

pub is_fail : (a : ℕ) → eqb a 0 ≡ false → is a ≡ fail a
unfolding is
is_fail a e = simp e

pub pos_eqb : (a : ℕ) → 0 < a → eqb a 0 ≡ false
pos_eqb a h = ne_eqb a 0 (λ e. omega arith)

pub zero_is : (a : ℕ) → is a ≡ pass → a ≡ 0
unfolding is
zero_is a e = go (eqb a 0) refl e
  where
    go : (t : Bool) → eqb a 0 ≡ t → cond t pass (fail a) ≡ pass → a ≡ 0
    go true p q = eqb-true a 0 p
    go false p q = absurd (fail_pass a q)

pub fail_is : (a k : ℕ) → is a ≡ fail k → a ≡ k
unfolding is
fail_is a k e = go (eqb a 0) e
  where
    go : (t : Bool) → cond t pass (fail a) ≡ fail k → a ≡ k
    go true q = absurd (fail_pass k (sym q))
    go false q = cc

pub first_zero : (a b : ℕ) → a ≡ 0 → is b ≡ then (is a) (is b)
first_zero a b e = sym (pass_then (is a) (is b) (is_zero a e))

pub first-not : (a b : ℕ) → (a ≡ 0 → ⊥) → is a ≡ then (is a) (is b)
first-not a b e = is_not a e ∙ sym (fail_then (is a) (is b) a (is_not a e))

-- a chain of the code's `first` is a list of claims; a test that returns is the claim that fails
module _ (r : ℕ) (cs : List (Claim ℕ)) where
  pub one : (a b n : ℕ) (t : Bool) → is r ≡ then (is a) (is b) → is a ≡ verdict (claim n t ∷ []) → is b ≡ verdict cs → is r ≡ verdict (claim n t ∷ cs)
  one a b n t h p q =
      h ∙ (ap (λ (v : Ruling ℕ). then v (is b)) p ∙ (ap (then (verdict (claim n t ∷ []))) q ∙ sym (verdict-append (claim n t ∷ []) cs)))

  pub many : (a b : ℕ) (ds : List (Claim ℕ)) → is r ≡ then (is a) (is b) → is a ≡ verdict cs → is b ≡ verdict ds → is r ≡ verdict (cs ++ ds)
  many a b ds h p q = h ∙ (ap (λ (v : Ruling ℕ). then v (is b)) p ∙ (ap (then (verdict cs)) q ∙ sym (verdict-append cs ds)))

  -- the claims before those that the code looks at hold
  pub holds : (n : ℕ) (t : Bool) → t ≡ true → is r ≡ verdict cs → is r ≡ verdict (claim n t ∷ cs)
  holds n t e h = h ∙ sym (verdict_yes n t cs e)

  pub holds_by : (n : ℕ) (q t : Bool) → q ≡ true → q ≡ t → is r ≡ verdict cs → is r ≡ verdict (claim n t ∷ cs)
  holds_by n q t e s h = holds n t (sym s ∙ e) h

  pub holds_not : (n : ℕ) (q t : Bool) → not q ≡ false → q ≡ t → is r ≡ verdict cs → is r ≡ verdict (claim n t ∷ cs)
  holds_not n q t e s h = holds n t (sym s ∙ not-false q e) h

  pub fails : (t : Bool) → t ≡ false → eqb r 0 ≡ false → is r ≡ verdict (claim r t ∷ cs)
  fails t e z = is_fail r z ∙ sym (verdict_no r t cs e)

  pub fails_by : (q t : Bool) → q ≡ false → q ≡ t → eqb r 0 ≡ false → is r ≡ verdict (claim r t ∷ cs)
  fails_by q t e s z = fails t (sym s ∙ e) z

  pub fails_not : (q t : Bool) → not q ≡ true → q ≡ t → eqb r 0 ≡ false → is r ≡ verdict (claim r t ∷ cs)
  fails_not q t e s z = fails t (sym s ∙ not-true q e) z

pub nothing : (r : ℕ) → r ≡ 0 → is r ≡ verdict []
nothing r e = is_zero r e ∙ sym verdict_none

-- What a check answers, its errors under their labels: it passes, or fails with the error's label.
abbrev pub ruled : {A E K : Type 0} → (E → K) → Result A E → Ruling K
ruled f (Ok a) = pass
ruled f (Err e) = fail (f e)

-- A chain of `?` is a list of claims: what passes goes on, and the first error is handed on.
module _ {K : Type 0} (R : Ruling K) where
  pub then_on : (u v : Ruling K) → pass ≡ u → R ≡ v → R ≡ then u v
  then_on u v h p = p ∙ sym (pass_then u v (sym h))

  pub claim_on : (k : K) (t : Bool) (cs : List (Claim K)) → pass ≡ verdict (claim k t ∷ []) → R ≡ verdict cs → R ≡ verdict (claim k t ∷ cs)
  claim_on k t cs h p = then_on _ _ h p ∙ sym (verdict-append (claim k t ∷ []) cs)

  pub claims_on : (cs ds : List (Claim K)) → pass ≡ verdict cs → R ≡ verdict ds → R ≡ verdict (cs ++ ds)
  claims_on cs ds h p = then_on _ _ h p ∙ sym (verdict-append cs ds)

  pub claim_holds : (k : K) (t : Bool) (cs : List (Claim K)) → t ≡ true → R ≡ verdict cs → R ≡ verdict (claim k t ∷ cs)
  claim_holds k t cs e p = p ∙ sym (verdict_yes k t cs e)

  pub claim_holds_by : (k : K) (q t : Bool) (cs : List (Claim K)) → q ≡ true → q ≡ t → R ≡ verdict cs → R ≡ verdict (claim k t ∷ cs)
  claim_holds_by k q t cs e s p = claim_holds k t cs (sym s ∙ e) p

module _ {K : Type 0} (k : K) (cs : List (Claim K)) where
  pub claim_fails : (t : Bool) → t ≡ false → fail k ≡ verdict (claim k t ∷ cs)
  claim_fails t e = sym (verdict_no k t cs e)

  pub claim_fails_by : (q t : Bool) → q ≡ false → q ≡ t → fail k ≡ verdict (claim k t ∷ cs)
  claim_fails_by q t e s = claim_fails t (sym s ∙ e)

-- the error that `?` hands on
module _ {A E K : Type 0} (f : E → K) (r : Result A E) (e : E) (p : IsErrAnd r (λ z. z ≡ e)) where
  pub handed : ruled f r ≡ fail (f e)
  handed = go r p
    where
      go : (q : Result A E) → IsErrAnd q (λ z. z ≡ e) → ruled f q ≡ fail (f e)
      go (Ok u) h = absurd h
      go (Err z) h = ap (λ (x : E). fail (f x)) h

  pub then_off : (u v : Ruling K) → fail (f e) ≡ u → ruled f r ≡ then u v
  then_off u v h = handed ∙ sym (fail_then u v (f e) (sym h))

  pub claim_off : (k : K) (t : Bool) (cs : List (Claim K)) → fail (f e) ≡ verdict (claim k t ∷ []) → ruled f r ≡ verdict (claim k t ∷ cs)
  claim_off k t cs h = then_off _ _ h ∙ sym (verdict-append (claim k t ∷ []) cs)

  pub claims_off : (cs ds : List (Claim K)) → fail (f e) ≡ verdict cs → ruled f r ≡ verdict (cs ++ ds)
  claims_off cs ds h = then_off _ _ h ∙ sym (verdict-append cs ds)

pub none_claimed : {K : Type 0} → pass ≡ verdict {K = K} []
none_claimed = sym verdict_none

pub ruleset rulings = (then_on, then_off, claim_on, claim_off, claims_on, claims_off, claim_holds, claim_holds_by, claim_fails, claim_fails_by, none_claimed, same, eq-eqb, ne_eqb, lt-ltb, le-ltb, le-leb, lt-leb)

pub ruleset claims = (one, many, holds, holds_by, holds_not, fails, fails_by, fails_not, nothing, first_zero, first-not, pos_eqb, same, eq-eqb, ne_eqb, lt-ltb, le-ltb, le-leb, lt-leb)
