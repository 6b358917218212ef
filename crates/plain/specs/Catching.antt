-- The exception table in the bundle, eight bytes an entry, as the code searches it. Assumes nothing.
use Rattle.std.specs.Prelude.{◌≤◌, Option as Found, Some, None, ◌≡◌, ℕ, zero, suc, ◌+◌, ◌-◌, ◌*◌, ◌/◌, ◌%◌, ◌<◌, Bool, true, false, cond, List, [], ◌∷◌, ◌==◌, nat_lt, refl}
use Rattle.std.proofs.Common.{sym, ◌∙◌, ap, arith}
use Rattle.std.proofs.Math.Option.{Option, none, some}
use Rattle.kit.specs.Words.{word}
use Rattle.texts.specs.Reading.{u2_at}
use Rattle.reader.specs.BuiltIns.{throwable}
use Rattle.classfiles.specs.Attributes.{handlers_from}
use Rattle.classfiles.specs.Members.{Handler}
use Rattle.reader.specs.Program.{Program, Method, below}
use Rattle.rules.specs.Shape.{catch_class}
use Rattle.rules.specs.Walk.{covers}
use Rattle.rules.specs.Ancestry.{lineage, Parents, below_lineage}
use Rattle.plain.specs.Machine.{catcher}

abbrev pub entry_at : List ℕ → ℕ → Handler
entry_at s q = record { start = u2_at s q; end = u2_at s (q + 2); target = u2_at s (q + 4); catch = u2_at s (q + 6) }

-- the word of entry i of the pool of bundle class k; the class that a catch_type stands for, n where it names none
unfoldable pub named_in : List ℕ → ℕ → ℕ → ℕ
named_in t k i = cond (nat_lt k 16) (cond (nat_lt i 1024) (word t (25760 + 1024 * k + i)) 0) 0

unfoldable pub caught_in : List ℕ → ℕ → ℕ → ℕ → ℕ
caught_in t k n i = cond (i == 0) throwable (cond (named_in t k i % 64 == 2) (named_in t k i / 64 % 32) n)

abbrev pub caught_of : Found ℕ → Option ℕ
caught_of None = none
caught_of (Some target) = some target

module _ (L : Program) (f : ℕ → ℕ) (o c : ℕ) where
  unfoldable pub catches_by : Handler → Bool
  catches_by h = cond (covers o h) (below L c (f h.catch)) false

  unfoldable pub catcher_by : List Handler → Option ℕ
  catcher_by [] = none
  catcher_by (h ∷ hs) = cond (catches_by h) (some h.target) (catcher_by hs)

  turn : (s : List ℕ) (q n : ℕ) → 0 < n → catcher_by (handlers_from s n q) ≡ cond (catches_by (entry_at s q)) (some (u2_at s (q + 4))) (catcher_by (handlers_from s (n - 1) (q + 8)))
  unfolding catcher_by handlers_from
  turn s q zero h = absurd (omega arith)
  turn s q (suc n) h =
      let e : suc n - 1 ≡ n = omega arith in
      rw e

  -- ---- the search from entry i on
  abbrev pub from_entry : List ℕ → ℕ → ℕ → ℕ → Option ℕ
  from_entry s at n i = catcher_by (handlers_from s (n - i) (at + 8 * i))

  pub search_start : (s : List ℕ) (at n : ℕ) → from_entry s at n 0 ≡ catcher_by (handlers_from s n at)
  search_start s at n =
      let e : n - 0 ≡ n = omega arith in
      let f : at + 8 * 0 ≡ at = omega arith in
      rw (e, f)

  module _ (s : List ℕ) (at n i : ℕ) (R : Option ℕ) (v : from_entry s at n i ≡ R) where
    pub search_none : n ≤ i → none ≡ R
    unfolding catcher_by handlers_from
    search_none h =
        let e : 0 ≡ n - i = omega arith in
        ap (λ (m : ℕ). catcher_by (handlers_from s m (at + 8 * i))) e ∙ v

    module _ (h : i < n) (b : Bool) where
      pub search_hit : b ≡ true → b ≡ catches_by (entry_at s (at + 8 * i)) → (a : ℕ) → a ≡ u2_at s (at + 8 * i + 4) → some a ≡ R
      search_hit e g a p = ap some p ∙ sym (turn s (at + 8 * i) (n - i) (omega arith) ∙ rw (← g, e)) ∙ v

      pub search_next : b ≡ false → b ≡ catches_by (entry_at s (at + 8 * i)) → from_entry s at n (i + 1) ≡ R
      search_next e g =
          let m : n - (i + 1) ≡ n - i - 1 = omega arith in
          let q : at + 8 * (i + 1) ≡ at + 8 * i + 8 = omega arith in
          rw (m, q) (sym (turn s (at + 8 * i) (n - i) (omega arith) ∙ rw (← g, e)) ∙ v)

-- what catches in every program with these parents, of a method whose entries name those classes
pub catcher-by : (P : Program) (M : Method) (t : List ℕ) (at count : ℕ) (p : Parents P t at count) (f : ℕ → ℕ) → ((h : Handler) → catch_class P M h ≡ f h.catch) → (o c : ℕ) (hs : List Handler)
    → catcher P M o c hs ≡ catcher_by (lineage t at count) f o c hs
unfolding catcher catcher_by catches_by
catcher-by P M t at count p f e o c [] = refl
catcher-by P M t at count p f e o c (h ∷ hs) = rw (e h, ← below_lineage P t at count p c (f h.catch), catcher-by P M t at count p f e o c hs)
