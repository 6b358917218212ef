-- The exception table in the bundle, eight bytes an entry, and what is asked of an instruction under it, as the code follows it. Assumes nothing.
use Rattle.std.specs.Prelude.{◌≡◌, Result, IsErrAnd, Bool, cond, not, eqb, ltb}
use Rattle.std.proofs.Common.{◌∙◌, ℕ, suc, ◌+◌, ◌*◌, ◌/◌, ◌%◌, ◌<◌, ◌≤◌, List, [], ◌∷◌, ◌++◌, arith, eq-eqb, ne_eqb, eqb-true, le-leb, refl, sym, ap, true, false}
use Rattle.std.proofs.Math.Option.{Option, none, some}
use Rattle.std.proofs.lemmas.Bool.{eqb-false, lt-leb}
use Rattle.kit.specs.Pick.{same}
use Rattle.kit.specs.Claims.{Claim, claim, Ruling, pass, fail, ruled, verdict, then, verdict-append, pass_then, none_claimed, claim_on, claim_off, then_off}
use Rattle.texts.specs.Reading.{u2_at}
use Rattle.classfiles.specs.Descriptors.{cls}
use Rattle.reader.specs.BuiltIns.{throwable, first_class}
use Rattle.classfiles.specs.Attributes.{handlers_from}
use Rattle.classfiles.specs.Members.{Handler}
use Rattle.reader.specs.Program.{Program, Method, class}
use Rattle.rules.specs.Resolve.{Resolved, resolve, caught_class}
use Rattle.rules.specs.TypeCodes.{code_ref}
use Rattle.rules.specs.ResolvedWords.{resolved_as, resolved_of, word_of}
use Rattle.rules.specs.Sites.{Sited}
use Rattle.rules.specs.declared.site.Site.{Site}
use Rattle.rules.specs.Shape.{catch_class}
use Rattle.rules.specs.Types.{Ty, ini}
use Rattle.rules.specs.States.{State, state}
use Rattle.rules.specs.Frames.{Frame}
use Rattle.rules.specs.Walk.{frame_at, into_frame, covers, handler_claims, handlers_claims, branch_claims}
use Rattle.rules.specs.TypeWords.{type_of}
use Rattle.rules.specs.TypeLaws.{type-class}
use Rattle.rules.specs.Ancestry.{lineage, Parents, states_lineage}

abbrev pub entry_at : List ℕ → ℕ → Handler
entry_at s q = record { start = u2_at s q; end = u2_at s (q + 2); target = u2_at s (q + 4); catch = u2_at s (q + 6) }

-- the class that a word of the resolved table names; n where it names none
unfoldable pub class_in : ℕ → ℕ → ℕ
class_in n w = cond (eqb (w % 64) 2) (w / 64 % 32) n

-- the class that an entry of bundle class k catches, of n classes: Throwable for 0, n where it names none
unfoldable pub catch_in : List ℕ → ℕ → ℕ → ℕ → ℕ
catch_in t k n c = cond (eqb c 0) throwable (class_in n (word_of t k c))

module _ (P : Program) (catch_of : ℕ → ℕ) (fs : List Frame) (o : ℕ) (g : Bool) (l : List Ty) where
  unfoldable pub handler_by : Handler → List (Claim ℕ)
  handler_by h =
      cond (covers o h) (claim 18 (not g) ∷ into_frame P (state false l (ini (cls (catch_of h.catch)) ∷ [])) (frame_at fs h.target)) []

  unfoldable pub handlers_by : List Handler → List (Claim ℕ)
  handlers_by [] = []
  handlers_by (h ∷ hs) = handler_by h ++ handlers_by hs

  -- one entry: what the code finds of it
  pub not_covered : (q : Bool) (h : Handler) → q ≡ false → q ≡ covers o h → pass ≡ verdict (handler_by h)
  unfolding handler_by
  not_covered q h e c = none_claimed ∙ sym (rw (sym c ∙ e))

  module _ (q : Bool) (h : Handler) (e : q ≡ true) (c : q ≡ covers o h) where
    abbrev asks : List (Claim ℕ)
    asks = into_frame P (state false l (ini (cls (catch_of h.catch)) ∷ [])) (frame_at fs h.target)

    covered : verdict (claim 18 (not g) ∷ asks) ≡ verdict (handler_by h)
    unfolding handler_by
    covered = sym (rw (sym c ∙ e))

    pub is_covered : (R : Ruling ℕ) (v x : ℕ) → pass ≡ verdict {K = ℕ} (claim 18 (not g) ∷ []) → R ≡ verdict (into_frame P (state false l (type_of v ∷ [])) (frame_at fs x))
        → type_of v ≡ ini (cls (catch_of h.catch)) → x ≡ h.target → R ≡ verdict (handler_by h)
    is_covered R v x m n f z =
        claim_on R 18 (not g) asks m
        (n ∙ ap (λ (u : Ty). verdict (into_frame P (state false l (u ∷ [])) (frame_at fs x))) f
        ∙ ap (λ (y : ℕ). verdict (into_frame P (state false l (ini (cls (catch_of h.catch)) ∷ [])) (frame_at fs y))) z)
        ∙ covered

    pub is_barred : {E : Type 0} (n : E → ℕ) (r : Result (Unit {0}) E) (z : E) → IsErrAnd r (λ y. y ≡ z) → fail (n z) ≡ verdict {K = ℕ} (claim 18 (not g) ∷ [])
        → ruled n r ≡ verdict (handler_by h)
    is_barred n r z p m = claim_off n r z p 18 (not g) asks m ∙ covered

  -- the loop's turns: n entries from q on are left, then m from p on; R is what the whole table gives
  module _ (s : List ℕ) (q n : ℕ) (R : Ruling ℕ) where
    module _ (p m : ℕ) (a : n ≡ suc m) (b : p ≡ q + 8) where
      row : verdict (handlers_by (handlers_from s n q)) ≡ then (verdict (handler_by (entry_at s q))) (verdict (handlers_by (handlers_from s m p)))
      unfolding handlers_by handlers_from
      row = rw (a, b) (verdict-append (handler_by (entry_at s q)) (handlers_by (handlers_from s m (q + 8))))

      pub hand_more : verdict (handlers_by (handlers_from s n q)) ≡ R → pass ≡ verdict (handler_by (entry_at s q)) → verdict (handlers_by (handlers_from s m p)) ≡ R
      hand_more v e = sym (row ∙ pass_then _ _ (sym e)) ∙ v

      pub hand_no : {E : Type 0} (k : E → ℕ) (r : Result (Unit {0}) E) (z : E) → IsErrAnd r (λ y. y ≡ z)
          → verdict (handlers_by (handlers_from s n q)) ≡ R → fail (k z) ≡ verdict (handler_by (entry_at s q)) → ruled k r ≡ R
      hand_no k r z y v e = then_off k r z y _ _ e ∙ sym row ∙ v

    pub hand_end : verdict (handlers_by (handlers_from s n q)) ≡ R → n ≡ 0 → pass ≡ R
    unfolding handlers_by handlers_from
    hand_end v e = none_claimed ∙ (rw e at v)

-- an entry's range by what was read
module _ (s : List ℕ) (q o a : ℕ) where
  pub covered_in : (b : ℕ) → a ≡ u2_at s q → a ≤ o → b ≡ u2_at s (q + 2) → ltb o b ≡ covers o (entry_at s q)
  covered_in b e h f = sym (rw (← e, le-leb a o h, ← f))

  pub covered_not : a ≡ u2_at s q → o < a → false ≡ covers o (entry_at s q)
  covered_not e h = sym (rw (← e, lt-leb a o h))

-- ---- the class caught
module _ (t : List ℕ) (k n c : ℕ) where
  pub catch-any : (v : ℕ) → type_of v ≡ ini (cls throwable) → c ≡ 0 → type_of v ≡ ini (cls (catch_in t k n c))
  unfolding catch_in
  catch-any v h e = h ∙ sym (rw (eq-eqb c 0 e))

  module _ (e : c ≡ 0 → ⊥) (w v : ℕ) (z : w ≡ word_of t k c) where
    pub catch-class : w % 64 ≡ 2 → v ≡ 3 + 64 * (w / 64 % 32) → type_of v ≡ ini (cls (catch_in t k n c))
    unfolding catch_in class_in
    catch-class h f =
        type-class v (w / 64 % 32) (omega arith) (omega arith)
        ∙ sym (rw (ne_eqb c 0 e, ← z, eq-eqb (w % 64) 2 h))

    pub catch_none : (w % 64 ≡ 2 → ⊥) → v ≡ 3 + 64 * n → type_of v ≡ ini (cls (catch_in t k n c))
    unfolding catch_in class_in
    catch_none h f = type-class v n (omega arith) (omega arith) ∙ sym (rw (ne_eqb c 0 e, ← z, ne_eqb (w % 64) 2 h))

pub ruleset catches = (catch-any, catch-class, catch_none, same)

-- what the word says is what the table's entry resolves to
base_part : (q : ℕ) → q / 8 % 32 ≡ q % 256 / 8
base_part q =
    let e : q / 8 ≡ 32 * (q / 256) + q % 256 / 8 = omega arith in
    omega arith

no_brackets : (w : ℕ) → w % 64 ≡ 2 → w / 8 % 8 ≡ 0
no_brackets w h =
    let e : w / 8 ≡ 8 * (w / 64) = omega arith in
    omega arith

module _ (s : List ℕ) (n w : ℕ) where
  class_by : (a b c d e : Bool) → eqb (w % 8) 1 ≡ a → eqb (w % 8) 2 ≡ b → eqb (w % 8) 3 ≡ c → eqb (w % 8) 4 ≡ d → eqb (w / 8 % 256 % 8) 0 ≡ e → class_in n w ≡ caught_class (resolved_of s w) n
  unfolding class_in resolved_as code_ref
  class_by true b c d e p q r x y = let z : w % 8 ≡ 1 = eqb-true _ _ p in rw (p, ne_eqb (w % 64) 2 (λ u. omega arith))
  class_by false true c d true p q r x y =
      let z : w % 8 ≡ 2 = eqb-true _ _ q in
      let o : w / 8 % 256 % 8 ≡ 0 = eqb-true _ _ y in
      let i : w / 8 % 256 % 8 ≡ w / 8 % 8 = omega arith in
      let j : w / 64 ≡ w / 8 / 8 = omega arith in
      let f : w % 64 ≡ 2 = omega arith in
      rw (p, q, y, eq-eqb (w % 64) 2 f, j) (base_part (w / 8))
  class_by false true c d false p q r x y =
      let z : w % 8 ≡ 2 = eqb-true _ _ q in
      let o : w / 8 % 256 % 8 ≡ 0 → ⊥ = eqb-false _ _ y in
      let i : w / 8 % 256 % 8 ≡ w / 8 % 8 = omega arith in
      rw (p, q, y, ne_eqb (w % 64) 2 (λ u. o (i ∙ no_brackets w u)))
  class_by false false true d e p q r x y = let z : w % 8 ≡ 3 = eqb-true _ _ r in rw (p, q, r, ne_eqb (w % 64) 2 (λ u. omega arith))
  class_by false false false true e p q r x y = let z : w % 8 ≡ 4 = eqb-true _ _ x in rw (p, q, r, x, ne_eqb (w % 64) 2 (λ u. omega arith))
  class_by false false false false e p q r x y = let z : (w % 8 ≡ 2 → ⊥) = eqb-false _ _ q in rw (p, q, r, x, ne_eqb (w % 64) 2 (λ u. z (omega arith)))

  class-in : class_in n w ≡ caught_class (resolved_of s w) n
  class-in = class_by _ _ _ _ _ refl refl refl refl refl

pub catch_is : (s t : List ℕ) (P : Program) (M : Method) (x : Site) → Sited s t P M x → (h : Handler) → catch_in t x.class (first_class + x.classes) h.catch ≡ catch_class P M h
unfolding catch_in catch_class
catch_is s t P M x d h =
    ap (λ (c : ℕ). cond (eqb h.catch 0) throwable c)
    (class-in s (first_class + x.classes) (word_of t x.class h.catch)
    ∙ ap (λ (q : Resolved). caught_class q (first_class + x.classes)) (d.named h.catch)
    ∙ ap (λ (m : ℕ). caught_class (resolve P (class P M.owner).pool h.catch) m) d.parents.count)

-- ---- under a program with these parents, where the words name what its pool names
module _ (P : Program) (M : Method) (t : List ℕ) (x n : ℕ) (p : Parents P t x n) where
  into_lineage : (S : State) (F : Option State) → into_frame (lineage t x n) S F ≡ into_frame P S F
  into_lineage S none = refl
  into_lineage S (some F) = states_lineage P t x n p S F

  pub branches_lineage : (fs : List Frame) (S : State) (ts : List ℕ) → branch_claims (lineage t x n) fs S ts ≡ branch_claims P fs S ts
  unfolding branch_claims
  branches_lineage fs S [] = refl
  branches_lineage fs S (o ∷ ts) =
      let a : into_frame (lineage t x n) S (frame_at fs o) ≡ into_frame P S (frame_at fs o) = into_lineage S (frame_at fs o) in
      let b : branch_claims (lineage t x n) fs S ts ≡ branch_claims P fs S ts = branches_lineage fs S ts in
      cc

  module _ (catch_of : ℕ → ℕ) (fs : List Frame) (o : ℕ) (g : Bool) (l : List Ty) where
    one_lineage : (h : Handler) → catch_of h.catch ≡ catch_class P M h → handler_by (lineage t x n) catch_of fs o g l h ≡ handler_claims P M fs o g l h
    unfolding handler_by
    one_lineage h e = rw (e, into_lineage (state false l (ini (cls (catch_class P M h)) ∷ [])) (frame_at fs h.target))

    pub handlers_lineage : ((h : Handler) → catch_of h.catch ≡ catch_class P M h) → (hs : List Handler)
        → handlers_by (lineage t x n) catch_of fs o g l hs ≡ handlers_claims P M fs o g l hs
    unfolding handlers_by handlers_claims
    handlers_lineage e [] = refl
    handlers_lineage e (h ∷ hs) =
        let a : handler_by (lineage t x n) catch_of fs o g l h ≡ handler_claims P M fs o g l h = one_lineage h (e h) in
        let b : handlers_by (lineage t x n) catch_of fs o g l hs ≡ handlers_claims P M fs o g l hs = handlers_lineage e hs in
        cc

pub catch_via : (t : List ℕ) (k n v a b : ℕ) → type_of v ≡ ini (cls (catch_in t k n a)) → a ≡ b → type_of v ≡ ini (cls (catch_in t k n b))
catch_via t k n v a b h e = h ∙ ap (λ (c : ℕ). ini (cls (catch_in t k n c))) e
