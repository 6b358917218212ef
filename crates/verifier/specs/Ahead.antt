-- What lies ahead of the walk: the row of the next frame, and up to where no table entry covers an offset. Assumes nothing.
use Rattle.std.specs.Prelude.{ℕ, zero, suc, ◌+◌, ◌-◌, ◌*◌, ◌<◌, ◌≤◌, ◌≡◌, refl, Result, Ok, Err, is_ok, Bool, true, false, cond, List, [], ◌∷◌, ◌⊎◌, ltb, leb, take}
use Rattle.std.proofs.Common.{sym, ap, subst, ◌∙◌, inl, inr, arith, ne_eqb, le-ltb, lt-ltb, le-leb, ltb-true, ltb-false}
use Rattle.std.proofs.Math.Option.{none}
use Rattle.std.proofs.lemmas.Bool.{lt-leb}
use Rattle.kit.specs.Pick.{side}
use Rattle.kit.specs.Bools.{not_so}
use Rattle.kit.specs.Words.{word}
use Rattle.kit.specs.Claims.{Claim, pass, ruled, verdict}
use Rattle.texts.specs.Faults.{number}
use Rattle.texts.specs.declared.faults.Refusal.{Refusal}
use Rattle.texts.specs.Reading.{u2_at}
use Rattle.classfiles.specs.Attributes.{handlers_from}
use Rattle.reader.specs.BuiltIns.{first_class}
use Rattle.reader.specs.Program.{Program}
use Rattle.classfiles.specs.Members.{Handler}
use Rattle.rules.specs.Types.{Ty, Key}
use Rattle.rules.specs.Frames.{Frame}
use Rattle.rules.specs.Walk.{frame_at, covers}
use Rattle.rules.specs.Ancestry.{lineage}
use Rattle.rules.specs.Slots.{locals_of, veil}
use Rattle.rules.specs.SlotLaws.{locals_same, slot-word, veil_no}
use Rattle.rules.specs.FrameRows.{frames_at, frames_of, offset_at, Laid}
use Rattle.rules.specs.Handlers.{entry_at, catch_in, handler_by, handlers_by, not_covered, hand_more, hand_end}
use Rattle.rules.specs.StepClaims.{frames_outside, lineage_outside}
use Rattle.verifier.specs.Callees.{Beside}
use Rattle.verifier.specs.Lineup.{front-word, front-named, beside_front, Walking}
use Rattle.rules.specs.declared.site.Site.{Site}
use Rattle.rules.specs.declared.slots.Held.{Held}
use Rattle.rules.specs.declared.frames.Rows.{Rows}
use Rattle.rules.specs.declared.types.Kin.{Kin}
use Rattle.verifier.specs.declared.ahead.Ahead.{Ahead}

-- ---- handlers
-- where it is so, they ask nothing that fails at o
abbrev pub Handled : List ℕ → List ℕ → Site → Kin → Rows → Held → ℕ → Bool → Type 0
Handled s t x kin f h o b =
    b ≡ true → pass ≡ verdict (handlers_by (lineage t kin.at kin.count) (catch_in t x.class (first_class + x.classes)) (frames_of t f) o h.flag (locals_of t h) (handlers_from s x.entries x.table))

hands_same : (L : Program) (a b : ℕ → ℕ) → ((c : ℕ) → a c ≡ b c) → (fs : List Frame) (o : ℕ) (g : Bool) (l : List Ty) (hs : List Handler) → handlers_by L a fs o g l hs ≡ handlers_by L b fs o g l hs
unfolding handlers_by handler_by
hands_same L a b e fs o g l [] = refl
hands_same L a b e fs o g l (h ∷ hs) = rw (e h.catch, hands_same L a b e fs o g l hs)

-- what stands before the state, and the locals, are all that they look at
hands_kept : (s t u : List ℕ) (x : Site) (kin : Kin) (f : Rows) (h : Held) (o : ℕ) → Walking s t x kin f h → take 260736 u ≡ take 260736 t → locals_of u h ≡ locals_of t h
    → handlers_by (lineage u kin.at kin.count) (catch_in u x.class (first_class + x.classes)) (frames_of u f) o h.flag (locals_of u h) (handlers_from s x.entries x.table)
    ≡ handlers_by (lineage t kin.at kin.count) (catch_in t x.class (first_class + x.classes)) (frames_of t f) o h.flag (locals_of t h) (handlers_from s x.entries x.table)
unfolding catch_in
hands_kept s t u x kin f h o w q S =
    let r = w.rows in let z = w.kin_at in let c = w.kin_count in let n = w.bounded.classes in
    let F : frames_of u f ≡ frames_of t f = frames_outside 65184 t u (front-word t u q) f w.laid.locals (omega arith) in
    let L : lineage u kin.at kin.count ≡ lineage t kin.at kin.count = lineage_outside 65184 t u (front-word t u q) kin.at kin.count (omega arith) in
    rw (L, F, S) (hands_same (lineage t kin.at kin.count) (catch_in u x.class (first_class + x.classes)) (catch_in t x.class (first_class + x.classes)) (λ c. rw (front-named t u q x.class c)) (frames_of t f) o h.flag (locals_of t h) (handlers_from s x.entries x.table))

-- the parameters behind the state leave that alone
pub handled_beside : (s t u : List ℕ) (x : Site) (kin : Kin) (f : Rows) (h : Held) (o : ℕ) (b : Bool) → Walking s t x kin f h → Beside 65256 t u → Handled s t x kin f h o b → Handled s u x kin f h o b
handled_beside s t u x kin f h o b w k d e =
    let a = w.at in let m = w.locals in let l = w.laid.locals in
    let S : locals_of u h ≡ locals_of t h = locals_same t u h.at h.locals (λ i p y. slot-word t u i (k.kept i (inl (omega arith)))) in
    d e ∙ ap (λ (cs : List (Claim ℕ)). verdict cs) (sym (hands_kept s t u x kin f h o w (beside_front t u k) S))

-- what is left to ask where they have been asked
pub handled_left : (s t : List ℕ) (x : Site) (kin : Kin) (f : Rows) (h : Held) (o : ℕ) (asked hide : Bool) (k : Key) → Handled s t x kin f h o asked → asked ≡ true → hide ≡ false
    → pass ≡ verdict (handlers_by (lineage t kin.at kin.count) (catch_in t x.class (first_class + x.classes)) (frames_of t f) o h.flag (veil hide k (locals_of t h)) (handlers_from s x.entries x.table))
handled_left s t x kin f h o asked hide k d e z =
    d e
    ∙ ap (λ (l : List Ty). verdict (handlers_by (lineage t kin.at kin.count) (catch_in t x.class (first_class + x.classes)) (frames_of t f) o h.flag l (handlers_from s x.entries x.table)))
    (sym (ap (λ (b : Bool). veil b k (locals_of t h)) z ∙ veil_no k (locals_of t h)))

-- as they were asked
pub handled_asked : (s t : List ℕ) (x y : Site) (kin : Kin) (f : Rows) (h : Held) (o : ℕ) (k : Key) (r : Result (Unit {0}) Refusal) → y ≡ x
    → ruled number r ≡ verdict (handlers_by (lineage t kin.at kin.count) (catch_in t y.class (first_class + y.classes)) (frames_of t f) o h.flag (veil false k (locals_of t h)) (handlers_from s y.entries y.table))
    → Handled s t x kin f h o (is_ok r)
handled_asked s t x y kin f h o k (Err z) e d = λ q. absurd (not_so q)
handled_asked s t x y kin f h o k (Ok u) e d = subst (λ (z : Site). Handled s t z kin f h o true) e (λ q.
    d
    ∙ ap (λ (l : List Ty). verdict (handlers_by (lineage t kin.at kin.count) (catch_in t y.class (first_class + y.classes)) (frames_of t f) o h.flag l (handlers_from s y.entries y.table))) (veil_no k (locals_of t h)))

-- from o up to z no entry of the table asks anything
pub record Quiet (s : List ℕ) (x : Site) (o z : ℕ) : Type 0 where
  pub asks : (L : Program) (catch_of : ℕ → ℕ) (fs : List Frame) (g : Bool) (l : List Ty) (p : ℕ) → o ≤ p → p < z
      → pass ≡ verdict (handlers_by L catch_of fs p g l (handlers_from s x.entries x.table))

pub quiet_start : (s : List ℕ) (x : Site) (o z : ℕ) → z ≡ 0 → Quiet s x o z
quiet_start s x o z e = record { asks = λ L k fs g l p a b. absurd (omega arith) }

pub quiet_on : (s : List ℕ) (x : Site) (o z p y : ℕ) → Quiet s x o z → o ≤ p → y ≤ z → Quiet s x p y
quiet_on s x o z p y q a b = record { asks = λ L k fs g l i c d. q.asks L k fs g l i (omega arith) (omega arith) }

-- the entry at q covers nothing from o up to z, which is no later than r
pub record Nearer (s : List ℕ) (q o r z : ℕ) : Type 0 where
  pub least : z ≤ r
  pub free : (p : ℕ) → o ≤ p → p < z → false ≡ covers p (entry_at s q)

uncovered : (p b : ℕ) (k : Bool) → b ≤ p → false ≡ cond k (ltb p b) false
uncovered p b true l = sym (le-ltb p b l)
uncovered p b false l = refl

pub nearer_not : (s : List ℕ) (q o r b : ℕ) → b ≡ u2_at s (q + 2) → b ≤ o → Nearer s q o r r
nearer_not s q o r b e l = record { least = omega arith; free = λ p h k. uncovered p (u2_at s (q + 2)) (leb (u2_at s q) p) (omega arith) }

pub nearer_least : (s : List ℕ) (q o r a z : ℕ) → a ≡ u2_at s q → z ≤ a → z ≤ r → Nearer s q o r z
nearer_least s q o r a z e l m = record { least = m; free = λ p h k. sym (rw (lt-leb (u2_at s q) p (omega arith))) }

-- the rest from q on asks what the whole table does, n entries from b on
pub record Hushing (s : List ℕ) (b n o q left r : ℕ) : Type 0 where
  pub asks : (L : Program) (catch_of : ℕ → ℕ) (fs : List Frame) (g : Bool) (l : List Ty) (p : ℕ) → o ≤ p → p < r
      → verdict (handlers_by L catch_of fs p g l (handlers_from s left q)) ≡ verdict (handlers_by L catch_of fs p g l (handlers_from s n b))

pub hushing_start : (s : List ℕ) (b n o r : ℕ) → Hushing s b n o b n r
hushing_start s b n o r = record { asks = λ L k fs g l p a c. refl }

pub hushing_next : (s : List ℕ) (b n o q left r : ℕ) → Hushing s b n o q left r → 0 < left → (z : ℕ) → Nearer s q o r z → Hushing s b n o (q + 8) (left - 1) z
hushing_next s b n o q left r h m z d = record {
  asks = λ L k fs g l p a c.
      let e = d.least in
      hand_more L k fs p g l s q left _ (q + 8) (left - 1) (omega arith) refl (h.asks L k fs g l p a (omega arith)) (not_covered L k fs p g l false (entry_at s q) refl (d.free p a c));
}

pub hushing_end : (s : List ℕ) (x : Site) (o q left r : ℕ) → Hushing s x.table x.entries o q left r → left ≤ 0 → Quiet s x o r
hushing_end s x o q left r h m = record { asks = λ L k fs g l p a c. hand_end L k fs p g l s q left _ (h.asks L k fs g l p a c) (omega arith) }

-- ---- entries that cover the same
-- from o up to z the entry at q covers what it does at o, and z is no later than r
pub record Edge (s : List ℕ) (q o r z : ℕ) : Type 0 where
  pub least : z ≤ r
  pub same : (p : ℕ) → o ≤ p → p < z → covers p (entry_at s q) ≡ covers o (entry_at s q)

module _ (s : List ℕ) (q o r a : ℕ) (e : a ≡ u2_at s q) where
  pub edge_before : (z : ℕ) → o < a → z ≤ a → z ≤ r → Edge s q o r z
  edge_before z l m n = record { least = n; same = λ p i k. rw (lt-leb (u2_at s q) p (omega arith), lt-leb (u2_at s q) o (omega arith)) }

  module _ (l : a ≤ o) (b : ℕ) (d : b ≡ u2_at s (q + 2)) where
    pub edge_within : (z : ℕ) → o < b → z ≤ b → z ≤ r → Edge s q o r z
    edge_within z k m n = record {
      least = n;
      same = λ p i j. rw (le-leb (u2_at s q) p (omega arith), le-leb (u2_at s q) o (omega arith), lt-ltb p (u2_at s (q + 2)) (omega arith), lt-ltb o (u2_at s (q + 2)) (omega arith));
    }

    pub edge_behind : b ≤ o → Edge s q o r r
    edge_behind k = record {
      least = omega arith;
      same = λ p i j.
          sym (uncovered p (u2_at s (q + 2)) (leb (u2_at s q) p) (omega arith)) ∙ uncovered o (u2_at s (q + 2)) (leb (u2_at s q) o) (omega arith);
    }

-- from o up to z every entry covers what it does at o
pub record Alike (s : List ℕ) (x : Site) (o z : ℕ) : Type 0 where
  pub same : (i : ℕ) → i < x.entries → (p : ℕ) → o ≤ p → p < z → covers p (entry_at s (x.table + 8 * i)) ≡ covers o (entry_at s (x.table + 8 * i))

pub alike_on : (s : List ℕ) (x : Site) (o z p : ℕ) → Alike s x o z → o ≤ p → p < z → Alike s x p z
alike_on s x o z p a l m = record { same = λ i n r j k. a.same i n r (omega arith) k ∙ sym (a.same i n p l m) }

-- the entries before the one at q, of n from b on, do so
pub record Edging (s : List ℕ) (b n o q left r : ℕ) : Type 0 where
  pub at : q ≡ b + 8 * (n - left)
  pub few : left ≤ n
  pub same : (i : ℕ) → i < n - left → (p : ℕ) → o ≤ p → p < r → covers p (entry_at s (b + 8 * i)) ≡ covers o (entry_at s (b + 8 * i))

pub edging_start : (s : List ℕ) (b n o r : ℕ) → Edging s b n o b n r
edging_start s b n o r = record { at = omega arith; few = omega arith; same = λ i l. absurd (omega arith) }

pub edging_next : (s : List ℕ) (b n o q left r : ℕ) → Edging s b n o q left r → 0 < left → (z : ℕ) → Edge s q o r z → Edging s b n o (q + 8) (left - 1) z
edging_next s b n o q left r h m z d =
    let f = h.few in let a = h.at in
    record { at = omega arith; few = omega arith; same = λ i l p j k. go i l p j k (side i (n - left)) }
  where
    go : (i : ℕ) → i < n - (left - 1) → (p : ℕ) → o ≤ p → p < z → (i < n - left) ⊎ (n - left ≤ i) → covers p (entry_at s (b + 8 * i)) ≡ covers o (entry_at s (b + 8 * i))
    go i l p j k (inl y) = let c = d.least in h.same i y p j (omega arith)
    go i l p j k (inr y) =
        let f = h.few in let a = h.at in
        let e : b + 8 * i ≡ q = omega arith in
        rw e (d.same p j k)

pub edging_end : (s : List ℕ) (x : Site) (o q left r : ℕ) → Edging s x.table x.entries o q left r → left ≤ 0 → Alike s x o r
edging_end s x o q left r h m = record { same = λ i l p j k. h.same i (omega arith) p j k }

alike_all : (L : Program) (c : ℕ → ℕ) (fs : List Frame) (o p : ℕ) (g : Bool) (l : List Ty) (s : List ℕ) (n q : ℕ) → ((i : ℕ) → i < n → covers p (entry_at s (q + 8 * i)) ≡ covers o (entry_at s (q + 8 * i)))
    → handlers_by L c fs p g l (handlers_from s n q) ≡ handlers_by L c fs o g l (handlers_from s n q)
unfolding handlers_by handler_by handlers_from
alike_all L c fs o p g l s zero q h = refl
alike_all L c fs o p g l s (suc n) q h =
    let z : q + 8 * 0 ≡ q = omega arith in
    let e : covers p (entry_at s q) ≡ covers o (entry_at s q) = subst (λ (k : ℕ). covers p (entry_at s k) ≡ covers o (entry_at s k)) z (h 0 (omega arith)) in
    let k : handlers_by L c fs p g l (handlers_from s n (q + 8)) ≡ handlers_by L c fs o g l (handlers_from s n (q + 8)) =
    alike_all L c fs o p g l s n (q + 8) (λ i m. let y : q + 8 * (i + 1) ≡ q + 8 + 8 * i = omega arith in subst (λ (k : ℕ). covers p (entry_at s k) ≡ covers o (entry_at s k)) y (h (i + 1) (omega arith))) in
    rw (e, k)

-- so the handlers ask at p what they asked at o, where the locals are the same
pub handled_alike : (s t u : List ℕ) (x : Site) (kin : Kin) (f : Rows) (h : Held) (o z p : ℕ) → Walking s t x kin f h → take 260736 u ≡ take 260736 t → locals_of u h ≡ locals_of t h → Alike s x o z → o ≤ p → p < z
    → Handled s t x kin f h o true → Handled s u x kin f h p true
handled_alike s t u x kin f h o z p w q S a l m d e =
    d refl
    ∙ ap (λ (cs : List (Claim ℕ)). verdict cs)
    (sym (hands_kept s t u x kin f h p w q S
    ∙ alike_all (lineage t kin.at kin.count) (catch_in t x.class (first_class + x.classes)) (frames_of t f) o p h.flag (locals_of t h) s x.entries x.table (λ i n. a.same i n p l m)))

-- up to z nothing covers, or the same does
pub record Level (s : List ℕ) (x : Site) (o : ℕ) (loose : Bool) (z : ℕ) : Type 0 where
  pub quiet : loose ≡ true → Quiet s x o z
  pub alike : loose ≡ false → Alike s x o z

pub level_quiet : (s : List ℕ) (x : Site) (o z : ℕ) → Quiet s x o z → o < z → Level s x o (ltb o z) z
level_quiet s x o z q l = record { quiet = λ e. q; alike = λ e. absurd (not_so (sym e ∙ lt-ltb o z l)) }

pub level_alike : (s : List ℕ) (x : Site) (o y z : ℕ) → Alike s x o z → y ≤ o → Level s x o (ltb o y) z
level_alike s x o y z a l = record { quiet = λ e. absurd (not_so (sym (le-ltb o y l) ∙ e)); alike = λ e. a }

-- ---- frames
-- where the frame of a row stands
pub record Stands (t : List ℕ) (f : Rows) (row end z : ℕ) : Type 0 where
  pub here : row < f.count → z ≡ offset_at t f row
  pub behind : f.count ≤ row → z ≡ end

pub stands_behind : (t : List ℕ) (f : Rows) (row end : ℕ) → f.count ≤ row → Stands t f row end end
stands_behind t f row end l = record { here = λ m. absurd (omega arith); behind = λ m. refl }

pub stands_row : (t : List ℕ) (f : Rows) (row end z : ℕ) → row < f.count → z ≡ offset_at t f row → Stands t f row end z
stands_row t f row end z l e = record { here = λ m. e; behind = λ m. absurd (omega arith) }

-- the rows below this one stand before o
pub record Beyond (t : List ℕ) (f : Rows) (row o : ℕ) : Type 0 where
  pub within : row ≤ f.count
  pub before : (i : ℕ) → i < row → offset_at t f i < o

pub beyond_start : (t : List ℕ) (f : Rows) (o : ℕ) → Beyond t f 0 o
beyond_start t f o = record { within = omega arith; before = λ i l. absurd (omega arith) }

pub beyond_on : (t u : List ℕ) (f : Rows) (row o p : ℕ) → take 260736 u ≡ take 260736 t → f.at + 68 * f.count + 68 ≤ 65184 → Beyond t f row o → o ≤ p → Beyond u f row p
beyond_on t u f row o p e m b l = record {
  within = b.within;
  before = λ i k.
      let w = b.within in
      let z : offset_at u f i ≡ offset_at t f i = front-word t u e (f.at + 68 * i + 64) (omega arith) in
      omega (arith, b.before i k);
}

no_row : (t : List ℕ) (n p a k : ℕ) → ((i : ℕ) → i < k → word t (a + 68 * i + 64) ≡ p → ⊥) → frame_at (frames_at t n a k) p ≡ none
unfolding frames_at frame_at
no_row t n p a zero h = refl
no_row t n p a (suc k) h =
    let z : a + 68 * 0 + 64 ≡ a + 64 = omega arith in
    rw (ne_eqb (word t (a + 64)) p (λ e. h 0 (omega arith) (ap (word t) z ∙ e)))
    (no_row t n p (a + 68) k (λ i l e. let y : a + 68 * (i + 1) + 64 ≡ a + 68 + 68 * i + 64 = omega arith in h (i + 1) (omega arith) (ap (word t) y ∙ e)))

-- none between the rows below this one and its own
pub free_before : (t : List ℕ) (f : Rows) (row o end z p : ℕ) → Laid t f → Beyond t f row o → Stands t f row end z → o ≤ p → p < z → frame_at (frames_of t f) p ≡ none
free_before t f row o end z p d b s l m = no_row t f.locals p f.at f.count (λ i k e. other i k e (side i row))
  where
    other : (i : ℕ) → i < f.count → offset_at t f i ≡ p → (i < row) ⊎ (row ≤ i) → ⊥
    other i k e (inl c) = omega (arith, b.before i c)
    other i k e (inr c) = up (side row i)
      where
        up : (row < i) ⊎ (i ≤ row) → ⊥
        up (inl y) = omega (arith, s.here (omega arith), d.rising row i y k)
        up (inr y) = let q : i ≡ row = omega arith in let j : offset_at t f i ≡ offset_at t f row = rw q in omega (arith, s.here (omega arith))

pub beyond_past : (t : List ℕ) (f : Rows) (row o end z : ℕ) → Beyond t f row o → Stands t f row end z → z ≤ o → o < end → Beyond t f (row + 1) (o + 1)
beyond_past t f row o end z b s l m = record { within = at (side row f.count); before = λ i k. under i k (side i row) }
  where
    at : (row < f.count) ⊎ (f.count ≤ row) → row + 1 ≤ f.count
    at (inl k) = omega arith
    at (inr k) = absurd (omega (arith, s.behind k))

    under : (i : ℕ) → i < row + 1 → (i < row) ⊎ (row ≤ i) → offset_at t f i < o + 1
    under i k (inl c) = omega (arith, b.before i c)
    under i k (inr c) =
        let q : i ≡ row = omega arith in
        let j : offset_at t f i ≡ offset_at t f row = rw q in
        omega (arith, s.here (omega (arith, at (side row f.count))))

-- ---- both
-- between o and z no frame stands, and nothing covers or the same does
pub record Unmet (s t : List ℕ) (x : Site) (f : Rows) (o : ℕ) (loose : Bool) (z : ℕ) : Type 0 where
  pub free : (p : ℕ) → o < p → p < z → frame_at (frames_of t f) p ≡ none
  pub level : Level s x o loose z

pub unmet_kept : (s t u : List ℕ) (x : Site) (kin : Kin) (f : Rows) (h : Held) (o : ℕ) (b : Bool) (z : ℕ) → Walking s u x kin f h → take 260736 u ≡ take 260736 t → Unmet s t x f o b z → Unmet s u x f o b z
unmet_kept s t u x kin f h o b z w e m = let r = w.rows in record {
  free = λ p a c. ap (λ (g : List Frame). frame_at g p) (frames_outside 65184 t u (front-word t u e) f w.laid.locals (omega arith)) ∙ m.free p a c;
  level = m.level;
}

pub record Scouted (s t : List ℕ) (x : Site) (f : Rows) (o : ℕ) (r : Ahead) : Type 0 where
  pub clear : r.clear ≡ true → frame_at (frames_of t f) o ≡ none
  pub beyond : Beyond t f r.row (o + 1)
  pub quiet : Quiet s x o r.quiet
  pub unmet : Unmet s t x f o r.loose r.till

module _ (s t : List ℕ) (x : Site) (f : Rows) (o end row z : ℕ) (d : Laid t f) (b : Beyond t f row o) (st : Stands t f row end z) (l : o < end) where
  passed : (k : Bool) → ltb o z ≡ k → Beyond t f (row + cond k 0 1) (o + 1)
  passed true e = let y : row + 0 ≡ row = omega arith in rw y (record { within = b.within; before = λ i k. omega (arith, b.before i k) })
  passed false e = beyond_past t f row o end z b st (ltb-false o z e) l

  pub scouted : (row' quiet level till y : ℕ) (loose : Bool) → row' ≡ row + cond (ltb o z) 0 1 → Quiet s x o quiet → Level s x o loose level → Stands t f row' end y → till ≤ level → till ≤ y
      → Scouted s t x f o (record { row = row'; quiet = quiet; clear = ltb o z; till = till; loose = loose })
  scouted row' quiet level till y loose e q v su m n =
      let p : Beyond t f row' (o + 1) = rw e (passed (ltb o z) refl) in
      record {
        clear = λ c. free_before t f row o end z o d b st (omega arith) (ltb-true o z c);
        beyond = p;
        quiet = q;
        unmet = record {
          free = λ i a k. free_before t f row' (o + 1) end y i d p su (omega arith) (omega arith);
          level = record {
            quiet = λ c. quiet_on s x o level o till (v.quiet c) (omega arith) m;
            alike = λ c. record { same = λ i a k j r. (v.alike c).same i a k j (omega arith) };
          };
        };
      }
